-- Every balanced path below the worst has a record that is no dearer, and the costs of rounds never fall.
use Rattle.std.proofs.Common.{◌≡◌, ℕ, ◌⊎◌, List, [], ◌∷◌, ◌++◌, sym, refl, ap, ◌∙◌, subst, subst₂, inl, inr, ⊎_elim}
use Rattle.std.proofs.lemmas.Bool.{both_ways, cases_Bool}
use Rattle.costs.specs.Meaning.{Meaning, Lawful, Cost, NoDearer}
use Rattle.board.specs.declared.moves.Move.{Move}
use Rattle.board.specs.declared.moves.Effect.TheVariants.{Quiet, Opens, Closes}
use Rattle.board.specs.Content.{Content, Sound}
use Rattle.board.specs.Moves.{Place, On, Transition}
use Rattle.board.specs.Paths.{BalancedPath}
use Rattle.board.specs.Settling.{Cheaper, In, Record, start_record, diagonal, Candidate, step, call, Unrecorded, Precedes, Round, Rounds, begin, round, SettledLog}
use Rattle.board.specs.Promises.{RecordedWithin, LeastCost}
use Rattle.board.proofs.Basics.Laws.{no_dearer_same, no_dearer_eq, no_dearer_left, cheaper_no_dearer, join_no_dearer, cheaper_down, free_below, call_first, call_second}
use Rattle.board.proofs.Basics.Membership.{in_right}
use Rattle.board.proofs.Rounds.Diagonal.{started, in_rounds, Held, find}
use Rattle.board.proofs.Paths.Standing.{transition_to}
use Rattle.board.proofs.Paths.Decomposing.{GrownPath, none_yet, then_step, then_call, grown_of, grown_cost, transition_cost}
use Rattle.board.proofs.Rounds.Spelling.{spelled, balanced_cost}
use Rattle.board.proofs.Rounds.Pairs.{distinct}

-- the cost of each record is a cost
abbrev pub Priced : Meaning → List Record → Type 0
Priced m log = (a : Record) → In a log → Cost m a.cost

module _ {m : Meaning} {c : Content} (laws : Lawful m) (sound : Sound m c) where
  pub candidate_cost : {log : List Record} {x : Record} → Priced m log → Candidate m c log x → Cost m x.cost
  candidate_cost p (step a i g) = laws.join_cost _ _ (p a i) (transition_cost laws sound g)
  candidate_cost p (call a b i g j h) = laws.join_cost _ _ (laws.join_cost _ _ (laws.join_cost _ _ (p a i) (transition_cost laws sound g)) (p b j)) (transition_cost laws sound h)

  pub priced : {n : ℕ} {log : List Record} → Rounds m c n log → Priced m log
  priced begin a i = let e = started m c a i in subst (λ (x : Record). Cost m x.cost) (sym e.1) laws.free_cost
  priced (round s r) a (inl e) = subst (λ (x : Record). Cost m x.cost) (sym e) (candidate_cost (priced s) r.candidate)
  priced (round s r) a (inr i) = priced s a i

  -- No candidate for an unsettled pair is cheaper than a record, and none for a settled pair than that pair's record.
  Minimal : List Record → Type 0
  Minimal log = (y : Record) → Candidate m c log y → (a : Record) → In a log → Unrecorded log y.from y.to ⊎ ((a.from ≡ y.from) × (a.to ≡ y.to)) → NoDearer m a.cost y.cost

  no_dearer_at : (a x : Record) (k : ℕ) → a ≡ x → NoDearer m a.cost k → NoDearer m x.cost k
  no_dearer_at a x k e h = subst (λ (z : Record). NoDearer m z.cost k) e h

  -- a candidate after a round was one before it, or is no cheaper than the round's record
  older : {log : List Record} {x y : Record} → Priced m (x ∷ log) → Candidate m c (x ∷ log) y → Candidate m c log y ⊎ NoDearer m x.cost y.cost
  older p (step a (inl e) g) = inr (no_dearer_at _ _ _ e (no_dearer_left laws _ _ (p a (inl e)) (transition_cost laws sound g)))
  older p (step a (inr i) g) = inl (step a i g)
  older p (call a b (inl e) g j h) = inr (no_dearer_at _ _ _ e (call_first laws _ _ _ _ (p a (inl e)) (transition_cost laws sound g) (p b j) (transition_cost laws sound h)))
  older p (call a b (inr i) g (inl e) h) = inr (no_dearer_at _ _ _ e (call_second laws _ _ _ _ (p a (inr i)) (transition_cost laws sound g) (p b (inl e)) (transition_cost laws sound h)))
  older p (call a b (inr i) g (inr j) h) = inl (call a b i g j h)

  precedes_no_dearer : (x y : Record) → Cost m x.cost → Cost m y.cost → Precedes m c x y → NoDearer m x.cost y.cost
  precedes_no_dearer x y hx hy (inl k) = cheaper_no_dearer laws _ _ hx hy k
  precedes_no_dearer x y hx hy (inr e) = no_dearer_eq laws _ _ hx e.0

  -- one round keeps the log minimal
  module _ {log : List Record} {x : Record} (p : Priced m (x ∷ log)) (t : Minimal log) (r : Round m c log x) where
    below_new : (a : Record) → In a log → NoDearer m a.cost x.cost
    unfolding Minimal
    below_new a i = t x r.candidate a i (inl r.unrecorded)

    above_new : (y : Record) → Cost m y.cost → Candidate m c log y → Unrecorded log y.from y.to → NoDearer m x.cost y.cost
    above_new y hy k u = precedes_no_dearer x y (p x (inl refl)) hy (r.first y k u)

    Fits : Record → Record → Type 0
    Fits a y = Unrecorded (x ∷ log) y.from y.to ⊎ ((a.from ≡ y.from) × (a.to ≡ y.to))

    old_old : (y : Record) → Candidate m c log y → (a : Record) → In a log → Fits a y → NoDearer m a.cost y.cost
    unfolding Minimal Fits
    old_old y k a i (inl u) = t y k a i (inl (λ b j. u b (inr j)))
    old_old y k a i (inr e) = t y k a i (inr e)

    old_new : (y : Record) → Cost m y.cost → Candidate m c log y → Fits x y → NoDearer m x.cost y.cost
    unfolding Fits
    old_new y hy k (inl u) = above_new y hy k (λ b j. u b (inr j))
    old_new y hy k (inr e) = above_new y hy k (λ b j e' f'. r.unrecorded b j (e' ∙ sym e.0) (f' ∙ sym e.1))

    minimal_at : (y : Record) → Cost m y.cost → Candidate m c log y ⊎ NoDearer m x.cost y.cost → (a : Record) → In a (x ∷ log) → Fits a y → NoDearer m a.cost y.cost
    unfolding Fits
    minimal_at y hy (inl k) a (inl e) f = no_dearer_at _ _ _ (sym e) (old_new y hy k (⊎_elim (λ u. inl u) (λ g. inr (ap (λ (z : Record). z.from) (sym e) ∙ g.0, ap (λ (z : Record). z.to) (sym e) ∙ g.1)) f))
    minimal_at y hy (inl k) a (inr i) f = old_old y k a i f
    minimal_at y hy (inr w) a (inl e) f = no_dearer_at _ _ _ (sym e) w
    minimal_at y hy (inr w) a (inr i) f = laws.trans _ _ _ (p a (inr i)) (p x (inl refl)) hy (below_new a i) w

    minimal_more : Minimal (x ∷ log)
    unfolding Minimal Fits
    minimal_more y k a i f = minimal_at y (candidate_cost p k) (older p k) a i f

  all_minimal : {n : ℕ} {log : List Record} → Rounds m c n log → Minimal log
  unfolding Minimal
  all_minimal begin y k a i f =
      let e = started m c a i in
      no_dearer_at _ _ _ (sym e.1) (laws.free_least _ (candidate_cost (priced begin) k))
  all_minimal (round s r) y k a i f = minimal_more (priced (round s r)) (all_minimal s) r y k a i f

  -- a candidate below the worst has a record no dearer
  candidate_within : {log : List Record} → SettledLog m c log → (y : Record) → Candidate m c log y → Cheaper m y.cost m.worst → RecordedWithin m log y.from y.to y.cost
  unfolding Minimal
  candidate_within {log} d y k below = ⊎_elim (λ (h : Held log y.from y.to). record { held = h.0; logged = h.1; leaves = h.2; enters = h.3; within = all_minimal d.reached y k h.0 h.1 (inr (h.2, h.3)) }) (λ (u : Unrecorded log y.from y.to). absurd (both_ways _ below (d.done y k u))) (find log y.from y.to)

  -- the same from an equal place and at a dearer cost
  within_at : {log : List Record} {s s' q : Place} {k k' : ℕ} → SettledLog m c log → Cost m k → Cost m k' → s ≡ s' → NoDearer m k k' → RecordedWithin m log s q k → RecordedWithin m log s' q k'
  within_at d hk hk' e w h = record { held = h.held; logged = h.logged; leaves = h.leaves ∙ e; enters = h.enters; within = laws.trans _ _ _ (priced d.reached h.held h.logged) hk hk' h.within w }

  within_step : {log : List Record} {s r q : Place} {n k total : ℕ} {v : Move} → SettledLog m c log → Cost m n → RecordedWithin m log s r n → Transition m c v r q k Quiet → total ≡ m.join n k → Cheaper m total m.worst → RecordedWithin m log s q total
  within_step {log} {s} {r} {q} {n} {k} {total} {v} d hn h g e below =
      let a = h.held in
      let g' : Transition m c v a.to q k Quiet = subst (λ z. Transition m c v z q k Quiet) (sym h.enters) g in
      let hk = transition_cost laws sound g in
      let ha = priced d.reached a h.logged in
      let y-cost = laws.join_cost _ _ ha hk in
      let t-cost : Cost m total = subst (λ z. Cost m z) (sym e) (laws.join_cost _ _ hn hk) in
      let w : NoDearer m (m.join a.cost k) total = subst (λ z. NoDearer m (m.join a.cost k) z) (sym e) (laws.mono_left _ _ _ ha hn hk h.within) in
      within_at d y-cost t-cost h.leaves w (candidate_within d _ (step a h.logged g') (cheaper_down laws _ _ _ y-cost t-cost laws.worst_cost w below))

  within_call : {log : List Record} {s r t u q : Place} {n k n' l b total : ℕ} {o w : Move} → SettledLog m c log → Cost m n → Cost m n' → RecordedWithin m log s r n → Transition m c o r t k (Opens b) → RecordedWithin m log t u n' → Transition m c w u q l (Closes b) → total ≡ m.join (m.join (m.join n k) n') l → Cheaper m total m.worst → RecordedWithin m log s q total
  within_call {log} {s} {r} {t} {u} {q} {n} {k} {n'} {l} {b} {total} {o} {w} d hn hn' h g h' g' e below =
      let x = h.held in
      let y = h'.held in
      let go-in : Transition m c o x.to y.from k (Opens b) = subst₂ (λ z z'. Transition m c o z z' k (Opens b)) (sym h.enters) (sym h'.leaves) g in
      let go-out : Transition m c w y.to q l (Closes b) = subst (λ z. Transition m c w z q l (Closes b)) (sym h'.enters) g' in
      let hk = transition_cost laws sound g in
      let hl = transition_cost laws sound g' in
      let hx = priced d.reached x h.logged in
      let hy = priced d.reached y h'.logged in
      let xk = laws.join_cost _ _ hx hk in
      let nk = laws.join_cost _ _ hn hk in
      let xky = laws.join_cost _ _ xk hy in
      let nkn = laws.join_cost _ _ nk hn' in
      let c-cost = laws.join_cost _ _ xky hl in
      let t-cost : Cost m total = subst (λ z. Cost m z) (sym e) (laws.join_cost _ _ nkn hl) in
      let w1 = laws.mono_left _ _ _ hx hn hk h.within in
      let w2 = join_no_dearer laws _ _ _ _ xk nk hy hn' w1 h'.within in
      let wt : NoDearer m (m.join (m.join (m.join x.cost k) y.cost) l) total = subst (λ z. NoDearer m (m.join (m.join (m.join x.cost k) y.cost) l) z) (sym e) (laws.mono_left _ _ _ xky nkn hl w2) in
      within_at d c-cost t-cost h.leaves wt (candidate_within d _ (call x y h.logged go-in h'.logged go-out) (cheaper_down laws _ _ _ c-cost t-cost laws.worst_cost wt below))

  cheaper_eq : (a b w : ℕ) → Cost m a → Cost m b → Cost m w → (x : ℕ) → x ≡ b → NoDearer m a b → Cheaper m x w → Cheaper m a w
  cheaper_eq a b w ha hb hw x e h below = cheaper_down laws a b w ha hb hw h (subst (λ z. Cheaper m z w) e below)

  grown_within : {log : List Record} {s q : Place} {k : ℕ} → SettledLog m c log → GrownPath m c s q k → On c s → Cheaper m k m.worst → RecordedWithin m log s q k
  grown_within {s = s} {k = k} d (none_yet e) on below = record { held = start_record m s; logged = in_rounds s d.reached on; leaves = refl; enters = refl; within = subst (λ z. NoDearer m m.free z) (sym e) (no_dearer_same laws _ laws.free_cost) }
  grown_within d (then_step r g e) on below =
      let hn = grown_cost laws sound r in
      let hk = transition_cost laws sound g in
      within_step d hn (grown_within d r on (cheaper_eq _ _ _ hn (laws.join_cost _ _ hn hk) laws.worst_cost _ e (no_dearer_left laws _ _ hn hk) below)) g e below
  grown_within d (then_call r g r' g' e) on below =
      let hn = grown_cost laws sound r in
      let hk = transition_cost laws sound g in
      let hn' = grown_cost laws sound r' in
      let hl = transition_cost laws sound g' in
      let ht = laws.join_cost _ _ (laws.join_cost _ _ (laws.join_cost _ _ hn hk) hn') hl in
      let hw = laws.worst_cost in
      within_call d hn hn' (grown_within d r on (cheaper_eq _ _ _ hn ht hw _ e (call_first laws _ _ _ _ hn hk hn' hl) below)) g (grown_within d r' (transition_to sound g) (cheaper_eq _ _ _ hn' ht hw _ e (call_second laws _ _ _ _ hn hk hn' hl) below)) g' e below

  pub minimal : {log : List Record} {vs : List Move} {s q : Place} {k : ℕ} → SettledLog m c log → On c s → BalancedPath m c vs s q k → Cheaper m k m.worst → RecordedWithin m log s q k
  minimal {log} {s = s} {q = q} d on b below =
      let w = grown_within d (grown_of laws sound b.path b.balanced b.running) on (subst (λ z. Cheaper m z m.worst) b.price below) in
      subst (λ z. RecordedWithin m log s q z) (sym b.price) w

  -- a record's cost is the least cost of its pair
  pub least_cost : {log : List Record} → SettledLog m c log → (a : Record) → In a log → On c a.from → LeastCost m c a.from a.to a.cost
  least_cost {log} d a i on = record { moves = a.moves; path = spelled laws sound d.reached a i; least = no_less }
    where
      ha : Cost m a.cost
      ha = priced d.reached a i

      no_less : (vs : List Move) (n : ℕ) → BalancedPath m c vs a.from a.to n → NoDearer m a.cost n
      no_less vs n b =
          let hn = balanced_cost laws sound b in
          let by-record : Cheaper m n m.worst → NoDearer m a.cost n = λ below.
          let w = minimal d on b below in
          no_dearer_at _ _ _ (distinct d.reached w.held a w.logged i w.leaves w.enters) w.within in
          ⊎_elim (λ (t : NoDearer m m.worst n). laws.trans a.cost m.worst n ha laws.worst_cost hn (laws.worst_most a.cost ha) t) by-record (cases_Bool (m.no_dearer m.worst n))

  -- a record costs less than the worst
  pub record_below : {n : ℕ} {log : List Record} → Rounds m c n log → (a : Record) → In a log → Cheaper m a.cost m.worst
  record_below begin a i = let e = started m c a i in subst (λ (x : Record). Cheaper m x.cost m.worst) (sym e.1) (free_below laws)
  record_below (round s r) a (inl e) = subst (λ (x : Record). Cheaper m x.cost m.worst) (sym e) r.below
  record_below (round s r) a (inr i) = record_below s a i

  -- a record of the diagonal is free
  diagonal_free : (a : Record) → In a (diagonal m c) → m.free ≡ a.cost
  diagonal_free a i = let e = started m c a i in ap (λ (x : Record). x.cost) (sym e.1)

  -- a record is no dearer than one that was settled after it
  pub rising : {n : ℕ} {log : List Record} → Rounds m c n log → (newer older : List Record) (a b : Record) → log ≡ newer ++ (b ∷ older) → In a older → NoDearer m a.cost b.cost
  rising begin newer older a b e i =
      let a_in : In a (diagonal m c) = subst (λ l. In a l) (sym e) (in_right a newer (b ∷ older) (inr i)) in
      let b-in : In b (diagonal m c) = subst (λ l. In b l) (sym e) (in_right b newer (b ∷ older) (inl refl)) in
      no_dearer_eq laws _ _ (priced begin a a_in) (sym (diagonal_free a a_in) ∙ diagonal_free b b-in)
  rising (round {log = log} {x = x} s r) [] older a b e i =
      let eb : x ≡ b = cc in
      let el : log ≡ older = cc in
      subst (λ (z : Record). NoDearer m a.cost z.cost) eb (below_new (priced (round s r)) (all_minimal s) r a (subst (λ l. In a l) (sym el) i))
  rising (round {log = log} s r) (y ∷ newer) older a b e i =
      let el : log ≡ newer ++ (b ∷ older) = cc in
      rising s newer older a b el i
