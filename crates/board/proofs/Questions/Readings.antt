-- The recorded reading is complete, and no complete reading is cheaper.
use Rattle.std.proofs.Common.{◌≡◌, ℕ, ◌≤◌, true, eqb, ◌⊎◌, List, [], ◌∷◌, ◌++◌, None, sym, refl, ap, ◌∙◌, subst, subst₂, inl, inr, ⊎_elim, append-nil}
use Rattle.std.proofs.lemmas.Bool.{cases_Bool, and_parts, eqb-true}
use Rattle.costs.specs.Meaning.{Meaning, Lawful, Cost, NoDearer}
use Rattle.costs.specs.Lists.{joined}
use Rattle.board.specs.declared.row.RowKind.{RowKind}
use Rattle.board.specs.declared.row.RowKind.TheVariants.{Plain, Open, Close, End}
use Rattle.board.specs.declared.row.Row.{Row}
use Rattle.board.specs.declared.moves.Move.{Move}
use Rattle.board.specs.declared.moves.Effect.{Effect}
use Rattle.board.specs.declared.moves.Effect.TheVariants.{Ends}
use Rattle.board.specs.Rows.{formed}
use Rattle.board.specs.Content.{Content, Sound}
use Rattle.board.specs.Moves.{Place, origin, effect_of, Transition}
use Rattle.board.specs.Paths.{Path, stop, go, Dyck, empty, Balanced, BalancedPath, Complete}
use Rattle.board.specs.Settling.{Cheaper, bare, Record, Rounds, SettledLog, ReadingBy, RecordedReading, HasNoReading, AnswersCost}
use Rattle.board.proofs.Basics.Joining.{joined_append}
use Rattle.board.proofs.Basics.Laws.{no_dearer_eq, no_dearer_left, cheaper_no_dearer, cheaper_down}
use Rattle.board.proofs.Rounds.Diagonal.{place_eq}
use Rattle.board.proofs.Rounds.Candidates.{move_eq}
use Rattle.board.proofs.Paths.Decomposing.{transition_cost, path_cost, same_head, same_tail, no_cons, cons_no}
use Rattle.board.proofs.Paths.Balance.{brackets-++}
use Rattle.board.proofs.Rounds.Spelling.{spelled, path-++, balanced-++}
use Rattle.board.proofs.Rounds.Minimal.{minimal, priced}

pub ends_kind : (k : RowKind) (n : ℕ) → Ends ≡ effect_of k n → k ≡ End
ends_kind Plain n e = absurd cc
ends_kind Open n e = absurd cc
ends_kind Close n e = absurd cc
ends_kind End n e = refl

-- an end row's modes are equal
end_modes : (k : RowKind) (r : Row) → formed k r ≡ true → k ≡ End → r.from ≡ r.to
end_modes Plain r h e = absurd cc
end_modes Open r h e = absurd cc
end_modes Close r h e = absurd cc
end_modes End r h e = eqb-true _ _ (and_parts (eqb r.action 0) _ (and_parts (eqb r.label 0) _ h).1).1

plain_not_end : (k : RowKind) → k ≡ Plain → k ≡ End → ⊥
plain_not_end k e f = cc

-- a path taken apart at its last move
record LastMove (m : Meaning) (c : Content) (p q : Place) (ks : List ℕ) (es : List Effect) (e : Effect) : Type 0 where
  moves : List Move
  last : Move
  mid : Place
  near : List ℕ
  price : ℕ
  path : Path m c moves p mid near es
  over : Transition m c last mid q price e
  costs_are : ks ≡ near ++ (price ∷ [])

module _ {m : Meaning} {c : Content} where
  no_moves : {vs : List Move} {p q : Place} {ks : List ℕ} {es : List Effect} → Path m c vs p q ks es → es ≡ [] → (p ≡ q) × (ks ≡ [])
  no_moves stop e = (refl, refl)
  no_moves (go g p) e = absurd (cons_no _ _ e)

  last_move : (es : List Effect) (e : Effect) {vs : List Move} {p q : Place} {ks : List ℕ} {fs : List Effect} → Path m c vs p q ks fs → fs ≡ es ++ (e ∷ []) → LastMove m c p q ks es e
  last_move [] e stop eq = absurd (no_cons _ _ eq)
  last_move [] e (go {v} {p = p} {q = q} {k = k} g path) eq =
      let z = no_moves path (same_tail _ _ _ _ eq) in
      let g' : Transition m c v p q k e = subst₂ (λ (x : Place) (y : Effect). Transition m c v p x k y) z.0 (same_head _ _ _ _ eq) g in
      record { moves = []; last = v; mid = p; near = []; price = k; path = stop; over = g'; costs_are = ap (λ ls. k ∷ ls) z.1 }
  last_move (x ∷ es) e stop eq = absurd (no_cons _ _ eq)
  last_move (x ∷ es) e (go {v} {p = p} {r = r} {k = k} g path) eq =
      let z = last_move es e path (same_tail _ _ _ _ eq) in
      let g' : Transition m c v p r k x = subst (λ y. Transition m c v p r k y) (same_head _ _ _ _ eq) g in
      record { moves = v ∷ z.moves; last = z.last; mid = z.mid; near = k ∷ z.near; price = z.price; path = go g' z.path; over = z.over; costs_are = ap (λ ls. k ∷ ls) z.costs_are }

module _ {m : Meaning} {c : Content} (laws : Lawful m) (sound : Sound m c) where
  -- an end row takes no line, and keeps the place
  pub end_alone : {v : Move} {p q : Place} {k : ℕ} → Transition m c v p q k Ends → (v.line ≡ None) × (p ≡ q)
  end_alone {v} {p} {q} g =
      let is_end = ends_kind _ _ g.does in
      let modes = g.leaves ∙ end_modes _ g.by (sound.sound_rows _ _ g.found).well_formed is_end ∙ sym g.enters in
      ⊎_elim (λ s. (s.alone, place_eq p q modes s.keeps)) (λ s. absurd (plain_not_end _ s.is_plain is_end)) g.time

  -- a record spelled out, and then an end row
  ended : {vs : List Move} {p q : Place} {k n : ℕ} {v : Move} → BalancedPath m c vs p q k → p ≡ origin → Transition m c v q q n Ends → Complete m c (vs ++ (v ∷ [])) (m.join k n)
  ended {vs} {p} {q} {k} {n} {v} b o g = record {
    costs = b.costs ++ (n ∷ []);
    body = b.effects;
    stops = q;
    path = subst (λ x. Path m c (vs ++ (v ∷ [])) x q (b.costs ++ (n ∷ [])) (b.effects ++ (Ends ∷ []))) o (path-++ b.path (go g stop));
    balanced = balanced-++ b.effects (Ends ∷ []) b.balanced empty;
    running = b.running;
    price = ap (λ z. m.join z n) b.price ∙ sym (joined_append m m.free b.costs (n ∷ []));
  }

  -- a reading is complete
  pub reading_complete : {n : ℕ} {log : List Record} {i k : ℕ} {vs : List Move} → Rounds m c n log → ReadingBy m c log i k vs → Complete m c vs k
  reading_complete s r = subst₂ (λ x y. Complete m c x y) (sym r.moves_are) (sym r.cost_is) (ended (spelled laws sound s r.held r.logged) r.starts_0 r.over)

  pub complete_cost : {k : ℕ} {vs : List Move} → Complete m c vs k → Cost m k
  complete_cost h = subst (λ x. Cost m x) (sym h.price) (path_cost laws sound h.path)

  pub reading_cost : {n : ℕ} {log : List Record} {i k : ℕ} {vs : List Move} → Rounds m c n log → ReadingBy m c log i k vs → Cost m k
  reading_cost s r = complete_cost (reading_complete s r)

  -- a reading of the log that is no dearer than k
  record ReadingWithin (log : List Record) (k : ℕ) : Type 0 where
    row : ℕ
    cost : ℕ
    moves : List Move
    reads : ReadingBy m c log row cost moves
    within : NoDearer m cost k

  -- a complete reading below the worst has a reading of the log that is no dearer
  reading_of : {log : List Record} {k : ℕ} {vs : List Move} → SettledLog m c log → Complete m c vs k → Cheaper m k m.worst → ReadingWithin log k
  reading_of {log} {k} {vs} d h below =
      let z = last_move h.body Ends h.path refl in
      let balanced : Balanced h.body = subst Dyck (brackets-++ h.body (Ends ∷ []) ∙ append-nil _) h.balanced in
      let hn = path_cost laws sound z.path in
      let hp = transition_cost laws sound z.over in
      let sum : k ≡ m.join (joined m z.near) z.price = h.price ∙ ap (joined m) z.costs_are ∙ joined_append m m.free z.near (z.price ∷ []) in
      let near_within : NoDearer m (joined m z.near) k = subst (λ x. NoDearer m (joined m z.near) x) (sym sum) (no_dearer_left laws _ _ hn hp) in
      let body : BalancedPath m c z.moves origin z.mid (joined m z.near) = record { costs = z.near; effects = h.body; path = z.path; balanced = balanced; running = h.running; price = refl } in
      let a = minimal laws sound d (sound.some_mode, sound.some_moment) body (cheaper_down laws _ _ _ hn (complete_cost h) laws.worst_cost near_within below) in
      let e = end_alone z.over in
      let i = z.last.row in
      let over₁ : Transition m c (bare i) z.mid z.mid z.price Ends = subst₂ (λ x y. Transition m c x z.mid y z.price Ends) (move_eq z.last (bare i) refl e.0) (sym e.1) z.over in
      let over₂ : Transition m c (bare i) a.held.to a.held.to z.price Ends = subst (λ x. Transition m c (bare i) x x z.price Ends) (sym a.enters) over₁ in
      record {
        row = i;
        cost = m.join a.held.cost z.price;
        moves = a.held.moves ++ (bare i ∷ []);
        reads = record { held = a.held; logged = a.logged; starts_0 = a.leaves; price = z.price; over = over₂; cost_is = refl; moves_are = refl };
        within = subst (λ x. NoDearer m (m.join a.held.cost z.price) x) (sym sum) (laws.mono_left _ _ _ (priced laws sound d.reached a.held a.logged) hn hp a.within);
      }

  least_no_dearer : (k n last i : ℕ) → Cost m k → Cost m n → Cheaper m k n ⊎ ((k ≡ n) × (last ≤ i)) → NoDearer m k n
  least_no_dearer k n last i hk hn (inl h) = cheaper_no_dearer laws k n hk hn h
  least_no_dearer k n last i hk hn (inr e) = no_dearer_eq laws k n hk e.0

  pub recorded_complete : {log : List Record} {k : ℕ} {vs : List Move} → SettledLog m c log → RecordedReading m c log k vs → Complete m c vs k
  recorded_complete d r = reading_complete d.reached r.reads

  -- no complete reading is cheaper than the recorded one
  pub recorded_cheapest : {log : List Record} {k n : ℕ} {vs ws : List Move} → SettledLog m c log → RecordedReading m c log k vs → Complete m c ws n → NoDearer m k n
  recorded_cheapest {log} {k} {n} d r h =
      let hk = reading_cost d.reached r.reads in
      let hn = complete_cost h in
      let by-log : Cheaper m n m.worst → NoDearer m k n = λ below.
      let z = reading_of d h below in
      let hz = reading_cost d.reached z.reads in
      laws.trans k z.cost n hk hz hn (least_no_dearer k z.cost r.last z.row hk hz (r.least z.row z.cost z.moves z.reads)) z.within in
      ⊎_elim (λ (t : NoDearer m m.worst n). laws.trans k m.worst n hk laws.worst_cost hn (laws.worst_most k hk) t) by-log (cases_Bool (m.no_dearer m.worst n))

  -- there is no reading exactly if no complete reading costs less than the worst
  pub none_complete : {log : List Record} → SettledLog m c log → HasNoReading m c log → (ws : List Move) (n : ℕ) → Complete m c ws n → NoDearer m m.worst n
  none_complete d u ws n h =
      let by-log : Cheaper m n m.worst → NoDearer m m.worst n = λ below.
      let z = reading_of d h below in
      laws.trans m.worst z.cost n laws.worst_cost (reading_cost d.reached z.reads) (complete_cost h) (u z.row z.cost z.moves z.reads) z.within in
      ⊎_elim (λ (t : NoDearer m m.worst n). t) by-log (cases_Bool (m.no_dearer m.worst n))

  pub none_read : {n : ℕ} {log : List Record} → Rounds m c n log → ((ws : List Move) (n : ℕ) → Complete m c ws n → NoDearer m m.worst n) → HasNoReading m c log
  none_read s h i n ws r = h ws n (reading_complete s r)

  -- the answer is a cost, and no complete reading is cheaper
  pub answer_cost : {log : List Record} {k : ℕ} → SettledLog m c log → AnswersCost m c log k → Cost m k
  answer_cost d (inl r) = reading_cost d.reached r.1.reads
  answer_cost d (inr u) = subst (λ x. Cost m x) (sym u.1) laws.worst_cost

  pub answer_least : {log : List Record} {k n : ℕ} {ws : List Move} → SettledLog m c log → AnswersCost m c log k → Complete m c ws n → NoDearer m k n
  answer_least d (inl r) h = recorded_cheapest d r.1 h
  answer_least {n = n} {ws = ws} d (inr u) h = subst (λ x. NoDearer m x n) (sym u.1) (none_complete d u.0 ws n h)
