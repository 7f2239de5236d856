-- The log is determined by the content.
use Rattle.std.proofs.Common.{◌≡◌, ℕ, ◌/◌, ◌%◌, ◌<◌, ◌⊎◌, List, ◌∷◌, Some, None, Option, sym, refl, ap, ◌∙◌, subst, subst₂, inl, inr, ⊎_elim, arith}
use lib.Arith.{digits_div, digits_mod}
use Rattle.std.specs.List.{slice_get}
use Rattle.std.proofs.lemmas.Bool.{both_ways, cases_order}
use Rattle.costs.specs.Meaning.{Meaning, Lawful, Cost}
use Rattle.board.specs.declared.row.RowKind.{RowKind}
use Rattle.board.specs.declared.row.RowKind.TheVariants.{Plain, Open, Close, End}
use Rattle.board.specs.declared.row.Row.{Row}
use Rattle.board.specs.declared.row.Line.{Line}
use Rattle.board.specs.declared.moves.Move.{Move}
use Rattle.board.specs.declared.moves.Effect.{Effect}
use Rattle.board.specs.declared.moves.Effect.TheVariants.{Quiet, Opens, Closes}
use Rattle.board.specs.Content.{Content, Sound}
use Rattle.board.specs.Moves.{Place, mode, moment, place_number, On, effect_of, Untimed, Timed, Transition}
use Rattle.board.specs.Settling.{In, Record, step_record, call_record, Candidate, step, call, line_key, derivation_key, key, Precedes, Round, Rounds, begin, round, SettledLog}
use Rattle.board.proofs.Basics.Laws.{no_dearer_eq, cheaper_no_dearer}
use Rattle.board.proofs.Basics.Membership.{some_eq, none_some}
use Rattle.board.proofs.Rounds.Diagonal.{place_eq}
use Rattle.board.proofs.Rounds.Candidates.{move_eq}
use Rattle.board.proofs.Rounds.Precedence.{lex_antisym}
use Rattle.board.proofs.Rounds.Pairs.{Distinct, distinct, candidate_on}
use Rattle.board.proofs.Rounds.Minimal.{priced, candidate_cost}

-- one move into one place comes from one place at one cost
module _ {m : Meaning} {c : Content} where
  time_back : (r : Row) (w : Option ℕ) (t t' u k k' : ℕ) → Untimed c r w t u k ⊎ Timed m c r w t u k → Untimed c r w t' u k' ⊎ Timed m c r w t' u k' → (t ≡ t') × (k ≡ k')
  time_back r w t t' u k k' (inl s) (inl s') = (s.keeps ∙ sym s'.keeps, s.price ∙ sym s'.price)
  time_back r w t t' u k k' (inl s) (inr p') = absurd (none_some w _ s.alone p'.along)
  time_back r w t t' u k k' (inr p) (inl s') = absurd (none_some w _ s'.alone p.along)
  time_back r w t t' u k k' (inr p) (inr p') =
      let n = some_eq w _ _ p.along p'.along in
      let l : p.taken ≡ p'.taken = some_eq _ _ _ (ap (slice_get c.lines) (sym n) ∙ p.found) p'.found in
      (p.depart ∙ ap (λ (x : Line). x.from) l ∙ sym p'.depart, p.price ∙ ap (λ (x : Line). m.join r.cost x.cost) l ∙ sym p'.price)

  pub transition_back : {v : Move} {p p' q : Place} {k k' : ℕ} {e e' : Effect} → Transition m c v p q k e → Transition m c v p' q k' e' → (p ≡ p') × (k ≡ k')
  transition_back {v} {p} {p'} {q} {k} {k'} g g' =
      let b : g.by ≡ g'.by = some_eq _ _ _ g.found g'.found in
      let t = time_back g'.by v.line (moment p) (moment p') (moment q) k k' (subst (λ r. Untimed c r v.line (moment p) (moment q) k ⊎ Timed m c r v.line (moment p) (moment q) k) b g.time) g'.time in
      (place_eq p p' (g.leaves ∙ ap (λ (r : Row). r.from) b ∙ sym g'.leaves) t.0, t.1)

-- places of one number are one
pub number_eq : (c : Content) (p q : Place) → On c p → On c q → place_number c p ≡ place_number c q → p ≡ q
number_eq c p q h g e = place_eq p q (sym (digits_div (mode p) h.1) ∙ ap (λ x. x / c.moments) e ∙ digits_div (mode q) g.1) (sym (digits_mod (mode p) h.1) ∙ ap (λ x. x % c.moments) e ∙ digits_mod (mode q) g.1)

line_eq : (w w' : Option ℕ) → line_key w ≡ line_key w' → w ≡ w'
line_eq None None e = refl
line_eq None (Some j) e = absurd cc
line_eq (Some i) None e = absurd cc
line_eq (Some i) (Some j) e = cc

-- a plain row does nothing to the brackets
plain_quiet : (k : RowKind) (n : ℕ) (e : Effect) → k ≡ Plain → e ≡ effect_of k n → e ≡ Quiet
plain_quiet Plain n e h g = g
plain_quiet Open n e h g = absurd cc
plain_quiet Close n e h g = absurd cc
plain_quiet End n e h g = absurd cc

pub opens_not_quiet : (n : ℕ) → Opens n ≡ Quiet → ⊥
opens_not_quiet n e = cc

pub closes_not_quiet : (n : ℕ) → Closes n ≡ Quiet → ⊥
closes_not_quiet n e = cc

module _ {m : Meaning} {c : Content} where
  -- a bracket takes no line and keeps the moment
  pub bracket_alone : {v : Move} {p q : Place} {k : ℕ} {e : Effect} → (e ≡ Quiet → ⊥) → Transition m c v p q k e → (v.line ≡ None) × (moment p ≡ moment q)
  bracket_alone not-quiet g = ⊎_elim (λ s. (s.alone, s.keeps)) (λ s. absurd (not-quiet (plain_quiet _ _ _ s.is_plain g.does))) g.time

  -- one bracket at one moment is between one pair of places
  bracket_places : {v : Move} {p p' q q' : Place} {k k' : ℕ} {e e' : Effect} → (e ≡ Quiet → ⊥) → (e' ≡ Quiet → ⊥) → Transition m c v p q k e → Transition m c v p' q' k' e' → moment p ≡ moment p' → (p ≡ p') × (q ≡ q')
  bracket_places {v} {p} {p'} {q} {q'} l l' g g' t =
      let b : g.by ≡ g'.by = some_eq _ _ _ g.found g'.found in
      (place_eq p p' (g.leaves ∙ ap (λ (r : Row). r.from) b ∙ sym g'.leaves) t, place_eq q q' (g.enters ∙ ap (λ (r : Row). r.to) b ∙ sym g'.enters) (sym (bracket_alone l g).1 ∙ t ∙ (bracket_alone l' g').1))

  same_step : (log : List Record) {v v' : Move} {q q' : Place} {k k' : ℕ} (a a' : Record) → Distinct log → In a log → In a' log → Transition m c v a.to q k Quiet → Transition m c v' a'.to q' k' Quiet → a.from ≡ a'.from → q ≡ q' → v ≡ v' → step_record m a v q k ≡ step_record m a' v' q' k'
  same_step log {k = k} {k' = k'} a a' d i i' g g' ef eq ev =
      let b = transition_back (subst₂ (λ x y. Transition m c x a.to y k Quiet) ev eq g) g' in
      let ea = d a a' i i' ef b.0 in
      λ j. step_record m (ea j) (ev j) (eq j) (b.1 j)

  same_call : (log : List Record) {o o' w w' : Move} {q q' : Place} {k k' l l' n n' : ℕ} (a a' b b' : Record) → Distinct log → In a log → In a' log → In b log → In b' log → Transition m c o a.to b.from k (Opens n) → Transition m c o' a'.to b'.from k' (Opens n') → Transition m c w b.to q l (Closes n) → Transition m c w' b'.to q' l' (Closes n') → a.from ≡ a'.from → q ≡ q' → o.row ≡ o'.row → w.row ≡ w'.row → moment a.to ≡ moment a'.to → call_record m a o k b w l q ≡ call_record m a' o' k' b' w' l' q'
  same_call log {o = o} {o'} {w} {w'} {q} {q'} {k} {k'} {l} {l'} {n} {n'} a a' b b' d i i' j j' g g' h h' ef eq eo ew et =
      let eo' = move_eq o o' eo ((bracket_alone (opens_not_quiet n) g).0 ∙ sym (bracket_alone (opens_not_quiet n') g').0) in
      let ew' = move_eq w w' ew ((bracket_alone (closes_not_quiet n) h).0 ∙ sym (bracket_alone (closes_not_quiet n') h').0) in
      let there = bracket_places (opens_not_quiet n) (opens_not_quiet n') (subst (λ x. Transition m c x a.to b.from k (Opens n)) eo' g) g' et in
      let ea = d a a' i i' ef there.0 in
      let out = transition_back (subst₂ (λ x y. Transition m c x b.to y l (Closes n)) ew' eq h) h' in
      let eb = d b b' j j' there.1 out.0 in
      let ek = transition_back (subst₂ (λ x y. Transition m c x a.to y k (Opens n)) eo' there.1 g) g' in
      λ z. call_record m (ea z) (eo' z) (ek.1 z) (eb z) (ew' z) (out.1 z) (eq z)

  -- candidates with one key are one
  same_candidate : {log : List Record} {x y : Record} → Distinct log → Candidate m c log x → Candidate m c log y → x.from ≡ y.from → x.to ≡ y.to → derivation_key x.derivation ≡ derivation_key y.derivation → x ≡ y
  same_candidate {log} d (step a {v = v} i g) (step a' {v = v'} i' g') ef et eh =
      let er : v.row ≡ v'.row = cc in
      let el : line_key v.line ≡ line_key v'.line = cc in
      same_step log a a' d i i' g g' ef et (move_eq v v' er (line_eq _ _ el))
  same_candidate d (step a i g) (call a' b' i' g' j' h') ef et eh = absurd cc
  same_candidate d (call a b i g j h) (step a' i' g') ef et eh = absurd cc
  same_candidate {log} d (call a b {o = o} {w = w} i g j h) (call a' b' {o = o'} {w = w'} i' g' j' h') ef et eh =
      let eo : o.row ≡ o'.row = cc in
      let ew : w.row ≡ w'.row = cc in
      let em : moment a.to ≡ moment a'.to = cc in
      same_call log a a' b b' d i i' j j' g g' h h' ef et eo ew em

keys_parts : (p p' : ℕ) (q q' : ℕ) (h h' : List ℕ) → p ∷ (q ∷ h) ≡ p' ∷ (q' ∷ h') → (p ≡ p') × (q ≡ q') × (h ≡ h')
keys_parts p p' q q' h h' e = (cc, cc, cc)

-- A round that comes after n rounds, with the log before it.
record RoundAfter (m : Meaning) (c : Content) (n : ℕ) : Type 0 where
  log : List Record
  reached : Rounds m c n log
  next : Record
  round_is : Round m c log next

-- the round after n of more than n rounds
round_after : {m : Meaning} {c : Content} {k : ℕ} {log : List Record} (n : ℕ) → Rounds m c k log → n < k → RoundAfter m c n
round_after n begin h = absurd (omega arith)
round_after {m} {c} n (round {n = k} {log} {x} s r) h = ⊎_elim (λ (e : n ≡ k). record { log = log; reached = subst (λ i. Rounds m c i log) (sym e) s; next = x; round_is = r }) (λ (f : (n < k) ⊎ (k < n)). ⊎_elim (λ (g : n < k). round_after n s g) (λ (g : k < n). absurd (omega arith)) f) (cases_order n k)

module _ {m : Meaning} {c : Content} (laws : Lawful m) (sound : Sound m c) where
  precedes_key : (x y : Record) → Cost m x.cost → Cost m y.cost → Precedes m c x y → Precedes m c y x → key c x ≡ key c y
  precedes_key x y hx hy (inl h) (inl g) = absurd (both_ways _ g (cheaper_no_dearer laws _ _ hx hy h))
  precedes_key x y hx hy (inl h) (inr g) = absurd (both_ways _ h (no_dearer_eq laws _ _ hy g.0))
  precedes_key x y hx hy (inr h) (inl g) = absurd (both_ways _ g (no_dearer_eq laws _ _ hx h.0))
  precedes_key x y hx hy (inr h) (inr g) = lex_antisym _ _ h.1 g.1

  -- a log has one next round at most
  round_unique : {n : ℕ} {log : List Record} {x y : Record} → Rounds m c n log → Round m c log x → Round m c log y → x ≡ y
  round_unique {x = x} {y = y} s r r' =
      let hx = candidate_cost laws sound (priced laws sound s) r.candidate in
      let hy = candidate_cost laws sound (priced laws sound s) r'.candidate in
      let e = precedes_key x y hx hy (r.first y r'.candidate r'.unrecorded) (r'.first x r.candidate r.unrecorded) in
      let k = keys_parts _ _ _ _ _ _ e in
      let on = candidate_on laws sound s r.candidate in
      let on' = candidate_on laws sound s r'.candidate in
      same_candidate (distinct s) r.candidate r'.candidate (number_eq c _ _ on.0 on'.0 k.0) (number_eq c _ _ on.1 on'.1 k.1) k.2

  -- as many rounds reach the same log
  pub same_rounds : {n n' : ℕ} {log log' : List Record} → Rounds m c n log → Rounds m c n' log' → n ≡ n' → log ≡ log'
  same_rounds begin begin e = refl
  same_rounds begin (round s' r') e = absurd (omega arith)
  same_rounds (round s r) begin e = absurd (omega arith)
  same_rounds (round {log = log} {x = x} s r) (round {log = log'} {x = y} s' r') e =
      let el : log ≡ log' = same_rounds s s' (omega arith) in
      let ex : x ≡ y = round_unique s r (subst (λ l. Round m c l y) (sym el) r') in
      cc

  -- a settled log comes after no fewer rounds than another
  no_fewer : {n : ℕ} {log log' : List Record} (d : SettledLog m c log) → Rounds m c n log' → d.rounds < n → ⊥
  no_fewer {log = log} d s' h =
      let z = round_after d.rounds s' h in
      let e : z.log ≡ log = same_rounds z.reached d.reached refl in
      let x = z.next in
      let r : Round m c log x = subst (λ l. Round m c l x) e z.round_is in
      both_ways _ r.below (d.done x r.candidate r.unrecorded)

  pub unique : {log log' : List Record} → SettledLog m c log → SettledLog m c log' → log ≡ log'
  unique d d' = ⊎_elim (λ (e : d.rounds ≡ d'.rounds). same_rounds d.reached d'.reached e) (λ (f : (d.rounds < d'.rounds) ⊎ (d'.rounds < d.rounds)). absurd (⊎_elim (no_fewer d d'.reached) (no_fewer d' d.reached) f)) (cases_order d.rounds d'.rounds)
