-- The list `candidates` holds just the candidates.
use Rattle.std.proofs.Common.{◌≡◌, ℕ, Bool, true, false, cond, eqb, List, [], ◌∷◌, map, length, Some, None, Option, sym, refl, subst, inl, inr, ⊎_elim}
use Rattle.std.specs.List.{flat_map}
use Rattle.std.proofs.lemmas.Option.{slice_get_within}
use Rattle.std.proofs.lemmas.Bool.{eqb-true, eq-eqb, and_parts, and_from}
use Rattle.costs.specs.Meaning.{Meaning}
use Rattle.board.specs.declared.moves.Move.{Move}
use Rattle.board.specs.declared.moves.Effect.{Effect}
use Rattle.board.specs.declared.moves.Effect.TheVariants.{Quiet, Opens, Closes, Ends}
use Rattle.board.specs.declared.moves.Arrival.{Arrival}
use Rattle.board.specs.Content.{Content}
use Rattle.board.specs.Moves.{Place, mode, moment, Transition}
use Rattle.board.specs.Settling.{In, Record, step_record, call_record, Candidate, step, call}
use Rattle.board.specs.Arrivals.{arrival_on}
use Rattle.board.specs.Computing.{below, moves_by_row, all_moves, same_place, step_effect, close_effect, close_by, inside_if, inside_by, open_effect, from_arrival, from_record, candidates}
use Rattle.board.proofs.Basics.Membership.{in_split, in_map, in_each, each_in, in_below}
use Rattle.board.proofs.Rounds.Diagonal.{place_eq}
use Rattle.board.proofs.Paths.Transitions.{arrival_transition, transition_arrival}

pub move_eq : (v w : Move) → v.row ≡ w.row → v.line ≡ w.line → v ≡ w
move_eq v w e f = λ j. record { row = e j; line = f j }

pub same_place_refl : (p : Place) → same_place p p ≡ true
same_place_refl p = and_from _ _ (eq-eqb (mode p) (mode p) refl) (eq-eqb (moment p) (moment p) refl)

pub same_place_eq : (p q : Place) → same_place p q ≡ true → p ≡ q
same_place_eq p q e = let z = and_parts _ _ e in place_eq p q (eqb-true _ _ z.0) (eqb-true _ _ z.1)

module _ (m : Meaning) (c : Content) where
  transition_listed : (v : Move) (p q : Place) (k : ℕ) (e : Effect) → Transition m c v p q k e → In v (all_moves c)
  transition_listed v p q k e g =
      let ls = below (length c.lines) in
      let row_in = in_below _ _ (slice_get_within c.rows v.row g.by g.found) in
      let here : In v (moves_by_row ls v.row) = ⊎_elim (λ s. inl (move_eq v _ refl s.alone)) (λ s. inr (subst (λ w. In w (map (λ j. record { row = v.row; line = Some j }) ls)) (sym (move_eq v _ refl s.along)) (in_map (λ j. record { row = v.row; line = Some j }) s.number ls (in_below _ _ (slice_get_within c.lines s.number s.taken s.found))))) g.time in
      in_each (moves_by_row ls) _ v.row v row_in here

  -- each candidate is listed
  pub listed : (log : List Record) (x : Record) → Candidate m c log x → In x (candidates m c log)
  listed log _ (step a {v} {q} {k} i g) =
      let x = step_record m a v q k in
      let here : In x (from_record m c log a v) = subst (λ o. In x (from_arrival m c log a v o)) (sym (transition_arrival m c v a.to q k Quiet g)) (inl refl) in
      in_each (λ z. flat_map (from_record m c log z) (all_moves c)) log a x i (in_each (from_record m c log a) _ v x (transition_listed v _ _ _ _ g) here)
  listed log _ (call a b {o} {w} {q} {k} {l} {n} i g j h) =
      let x = call_record m a o k b w l q in
      let closed : In x (cond (eqb n n) (x ∷ []) []) = subst (λ t. In x (cond t (x ∷ []) [])) (sym (eq-eqb n n refl)) (inl refl) in
      let here₁ : In x (close_by m a o k b w n (arrival_on m c w b.to)) = subst (λ s. In x (close_by m a o k b w n s)) (sym (transition_arrival m c w b.to q l (Closes n) h)) closed in
      let here₂ : In x (inside_by m c a o b.from k n b) = subst (λ t. In x (inside_if m c a o k n b t)) (sym (same_place_refl b.from)) (in_each (λ z. close_by m a o k b z n (arrival_on m c z b.to)) _ w x (transition_listed w _ _ _ _ h) here₁) in
      let here₃ : In x (from_record m c log a o) = subst (λ s. In x (from_arrival m c log a o s)) (sym (transition_arrival m c o a.to b.from k (Opens n) g)) (in_each (inside_by m c a o b.from k n) log b x j here₂) in
      in_each (λ z. flat_map (from_record m c log z) (all_moves c)) log a x i (in_each (from_record m c log a) _ o x (transition_listed o _ _ _ _ g) here₃)

  -- each that is listed is a candidate
  from_step : (log : List Record) (a : Record) (v : Move) (x : Record) (h : Arrival) (e : Effect) → In a log → Transition m c v a.to h.to h.cost e → In x (step_effect m a v h e) → Candidate m c log x
  from_step log a v x h Quiet i g (inl z) = subst (Candidate m c log) (sym z) (step a i g)
  from_step log a v x h Quiet i g (inr z) = absurd z
  from_step log a v x h (Opens n) i g z = absurd z
  from_step log a v x h (Closes n) i g z = absurd z
  from_step log a v x h Ends i g z = absurd z

  from_close : (log : List Record) (a : Record) (o : Move) (k : ℕ) (b : Record) (w : Move) (n : ℕ) (x : Record) (h : Arrival) (e : Effect) → In a log → Transition m c o a.to b.from k (Opens n) → In b log → Transition m c w b.to h.to h.cost e → In x (close_effect m a o k b w n h e) → Candidate m c log x
  from_close log a o k b w n x h Quiet i g j g' z = absurd z
  from_close log a o k b w n x h (Opens y) i g j g' z = absurd z
  from_close log a o k b w n x h (Closes y) i g j g' z = same (eqb n y) refl z
    where
      same : (t : Bool) → eqb n y ≡ t → In x (cond t (call_record m a o k b w h.cost h.to ∷ []) []) → Candidate m c log x
      same true e (inl f) = subst (Candidate m c log) (sym f) (call a b i g j (subst (λ l. Transition m c w b.to h.to h.cost (Closes l)) (sym (eqb-true n y e)) g'))
      same true e (inr f) = absurd f
      same false e f = absurd f
  from_close log a o k b w n x h Ends i g j g' z = absurd z

  from_close_arrival : (log : List Record) (a : Record) (o : Move) (k : ℕ) (b : Record) (w : Move) (n : ℕ) (x : Record) (s : Option Arrival) → arrival_on m c w b.to ≡ s → In a log → Transition m c o a.to b.from k (Opens n) → In b log → In x (close_by m a o k b w n s) → Candidate m c log x
  from_close_arrival log a o k b w n x None e i g j z = absurd z
  from_close_arrival log a o k b w n x (Some h) e i g j z = from_close log a o k b w n x h h.effect i g j (arrival_transition m c w b.to h e) z

  from_inside : (log : List Record) (a : Record) (o : Move) (t : Place) (k n : ℕ) (b x : Record) (s : Bool) → same_place t b.from ≡ s → In a log → Transition m c o a.to t k (Opens n) → In b log → In x (inside_if m c a o k n b s) → Candidate m c log x
  from_inside log a o t k n b x true e i g j z =
      let r = each_in (λ w. close_by m a o k b w n (arrival_on m c w b.to)) (all_moves c) x z in
      from_close_arrival log a o k b r.0 n x _ refl i (subst (λ p. Transition m c o a.to p k (Opens n)) (same_place_eq t b.from e) g) j r.2
  from_inside log a o t k n b x false e i g j z = absurd z

  from_open : (log : List Record) (a : Record) (o : Move) (x : Record) (h : Arrival) (e : Effect) → In a log → Transition m c o a.to h.to h.cost e → In x (open_effect m c log a o h e) → Candidate m c log x
  from_open log a o x h Quiet i g z = absurd z
  from_open log a o x h (Opens n) i g z =
      let r = each_in (inside_by m c a o h.to h.cost n) log x z in
      from_inside log a o h.to h.cost n r.0 x _ refl i g r.1 r.2
  from_open log a o x h (Closes n) i g z = absurd z
  from_open log a o x h Ends i g z = absurd z

  from_some : (log : List Record) (a : Record) (v : Move) (x : Record) (s : Option Arrival) → arrival_on m c v a.to ≡ s → In a log → In x (from_arrival m c log a v s) → Candidate m c log x
  from_some log a v x None e i z = absurd z
  from_some log a v x (Some h) e i z = ⊎_elim (from_step log a v x h h.effect i (arrival_transition m c v a.to h e)) (from_open log a v x h h.effect i (arrival_transition m c v a.to h e)) (in_split x (step_effect m a v h h.effect) (open_effect m c log a v h h.effect) z)

  pub unlisted : (log : List Record) (x : Record) → In x (candidates m c log) → Candidate m c log x
  unlisted log x z =
      let r = each_in (λ a. flat_map (from_record m c log a) (all_moves c)) log x z in
      let q = each_in (from_record m c log r.0) (all_moves c) x r.2 in
      from_some log r.0 q.0 x _ refl r.1 q.2
