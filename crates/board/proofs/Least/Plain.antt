-- Links by moves without brackets.
use Rattle.std.proofs.Common.{◌≡◌, ℕ, ◌<◌, ◌⊎◌, List, length, replicate, Some, None, sym, refl, ap, ◌∙◌, subst, inl, inr, ⊎_elim, arith}
use Rattle.std.proofs.lemmas.Option.{slice_get_within}
use Rattle.std.proofs.lemmas.List.{get_or-replicate}
use lib.ListN.{length-replicate}
use Rattle.std.specs.List.{slice_get}
use Rattle.costs.specs.Meaning.{Meaning, Lawful, Cost}
use Rattle.board.specs.declared.row.Row.{Row}
use Rattle.board.specs.declared.row.Line.{Line}
use Rattle.board.specs.declared.moves.Move.{Move}
use Rattle.board.specs.declared.moves.Arrival.{Arrival}
use Rattle.board.specs.declared.moves.Effect.{Effect}
use Rattle.board.specs.declared.moves.Effect.TheVariants.{Quiet}
use Rattle.board.specs.Content.{Content, Sound}
use Rattle.board.specs.Moves.{Place, mode, moment, Transition}
use Rattle.board.specs.Arrivals.{arrival_on}
use Rattle.board.specs.Settling.{bare}
use Rattle.board.specs.Logs.{pair_of}
use Rattle.board.specs.Lowering.{Costing, Attained, lowered, Lowered, Among}
use Rattle.board.specs.Minima.{PlainLink, PlainlyFrom, PlainlyBy, PlainlyAt, PlainlyAlong}
use Rattle.board.proofs.Basics.Membership.{some_eq, none_some}
use Rattle.board.proofs.Paths.Transitions.{arrival_transition, transition_arrival}
use Rattle.board.proofs.Paths.Standing.{transition_from, transition_to}
use Rattle.board.proofs.Paths.Decomposing.{transition_cost}
use Rattle.board.proofs.Rounds.Diagonal.{place_eq}
use Rattle.board.proofs.Basics.Numbers.{pair_in}
use Rattle.board.proofs.Rounds.Candidates.{move_eq}
use Rattle.board.proofs.Least.Bracketing.{goes_row}
use Rattle.board.proofs.Least.Lowering.{lowered_one, lowered_for, lowered_same}

-- the worst everywhere is attained
pub worst_attained : (m : Meaning) (R : Costing) (n k : ℕ) → k ≡ m.worst → Attained m R (replicate n k)
worst_attained m R n k e p h = inl (get_or-replicate n p k 0 (omega (arith, length-replicate n k)) ∙ e)

module _ {m : Meaning} {c : Content} (laws : Lawful m) (sound : Sound m c) where
  pub plain_cost : (p k : ℕ) → PlainLink m c p k → Cost m k
  plain_cost p k (v, x) = transition_cost laws sound x.goes

  pub plain_in : (p k : ℕ) → PlainLink m c p k → p < 4096
  plain_in p k (v, x) = subst (λ (i : ℕ). i < 4096) (sym x.at) (pair_in c x.place x.exit sound.few_places (transition_from sound x.goes) (transition_to sound x.goes))

  -- what goes from a place is a link
  from_plain : (v : Move) (place : Place) (p k : ℕ) → PlainlyFrom m c v place p k → PlainLink m c p k
  from_plain v place p k x = (v, record { place = place; exit = x.exit; goes = x.goes; at = x.at })

  pub from_fits : (v : Move) (place : Place) (xs : List ℕ) → length xs ≡ 4096 → (p k : ℕ) → PlainlyFrom m c v place p k → (p < length xs) × Cost m k
  from_fits v place xs long p k x = let h = plain_in p k (from_plain v place p k x) in (omega arith, plain_cost p k (from_plain v place p k x))

  pub from_here : (v : Move) (place : Place) (h : Arrival) → arrival_on m c v place ≡ Some h → h.effect ≡ Quiet → pair_of c place h.to < 4096
  from_here v place h e quiet = plain_in _ h.cost (v, record { place = place; exit = h.to; goes = subst (Transition m c v place h.to h.cost) quiet (arrival_transition m c v place h e); at = refl })

  pub from_one : (v : Move) (place : Place) (xs ys : List ℕ) (h : Arrival) (q : ℕ) → length xs ≡ 4096 → Attained m (PlainLink m c) xs → arrival_on m c v place ≡ Some h → h.effect ≡ Quiet → q ≡ pair_of c place h.to → ys ≡ lowered m xs q h.cost → Lowered m (PlainLink m c) xs ys (PlainlyFrom m c v place)
  from_one v place xs ys h q long ok e quiet at f =
      let it : PlainLink m c q h.cost = (v, record { place = place; exit = h.to; goes = subst (Transition m c v place h.to h.cost) quiet (arrival_transition m c v place h e); at = at }) in
      let small = plain_in q h.cost it in
      lowered_for (lowered_one laws plain_cost xs ys q h.cost ok (omega arith) (inr it) f)
      (λ p k x. let same = some_eq _ _ _ (transition_arrival m c v place x.exit k Quiet x.goes) e in (x.at ∙ ap (λ (a : Arrival). pair_of c place a.to) same ∙ sym at, ap (λ (a : Arrival). a.cost) same))

  pub from_none : (v : Move) (place : Place) (xs : List ℕ) → Attained m (PlainLink m c) xs → ((h : Arrival) → arrival_on m c v place ≡ Some h → h.effect ≡ Quiet → ⊥) → Lowered m (PlainLink m c) xs xs (PlainlyFrom m c v place)
  from_none v place xs ok never = lowered_same laws plain_cost xs ok (λ p k x. never _ (transition_arrival m c v place x.exit k Quiet x.goes) refl)

  -- by one row
  module _ (row : ℕ) where
    pub by_no_row : (xs : List ℕ) → Attained m (PlainLink m c) xs → ((r : Row) → slice_get c.rows row ≡ Some r → ⊥) → Lowered m (PlainLink m c) xs xs (PlainlyBy m c row)
    by_no_row xs ok none = lowered_same laws plain_cost xs ok (λ p k x. none x.2.goes.by (ap (slice_get c.rows) (sym x.1) ∙ x.2.goes.found))

    module _ (r : Row) (row_is : slice_get c.rows row ≡ Some r) where
      pub at_fits : (xs : List ℕ) → length xs ≡ 4096 → (n p k : ℕ) → Among (PlainlyAt m c row r) n p k → (p < length xs) × Cost m k
      at_fits xs long n p k (t, h, x) = from_fits (bare row) (r.from, t) xs long p k x

      pub along_fits : (xs : List ℕ) → length xs ≡ 4096 → (n p k : ℕ) → Among (PlainlyAlong m c row r) n p k → (p < length xs) × Cost m k
      along_fits xs long n p k (j, h, (w, e, x)) = from_fits _ (r.from, w.from) xs long p k x

      -- the row's mode
      by_mode : {v : Move} {p q : Place} {k : ℕ} {e : Effect} → v.row ≡ row → Transition m c v p q k e → mode p ≡ r.from
      by_mode same g = g.leaves ∙ ap (λ (x : Row). x.from) (some_eq _ _ _ g.found (ap (slice_get c.rows) same ∙ row_is))

      pub by_split : (p k : ℕ) → PlainlyBy m c row p k → Among (PlainlyAt m c row r) c.moments p k ⊎ Among (PlainlyAlong m c row r) (length c.lines) p k
      by_split p k (v, same, x) = ⊎_elim
          (λ s.
          let place : x.place ≡ (r.from, moment x.place) = place_eq x.place (r.from, moment x.place) (by_mode same x.goes) refl in
          let move : v ≡ bare row = move_eq v (bare row) same s.alone in
          inl (moment x.place, s.there, record { exit = x.exit; goes = subst (λ (z : Place). Transition m c (bare row) z x.exit k Quiet) place (subst (λ (z : Move). Transition m c z x.place x.exit k Quiet) move x.goes); at = x.at ∙ ap (λ (z : Place). pair_of c z x.exit) place }))
          (λ s.
          let place : x.place ≡ (r.from, s.taken.from) = place_eq x.place (r.from, s.taken.from) (by_mode same x.goes) s.depart in
          let move : v ≡ record { row = row; line = Some s.number } = move_eq v (record { row = row; line = Some s.number }) same s.along in
          inr (s.number, slice_get_within c.lines s.number s.taken s.found, (s.taken, s.found, record { exit = x.exit; goes = subst (λ (z : Place). Transition m c (record { row = row; line = Some s.number }) z x.exit k Quiet) place (subst (λ (z : Move). Transition m c z x.place x.exit k Quiet) move x.goes); at = x.at ∙ ap (λ (z : Place). pair_of c z x.exit) place })))
          x.goes.time

      -- that along the line that was read
      pub along_one : (xs ys : List ℕ) (j : ℕ) (w : Line) → slice_get c.lines j ≡ Some w → Lowered m (PlainLink m c) xs ys (PlainlyFrom m c (record { row = row; line = Some j }) (r.from, w.from)) → Lowered m (PlainLink m c) xs ys (PlainlyAlong m c row r j)
      along_one xs ys j w e g = lowered_for g (λ p k x. subst (λ (z : Line). PlainlyFrom m c (record { row = row; line = Some j }) (r.from, z.from) p k) (some_eq _ _ _ x.1 e) x.2)

      pub along_none : (xs : List ℕ) (j : ℕ) → Attained m (PlainLink m c) xs → slice_get c.lines j ≡ None → Lowered m (PlainLink m c) xs xs (PlainlyAlong m c row r j)
      along_none xs j ok e = lowered_same laws plain_cost xs ok (λ p k x. none_some _ _ e x.1)

  -- by each row
  pub by_fits : (xs : List ℕ) → length xs ≡ 4096 → (n p k : ℕ) → Among (PlainlyBy m c) n p k → (p < length xs) × Cost m k
  by_fits xs long n p k (row, h, (v, same, x)) = let s = plain_in p k (v, x) in (omega arith, plain_cost p k (v, x))

  pub by_rows : (p k : ℕ) → PlainLink m c p k → Among (PlainlyBy m c) (length c.rows) p k
  by_rows p k (v, x) = (v.row, goes_row x.goes, (v, refl, x))
