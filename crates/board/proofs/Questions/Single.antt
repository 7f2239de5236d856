-- A log has one recorded reading at most, and a list of moves has one cost.
use Rattle.std.proofs.Common.{◌≡◌, ℕ, ◌≤◌, ◌⊎◌, List, [], ◌∷◌, ◌++◌, sym, refl, ap, ◌∙◌, subst, inl, inr, ⊎_elim, arith}
use Rattle.std.proofs.lemmas.Bool.{both_ways, eqb-true}
use Rattle.costs.specs.Meaning.{Meaning, Lawful, Cost, NoDearer}
use Rattle.costs.specs.Lists.{joined}
use Rattle.board.specs.declared.row.Row.{Row}
use Rattle.board.specs.declared.moves.Move.{Move}
use Rattle.board.specs.declared.moves.Effect.{Effect}
use Rattle.board.specs.declared.moves.Effect.TheVariants.{Ends}
use Rattle.board.specs.declared.moves.Arrival.{Arrival}
use Rattle.board.specs.Content.{Content, Sound}
use Rattle.board.specs.Moves.{Place, moment, EndMoment, Transition}
use Rattle.board.specs.Paths.{Path, stop, go}
use Rattle.board.specs.Settling.{Cheaper, bare, Record, SettledLog, ReadingBy, RecordedReading}
use Rattle.board.specs.Arrivals.{arrival_on}
use Rattle.board.specs.Promises.{OneCost}
use Rattle.board.proofs.Basics.Laws.{no_dearer_same, cheaper_no_dearer}
use Rattle.board.proofs.Basics.Membership.{some_eq, none_some}
use Rattle.board.proofs.Rounds.Diagonal.{place_eq}
use Rattle.board.proofs.Paths.Transitions.{transition_arrival}
use Rattle.board.proofs.Rounds.Pairs.{distinct}
use Rattle.board.proofs.Questions.Readings.{ends_kind, reading_cost}

module _ {m : Meaning} {c : Content} where
  end_moment : {i k : ℕ} {p q : Place} → Transition m c (bare i) p q k Ends → EndMoment c.moments (moment p)
  end_moment g = ⊎_elim (λ s. s.at_end (ends_kind _ _ g.does)) (λ s. absurd (none_some _ _ refl s.along)) g.time

  -- an end row is a move at one place
  end_place : {i k k' : ℕ} {p q p' q' : Place} → Transition m c (bare i) p q k Ends → Transition m c (bare i) p' q' k' Ends → p ≡ p'
  end_place {p = p} {p' = p'} g h =
      let same : g.by ≡ h.by = some_eq _ _ _ g.found h.found in
      place_eq p p' (g.leaves ∙ ap (λ (r : Row). r.from) same ∙ sym h.leaves) (omega (arith, eqb-true _ _ (end_moment g), eqb-true _ _ (end_moment h)))

  -- an end row has one reading
  same_moves : {log : List Record} {i k k' : ℕ} {vs ws : List Move} → SettledLog m c log → ReadingBy m c log i k vs → ReadingBy m c log i k' ws → vs ≡ ws
  same_moves {i = i} d r s =
      let held : r.held ≡ s.held = distinct d.reached r.held s.held r.logged s.logged (r.starts_0 ∙ sym s.starts_0) (end_place r.over s.over) in
      r.moves_are ∙ ap (λ (a : Record). a.moves ++ (bare i ∷ [])) held ∙ sym s.moves_are

module _ {m : Meaning} {c : Content} (laws : Lawful m) (sound : Sound m c) where
  one_least : (k n i j : ℕ) → Cost m k → Cost m n → Cheaper m k n ⊎ ((k ≡ n) × (i ≤ j)) → Cheaper m n k ⊎ ((n ≡ k) × (j ≤ i)) → (k ≡ n) × (i ≡ j)
  one_least k n i j hk hn (inl a) (inl b) = absurd (both_ways _ b (cheaper_no_dearer laws k n hk hn a))
  one_least k n i j hk hn (inl a) (inr b) = absurd (both_ways _ a (subst (λ x. NoDearer m n x) b.0 (no_dearer_same laws n hn)))
  one_least k n i j hk hn (inr a) (inl b) = absurd (both_ways _ b (subst (λ x. NoDearer m k x) a.0 (no_dearer_same laws k hk)))
  one_least k n i j hk hn (inr a) (inr b) = (a.0, omega arith)

  pub one_reading : {log : List Record} {k n : ℕ} {vs ws : List Move} → SettledLog m c log → RecordedReading m c log k vs → RecordedReading m c log n ws → (k ≡ n) × (vs ≡ ws)
  one_reading {log} {k} {n} {vs} {ws} d r s =
      let e = one_least k n r.last s.last (reading_cost laws sound d.reached r.reads) (reading_cost laws sound d.reached s.reads) (r.least _ _ _ s.reads) (s.least _ _ _ r.reads) in
      let reads : ReadingBy m c log r.last n ws = subst (λ i. ReadingBy m c log i n ws) (sym e.1) s.reads in
      (e.0, same_moves d r.reads reads)

-- a list of moves from one place has one list of costs
same_costs : {m : Meaning} {c : Content} {vs : List Move} {p q p' q' : Place} {ks ls : List ℕ} {es fs : List Effect} → Path m c vs p q ks es → Path m c vs p' q' ls fs → p ≡ p' → ks ≡ ls
same_costs stop stop e = refl
same_costs {m} {c} (go {v} {p = p} {r = r} {k = k} {e = d} g path) (go {p = p'} {r = r'} {k = k'} {e = d'} g' path') e =
    let g'' : Transition m c v p r' k' d' = subst (λ (x : Place). Transition m c v x r' k' d') (sym e) g' in
    let h = some_eq (arrival_on m c v p) _ _ (transition_arrival m c v p r k d g) (transition_arrival m c v p r' k' d' g'') in
    let rest = same_costs path path' (ap (λ (x : Arrival). x.to) h) in
    let head : k ≡ k' = ap (λ (x : Arrival). x.cost) h in
    λ i. head i ∷ rest i

pub one_cost : OneCost
one_cost m c vs k n h g = h.price ∙ ap (joined m) (same_costs h.path g.path refl) ∙ sym g.price
