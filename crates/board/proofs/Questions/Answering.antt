-- What the answers of a settled board mean.
use Rattle.std.proofs.Common.{◌≡◌, ℕ, ◌+◌, ◌*◌, ◌/◌, ◌%◌, ◌<◌, Bool, true, false, cond, ◌||◌, leb, ◌⊎◌, List, ◌++◌, map, length, drop, Some, None, Ok, Err, Option, Result, sym, refl, ap, subst, subst₂, ◌∙◌, inl, inr, ⊎_elim, mod-lt, mul_comm, div-lt_iff_lt-mul, arith}
use native.Mathlib.Nat.{div-add-mod}
use Rattle.std.proofs.lemmas.Bool.{and_cases, or_cases, or_parts, and_parts, leb-true, leb-false}
use Rattle.costs.specs.declared.kind.Kind.{Ghosts}
use Rattle.costs.specs.Meaning.{Meaning, Lawful, NoDearer}
use Rattle.board.specs.declared.moves.Move.{Move}
use Rattle.board.specs.declared.refusal.Refusal.{Refusal}
use Rattle.board.specs.declared.settled.Settled.{Settled as SettledBoard}
use Rattle.board.specs.Boards.{settled_content, settled_records}
use Rattle.board.proofs.Questions.Holding.{settled_of}
use Rattle.board.specs.declared.refusal.Refusal.TheVariants.{TooLong, PlaceOut}
use Rattle.board.specs.Content.{Content, Sound}
use Rattle.board.specs.Moves.{Place, On, place_number}
use Rattle.board.specs.Paths.{BalancedPath}
use Rattle.board.specs.Settling.{Record, SettledLog}
use Rattle.board.specs.Computing.{record_between, Reading, recorded_reading}
use Rattle.board.specs.Promises.{RecordsAreLeast, RecordedIsCheapest}
use Rattle.board.specs.Questions.{recorded_cost, between_answer, cost_told, cost_answer, fits, written_told, moves_written, reading_answer, reading_after}
use Rattle.board.specs.Meanings.{CostIsCheapest, WritesCheapestReading, Pair, BetweenIsLeast}
use Rattle.board.proofs.Basics.Membership.{none_some}
use Rattle.board.proofs.Questions.Finding.{joins_parts, between_some, between_is, found_recorded, found_none}
use Rattle.board.proofs.Basics.Numbers.{place_below}
use Rattle.board.proofs.Promised.{settling_promises}

module _ {m : Meaning} {c : Content} (laws : Lawful m) (sound : Sound m c) {log : List Record} (d : SettledLog m c log) where
  promised : RecordsAreLeast m c log × RecordedIsCheapest m c log
  promised = (settling_promises m c laws sound).1 log d

  -- cost
  cost_by : (o : Option Reading) → recorded_reading m c log ≡ o → CostIsCheapest m c log (cost_told o)
  cost_by None e = (refl, promised.1.none.0 (found_none laws sound d.reached e))
  cost_by (Some f) e =
      let r = found_recorded laws sound d.reached f e in
      record {
        reading = f.moves;
        recorded = r;
        complete = promised.1.complete _ _ r;
        below = r.below;
        number = refl;
        cheapest = λ other x h. promised.1.cheapest _ x _ other r h;
      }

  cost_means : CostIsCheapest m c log (cost_answer m c log)
  cost_means = cost_by _ refl

  -- the reading written, each move in a form
  longer : {A : Type 0} (f : Reading) (buffer : List A) → fits f buffer ≡ false → (length buffer < length f.moves) ⊎ (65535 < length f.moves)
  longer f buffer e = ⊎_elim (λ h. inl (leb-false _ _ h)) (λ h. inr (leb-false _ _ h)) (and_cases _ _ e)

  path_fits : {A : Type 0} (form : Move → A) (f : Reading) (buffer : List A) → recorded_reading m c log ≡ Some f → (t : Bool) → fits f buffer ≡ t → WritesCheapestReading form m c log buffer (cond t (Ok (length f.moves)) (Err TooLong)) (cond t (map form f.moves ++ drop (length f.moves) buffer) buffer)
  path_fits form f buffer e true h =
      let r = found_recorded laws sound d.reached f e in
      let z = and_parts _ _ h in
      record {
        cost = f.cost;
        reading = f.moves;
        recorded = r;
        complete = promised.1.complete _ _ r;
        cheapest = λ other x k. promised.1.cheapest _ x _ other r k;
        room = leb-true _ _ z.0;
        few = leb-true _ _ z.1;
        number = refl;
        written = refl;
        checked = promised.1.checked _ _ r;
      }
  path_fits form f buffer e false h = (inr (refl, record { cost = f.cost; reading = f.moves; recorded = found_recorded laws sound d.reached f e; longer = longer f buffer h }), refl)

  path_by : {A : Type 0} (form : Move → A) (o : Option Reading) (buffer : List A) → recorded_reading m c log ≡ o → WritesCheapestReading form m c log buffer (written_told o buffer) (moves_written form o buffer)
  path_by form None buffer e = (inl (refl, promised.1.none.0 (found_none laws sound d.reached e)), refl)
  path_by form (Some f) buffer e = path_fits form f buffer e (fits f buffer) refl

  path_means : {A : Type 0} (form : Move → A) (buffer : List A) → WritesCheapestReading form m c log buffer (reading_answer m c log buffer) (reading_after form m c log buffer)
  path_means form buffer = path_by form _ buffer refl

  -- between
  some_between : (s q : ℕ) (a : Record) → record_between c log s q ≡ Some a → BetweenIsLeast m c s q (Ok a.cost)
  some_between s q a e =
      let h = between_some c log s q a e in
      let n = joins_parts c a s q h.1 in
      let on = promised.0.placed a h.0 in
      record { pair = record { from = a.from; to = a.to; from_on = on.0; to_on = on.1; from_number = n.0; to_number = n.1 }; least = promised.0.least a h.0; below = promised.0.below a h.0 }

  none_joins : (s q : ℕ) → record_between c log s q ≡ None → (p : Pair c s q) (vs : List Move) (k : ℕ) → BalancedPath m c vs p.from p.to k → NoDearer m m.worst k
  none_joins s q e p vs k path = by (m.no_dearer m.worst k) refl
    where
      by : (t : Bool) → m.no_dearer m.worst k ≡ t → NoDearer m m.worst k
      by true f = f
      by false f =
          let w = promised.0.minimal vs p.from p.to k p.from_on path f in
          absurd (none_some _ _ e (between_is laws sound d.reached w.held s q w.logged (ap (place_number c) w.leaves ∙ p.from_number) (ap (place_number c) w.enters ∙ p.to_number)))

  -- the place of a number
  place_of : (n : ℕ) → n < c.modes * c.moments → (p : Place) × On c p × (place_number c p ≡ n)
  place_of n h = (
    (n / c.moments, n % c.moments),
    ((div-lt_iff_lt-mul sound.some_moment).1 h, mod-lt n sound.some_moment),
    ap (λ x. x + n % c.moments) (mul_comm (n / c.moments) c.moments) ∙ div-add-mod n c.moments,
  )

  no_pair : (s q : ℕ) → (leb (c.modes * c.moments) s || leb (c.modes * c.moments) q) ≡ true → Pair c s q → ⊥
  no_pair s q e p =
      let a = place_below c p.from p.from_on in
      let b = place_below c p.to p.to_on in
      ⊎_elim (λ h. let k = leb-true (c.modes * c.moments) s h in omega (arith, p.from_number)) (λ h. let k = leb-true (c.modes * c.moments) q h in omega (arith, p.to_number)) (or_cases _ _ e)

  -- numbers below the number of places stand for places
  the_pair : (s q : ℕ) → (leb (c.modes * c.moments) s || leb (c.modes * c.moments) q) ≡ false → Pair c s q
  the_pair s q e =
      let z = or_parts _ _ e in
      let a = place_of s (leb-false _ _ z.0) in
      let b = place_of q (leb-false _ _ z.1) in
      record { from = a.0; to = b.0; from_on = a.1; to_on = b.1; from_number = a.2; to_number = b.2 }

  record_by : (s q : ℕ) (o : Option Record) → Pair c s q → record_between c log s q ≡ o → BetweenIsLeast m c s q (recorded_cost o)
  record_by s q None p e = inr (refl, record { pair = p; none = none_joins s q e p })
  record_by s q (Some a) p e = some_between s q a e

  between_by : (s q : ℕ) (t : Bool) → (leb (c.modes * c.moments) s || leb (c.modes * c.moments) q) ≡ t → BetweenIsLeast m c s q (cond t (Err PlaceOut) (recorded_cost (record_between c log s q)))
  between_by s q true e = inl (refl, no_pair s q e)
  between_by s q false e = record_by s q _ (the_pair s q e) refl

  between_means : (s q : ℕ) → BetweenIsLeast m c s q (between_answer c log s q)
  between_means s q = between_by s q _ refl

-- what a settled board answers, and its meaning
module _ {K : Type 0} {k : Ghosts K} (laws : Lawful k.meaning) (s : SettledBoard K k) where
  pub cost_tells : (r : Result (ℕ × ℕ) Refusal) → r ≡ cost_answer k.meaning (settled_content s) (settled_records s) → CostIsCheapest k.meaning (settled_content s) (settled_records s) r
  cost_tells r e = subst (CostIsCheapest k.meaning (settled_content s) (settled_records s)) (sym e) (cost_means laws s.tables.sound (settled_of laws s))

  pub path_tells : {A : Type 0} (form : Move → A) (b b' : List A) (r : Result ℕ Refusal) → r ≡ reading_answer k.meaning (settled_content s) (settled_records s) b → b' ≡ reading_after form k.meaning (settled_content s) (settled_records s) b → WritesCheapestReading form k.meaning (settled_content s) (settled_records s) b r b'
  path_tells form b b' r e f = subst₂ (WritesCheapestReading form k.meaning (settled_content s) (settled_records s) b) (sym e) (sym f) (path_means laws s.tables.sound (settled_of laws s) form b)

  pub between_tells : (from to : ℕ) (r : Result ℕ Refusal) → r ≡ between_answer (settled_content s) (settled_records s) from to → BetweenIsLeast k.meaning (settled_content s) from to r
  between_tells from to r e = subst (BetweenIsLeast k.meaning (settled_content s) from to) (sym e) (between_means laws s.tables.sound (settled_of laws s) from to)
