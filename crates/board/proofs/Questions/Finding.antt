-- The function `recorded_reading` gives the recorded reading.
use Rattle.std.proofs.Common.{◌≡◌, ℕ, zero, suc, ◌+◌, ◌<◌, ◌≤◌, Bool, true, false, cond, ◌⊎◌, List, [], ◌∷◌, ◌++◌, length, Some, None, Option, sym, refl, ap, ◌∙◌, subst, inl, inr, ⊎_elim, arith}
use Rattle.std.proofs.lemmas.Option.{none-some, slice_get_within}
use Rattle.std.specs.List.{slice_get}
use Rattle.std.proofs.lemmas.Bool.{both_ways, cases_eq, and_parts, and_from, eqb-true, eq-eqb}
use Rattle.costs.specs.Meaning.{Meaning, Lawful, Cost, NoDearer}
use Rattle.board.specs.declared.row.Row.{Row}
use Rattle.board.specs.declared.moves.Move.{Move}
use Rattle.board.specs.declared.moves.Effect.TheVariants.{Ends}
use Rattle.board.specs.declared.moves.Arrival.{Arrival}
use Rattle.board.specs.Content.{Content, Sound}
use Rattle.board.specs.Moves.{Place, mode, moment, origin, place_number, On, Transition, is_end}
use Rattle.board.specs.Settling.{Cheaper, In, bare, Record, Rounds, SettledLog, ReadingBy, RecordedReading, HasNoReading, AnswersCost}
use Rattle.board.specs.Arrivals.{arrival_on}
use Rattle.board.specs.Computing.{joins?, record_between, Reading, ending, reading_at, better, best_moments, best_rows, recorded_reading}
use Rattle.board.specs.Promises.{Computed}
use Rattle.board.proofs.Basics.Laws.{cheaper_no_dearer, no_dearer_eq, cheaper_up, cheaper_or}
use Rattle.board.proofs.Basics.Membership.{some_eq, none_some}
use Rattle.board.proofs.Rounds.Diagonal.{place_eq}
use Rattle.board.proofs.Rounds.Pairs.{distinct, record_on}
use Rattle.board.proofs.Paths.Transitions.{arrival_transition, transition_arrival}
use Rattle.board.proofs.Rounds.Uniqueness.{number_eq}
use Rattle.board.proofs.Questions.Readings.{reading_cost, end_alone}
use Rattle.board.proofs.Questions.Single.{one_reading}
use Rattle.board.proofs.Rounds.Existence.{exists}
use Rattle.board.proofs.Checking.Accepting.{is_ends}

pub joins_parts : (c : Content) (a : Record) (s q : ℕ) → joins? c a s q ≡ true → (place_number c a.from ≡ s) × (place_number c a.to ≡ q)
joins_parts c a s q e = let z = and_parts _ _ e in (eqb-true _ _ z.0, eqb-true _ _ z.1)

-- what is found between two places is a record of the log between them
pub between_some : (c : Content) (log : List Record) (s q : ℕ) (a : Record) → record_between c log s q ≡ Some a → In a log × (joins? c a s q ≡ true)
unfolding record_between
between_some c [] s q a e = absurd (none-some a e)
between_some c (b ∷ log) s q a e = by (between_some c log s q a) (joins? c b s q) refl e
  where
    by : (record_between c log s q ≡ Some a → In a log × (joins? c a s q ≡ true)) → (t : Bool) → joins? c b s q ≡ t → cond t (Some b) (record_between c log s q) ≡ Some a → In a (b ∷ log) × (joins? c a s q ≡ true)
    by rest true f g = let is : a ≡ b = cc in (inl is, ap (λ (x : Record). joins? c x s q) is ∙ f)
    by rest false f g = let h = rest g in (inr h.0, h.1)

-- where none is found there is none
pub between_none : (c : Content) (log : List Record) (s q : ℕ) → record_between c log s q ≡ None → (a : Record) → In a log → joins? c a s q ≡ true → ⊥
unfolding record_between
between_none c [] s q e a i j = i
between_none c (b ∷ log) s q e a i j = by (λ g k. between_none c log s q g a k j) (joins? c b s q) refl e i
  where
    by : (record_between c log s q ≡ None → In a log → ⊥) → (t : Bool) → joins? c b s q ≡ t → cond t (Some b) (record_between c log s q) ≡ None → (a ≡ b) ⊎ In a log → ⊥
    by rest true f g k = none_some _ b g refl
    by rest false f g (inl k) = both_ways _ f (ap (λ (x : Record). joins? c x s q) (sym k) ∙ j)
    by rest false f g (inr k) = rest g k

abbrev the_found : ℕ → ℕ → List Move → Reading
the_found i k vs = record { row = i; cost = k; moves = vs }

module _ {m : Meaning} {c : Content} (laws : Lawful m) (sound : Sound m c) {rounds : ℕ} {log : List Record} (reached : Rounds m c rounds log) where
  -- the one record between two places is found
  pub between_is : (a : Record) (s q : ℕ) → In a log → place_number c a.from ≡ s → place_number c a.to ≡ q → record_between c log s q ≡ Some a
  between_is a s q i e f = by (record_between c log s q) refl
    where
      by : (o : Option Record) → record_between c log s q ≡ o → record_between c log s q ≡ Some a
      by None g = absurd (between_none c log s q g a i (and_from _ _ (eq-eqb _ _ e) (eq-eqb _ _ f)))
      by (Some b) g =
          let h = between_some c log s q b g in
          let j = and_parts _ _ h.1 in
          let on = record_on laws sound reached a i in
          let on' = record_on laws sound reached b h.0 in
          let from_same = number_eq c b.from a.from on'.0 on.0 (eqb-true _ _ j.0 ∙ sym e) in
          let to_same = number_eq c b.to a.to on'.1 on.1 (eqb-true _ _ j.1 ∙ sym f) in
          g ∙ ap Some (distinct reached b a h.0 i from_same to_same)

  -- what is found between the places p and q
  between_on : (a : Record) (p q : Place) → On c p → On c q → record_between c log (place_number c p) (place_number c q) ≡ Some a → In a log × (a.from ≡ p) × (a.to ≡ q)
  between_on a p q hp hq e =
      let h = between_some c log _ _ a e in
      let j = and_parts _ _ h.1 in
      let on = record_on laws sound reached a h.0 in
      (h.0, number_eq c a.from p on.0 hp (eqb-true _ _ j.0), number_eq c a.to q on.1 hq (eqb-true _ _ j.1))

  origin_on : On c origin
  origin_on = (sound.some_mode, sound.some_moment)

  origin_zero : place_number c origin ≡ 0
  origin_zero = omega arith

  -- what is read at a place is a reading by that row
  abbrev Reads : Reading → Type 0
  Reads x = ReadingBy m c log x.row x.cost x.moves

  ending_reads : (i : ℕ) (p : Place) (x : Reading) (o : Option Arrival) (b : Option Record) → On c p → arrival_on m c (bare i) p ≡ o → record_between c log 0 (place_number c p) ≡ b → ending m i o b ≡ Some x → Reads x × (x.row ≡ i)
  ending_reads i p x None b on e f g = absurd (none-some x g)
  ending_reads i p x (Some h) None on e f g = absurd (none-some x g)
  ending_reads i p x (Some h) (Some a) on e f g = by (is_end h.effect) refl g
    where
      by : (t : Bool) → is_end h.effect ≡ t → cond t (Some (the_found i (m.join a.cost h.cost) (a.moves ++ (bare i ∷ [])))) None ≡ Some x → Reads x × (x.row ≡ i)
      by false z k = absurd (none-some x k)
      by true z k =
          let w = between_on a origin p origin_on on (ap (λ n. record_between c log n (place_number c p)) origin_zero ∙ f) in
          let go : Transition m c (bare i) p h.to h.cost Ends = subst (Transition m c (bare i) p h.to h.cost) (is_ends _ z) (arrival_transition m c (bare i) p h e) in
          let stays : Transition m c (bare i) p p h.cost Ends = subst (λ q. Transition m c (bare i) p q h.cost Ends) (sym (end_alone laws sound go).1) go in
          let over : Transition m c (bare i) a.to a.to h.cost Ends = subst (λ q. Transition m c (bare i) q q h.cost Ends) (sym w.2) stays in
          let is : the_found i (m.join a.cost h.cost) (a.moves ++ (bare i ∷ [])) ≡ x = cc in
          subst (λ (y : Reading). Reads y × (y.row ≡ i)) is (record { held = a; logged = w.0; starts_0 = w.1; price = h.cost; over = over; cost_is = refl; moves_are = refl }, refl)

  read_some : (i : ℕ) (p : Place) (x : Reading) → On c p → reading_at m c log i p ≡ Some x → Reads x × (x.row ≡ i)
  read_some i p x on e = ending_reads i p x _ _ on refl refl e

  -- every reading by a row is read at its place
  read_all : (i k : ℕ) (vs : List Move) (r : ReadingBy m c log i k vs) → reading_at m c log i r.held.to ≡ Some (the_found i k vs)
  read_all i k vs r =
      let a = r.held in
      let e = transition_arrival m c (bare i) a.to a.to r.price Ends r.over in
      let f = between_is a 0 (place_number c a.to) r.logged (ap (place_number c) r.starts_0 ∙ origin_zero) refl in
      ap (λ o. ending m i o (record_between c log 0 (place_number c a.to))) e
      ∙ ap (ending m i (Some (record { to = a.to; cost = r.price; effect = Ends }))) f
      ∙ sym (λ j. Some (the_found i (r.cost_is j) (r.moves_are j)))

  -- which readings have been looked at, by row and place
  abbrev Looked : Type 1
  Looked = ℕ → Place → Type 0

  -- nothing below the worst, or the best of those looked at
  record Best (C : Looked) (f : Reading) (n : ℕ) : Type 0 where
    reads : Reads f
    below : Cheaper m f.cost m.worst
    last_in : f.row ≤ n
    least : (i k : ℕ) (vs : List Move) (r : ReadingBy m c log i k vs) → C i r.held.to → Cheaper m f.cost k ⊎ ((f.cost ≡ k) × (f.row ≤ i))

  abbrev Scanned : Looked → ℕ → Option Reading → Type 0
  Scanned C n None = (i k : ℕ) (vs : List Move) (r : ReadingBy m c log i k vs) → C i r.held.to → NoDearer m m.worst k
  Scanned C n (Some f) = Best C f n

  -- those looked at may be told otherwise, and the row may rise
  scanned_for : (C D : Looked) (n n' : ℕ) (b : Option Reading) → n ≤ n' → ((i k : ℕ) (vs : List Move) (r : ReadingBy m c log i k vs) → D i r.held.to → C i r.held.to) → Scanned C n b → Scanned D n' b
  scanned_for C D n n' None h g s = λ i k vs r d. s i k vs r (g i k vs r d)
  scanned_for C D n n' (Some f) h g s = record { reads = s.reads; below = s.below; last_in = let l = s.last_in in omega arith; least = λ i k vs r d. s.least i k vs r (g i k vs r d) }

  cost_of : {i k : ℕ} {vs : List Move} → ReadingBy m c log i k vs → Cost m k
  cost_of r = reading_cost laws sound reached r

  -- one place more
  module _ (C : Looked) (n : ℕ) (p : Place) (on : On c p) where
    abbrev More : Looked
    More i q = C i q ⊎ ((i ≡ n) × (q ≡ p))

    -- what is read there is what any reading there is
    same_there : (o : Option Reading) → reading_at m c log n p ≡ o → (i k : ℕ) (vs : List Move) (r : ReadingBy m c log i k vs) → i ≡ n → r.held.to ≡ p → o ≡ Some (the_found i k vs)
    same_there o e i k vs r ei ep =
        sym e ∙ ap (λ z. reading_at m c log z p) (sym ei) ∙ ap (reading_at m c log i) (sym ep) ∙ read_all i k vs r

    cost_there : (x : Reading) → reading_at m c log n p ≡ Some x → (i k : ℕ) (vs : List Move) (r : ReadingBy m c log i k vs) → i ≡ n → r.held.to ≡ p → x.cost ≡ k
    cost_there x e i k vs r ei ep = let is = same_there (Some x) e i k vs r ei ep in let z : x ≡ the_found i k vs = cc in ap (λ (y : Reading). y.cost) z

    scan_more : (b o : Option Reading) → reading_at m c log n p ≡ o → Scanned C n b → Scanned More n (better m b o)
    scan_more None None e s = λ i k vs r. ⊎_elim (s i k vs r) (λ d. absurd (none_some _ _ refl (same_there None e i k vs r d.0 d.1)))
    scan_more (Some f) None e s = record { reads = s.reads; below = s.below; last_in = s.last_in; least = λ i k vs r. ⊎_elim (s.least i k vs r) (λ d. absurd (none_some _ _ refl (same_there None e i k vs r d.0 d.1))) }
    scan_more None (Some x) e s = by (m.no_dearer m.worst x.cost) refl
      where
        by : (t : Bool) → m.no_dearer m.worst x.cost ≡ t → Scanned More n (cond t None (Some x))
        by true z = λ i k vs r. ⊎_elim (s i k vs r) (λ d. subst (NoDearer m m.worst) (cost_there x e i k vs r d.0 d.1) z)
        by false z =
            let here = read_some n p x on e in
            record {
              reads = here.0;
              below = z;
              last_in = let l = here.1 in omega arith;
              least = λ i k vs r. ⊎_elim
                  (λ d. inl (cheaper_up laws x.cost m.worst k (cost_of here.0) laws.worst_cost (cost_of r) z (s i k vs r d)))
                  (λ d. inr (cost_there x e i k vs r d.0 d.1, let l = here.1 in let l' = d.0 in omega arith));
            }
    scan_more (Some f) (Some x) e s = by (m.no_dearer f.cost x.cost) refl
      where
        by : (t : Bool) → m.no_dearer f.cost x.cost ≡ t → Scanned More n (cond t (Some f) (Some x))
        by true z = record {
          reads = s.reads;
          below = s.below;
          last_in = s.last_in;
          least = λ i k vs r. ⊎_elim (s.least i k vs r)
              (λ d. let same = cost_there x e i k vs r d.0 d.1 in
              ⊎_elim (λ h. inl h) (λ h. inr (h, let l = s.last_in in let l' = d.0 in omega arith)) (cheaper_or laws f.cost k (cost_of s.reads) (cost_of r) (subst (NoDearer m f.cost) same z)));
        }
        by false z =
            let here = read_some n p x on e in
            record {
              reads = here.0;
              below = cheaper_up laws x.cost f.cost m.worst (cost_of here.0) (cost_of s.reads) laws.worst_cost z (laws.worst_most f.cost (cost_of s.reads));
              last_in = let l = here.1 in omega arith;
              least = λ i k vs r. ⊎_elim
                  (λ d. inl (cheaper_up laws x.cost f.cost k (cost_of here.0) (cost_of s.reads) (cost_of r) z (⊎_elim (cheaper_no_dearer laws f.cost k (cost_of s.reads) (cost_of r)) (λ h. no_dearer_eq laws f.cost k (cost_of s.reads) h.0) (s.least i k vs r d))))
                  (λ d. inr (cost_there x e i k vs r d.0 d.1, let l = here.1 in let l' = d.0 in omega arith));
            }

  -- the moments below t of one row
  moments_scanned : (C : Looked) (n u t : ℕ) (b : Option Reading) → u < c.modes → t ≤ c.moments → Scanned C n b → Scanned (λ i q. C i q ⊎ ((i ≡ n) × (mode q ≡ u) × (moment q < t))) n (best_moments m c log n u t b)
  unfolding best_moments
  moments_scanned C n u zero b hu ht s = scanned_for C _ n n b (omega arith) (λ i k vs r. ⊎_elim (λ d. d) (λ d. absurd (let z = d.2 in omega arith))) s
  moments_scanned C n u (suc t) b hu ht s =
      let D : Looked = λ i q. C i q ⊎ ((i ≡ n) × (mode q ≡ u) × (moment q < t)) in
      scanned_for (More D n (u, t) (hu, omega arith)) _ n n _ (omega arith)
      (λ i k vs r. ⊎_elim (λ d. inl (inl d)) (λ d. ⊎_elim (λ (z : moment r.held.to ≡ t). inr (d.0, place_eq _ _ d.1 z)) (λ (z : moment r.held.to ≡ t → ⊥). inl (inr (d.0, d.1, let y = d.2 in omega arith))) (cases_eq (moment r.held.to) t)))
      (scan_more D n (u, t) (hu, omega arith) (best_moments m c log n u t b) _ refl (moments_scanned C n u t b hu (omega arith) s))

  -- a reading's place is of the board, in the mode that its row leaves
  reading_place : (i k : ℕ) (vs : List Move) (r : ReadingBy m c log i k vs) (by : Row) → slice_get c.rows i ≡ Some by → On c r.held.to × (mode r.held.to ≡ by.from)
  reading_place i k vs r by found = ((record_on laws sound reached r.held r.logged).1, r.over.leaves ∙ ap (λ (x : Row). x.from) (some_eq _ _ _ r.over.found found))

  -- these rows, of which the first is row i, and those before it
  rows_scanned : (i : ℕ) (rs : List Row) → i + length rs ≡ length c.rows → ((j : ℕ) (r : Row) → slice_get rs j ≡ Some r → slice_get c.rows (i + j) ≡ Some r) → (b : Option Reading) → Scanned (λ j q. j < i) i b → Scanned (λ j q. j < length c.rows) (length c.rows) (best_rows m c log i rs b)
  unfolding best_rows
  rows_scanned i [] all held b s = scanned_for _ _ i (length c.rows) b (omega (arith, all)) (λ j k vs r d. omega (arith, all, d)) s
  rows_scanned i (x ∷ rs) all held b s =
      let found : slice_get c.rows i ≡ Some x = ap (slice_get c.rows) zero_more ∙ held 0 x refl in
      rows_scanned (suc i) rs (omega (arith, all)) (λ j r e. ap (slice_get c.rows) (one_on j) ∙ held (suc j) r e) (best_moments m c log i x.from c.moments b)
      (scanned_for _ (λ j q. j < suc i) i (suc i) _ (omega arith)
      (λ j k vs r d. ⊎_elim
      (λ (z : j ≡ i). let w = reading_place j k vs r x (ap (slice_get c.rows) z ∙ found) in inr (z, w.1, w.0.1))
      (λ (z : j ≡ i → ⊥). inl (omega arith))
      (cases_eq j i))
      (moments_scanned (λ j q. j < i) i x.from c.moments b (sound.sound_rows i x found).from_in (omega arith) s))
    where
      zero_more : i ≡ i + 0
      zero_more = omega arith

      one_on : (j : ℕ) → suc i + j ≡ i + suc j
      one_on j = omega arith

  all_rows_scanned : Scanned (λ i q. i < length c.rows) (length c.rows) (best_rows m c log 0 c.rows None)
  all_rows_scanned = rows_scanned 0 c.rows (omega arith) (λ j r e. ap (slice_get c.rows) (from_front j) ∙ e) None (λ i k vs r d. absurd (omega (arith, d)))
    where
      from_front : (j : ℕ) → 0 + j ≡ j
      from_front j = omega arith

  all_scanned : (i k : ℕ) (vs : List Move) (r : ReadingBy m c log i k vs) → i < length c.rows
  all_scanned i k vs r = slice_get_within c.rows i r.over.by r.over.found

  from_scan : (b : Option Reading) → Scanned (λ i q. i < length c.rows) (length c.rows) b → (x : Reading) → b ≡ Some x → RecordedReading m c log x.cost x.moves
  from_scan None s x e = absurd (none-some x e)
  from_scan (Some f) s x e =
      let is : f ≡ x = cc in
      subst (λ (y : Reading). RecordedReading m c log y.cost y.moves) is (record { last = f.row; reads = s.reads; below = s.below; least = λ i n ws r. s.least i n ws r (all_scanned i n ws r) })

  none_scan : (b : Option Reading) → Scanned (λ i q. i < length c.rows) (length c.rows) b → b ≡ None → HasNoReading m c log
  none_scan None s e = λ i n ws r. s i n ws r (all_scanned i n ws r)
  none_scan (Some f) s e = absurd (none_some _ f e refl)

  pub found_recorded : (x : Reading) → recorded_reading m c log ≡ Some x → RecordedReading m c log x.cost x.moves
  unfolding recorded_reading
  found_recorded x e = from_scan _ all_rows_scanned x e

  pub found_none : recorded_reading m c log ≡ None → HasNoReading m c log
  unfolding recorded_reading
  found_none e = none_scan _ all_rows_scanned e

  -- there always is an answer
  pub answered : (k : ℕ) × AnswersCost m c log k
  answered = either (recorded_reading m c log) refl
    where
      either : (o : Option Reading) → recorded_reading m c log ≡ o → (k : ℕ) × AnswersCost m c log k
      either None e = (m.worst, inr (found_none e, refl))
      either (Some x) e = (x.cost, inl (x.moves, found_recorded x e))

-- not both a recorded reading and none
not_both : {m : Meaning} {c : Content} {log : List Record} {k : ℕ} {vs : List Move} → RecordedReading m c log k vs → HasNoReading m c log → ⊥
not_both r none = both_ways _ r.below (none r.last _ _ r.reads)

module _ {m : Meaning} {c : Content} (laws : Lawful m) (sound : Sound m c) where
  recorded_found : {log : List Record} {k : ℕ} {vs : List Move} → SettledLog m c log → RecordedReading m c log k vs → (i : ℕ) × (recorded_reading m c log ≡ Some (record { row = i; cost = k; moves = vs }))
  recorded_found {log} {k} {vs} d r = either (recorded_reading m c log) refl
    where
      either : (o : Option Reading) → recorded_reading m c log ≡ o → (i : ℕ) × (recorded_reading m c log ≡ Some (record { row = i; cost = k; moves = vs }))
      either None e = absurd (not_both r (found_none laws sound d.reached e))
      either (Some x) e =
          let same = one_reading laws sound d (found_recorded laws sound d.reached x e) r in
          let is : x ≡ the_found x.row k vs = λ j. the_found x.row (same.0 j) (same.1 j) in
          (x.row, e ∙ ap Some is)

  none_found : {log : List Record} → SettledLog m c log → HasNoReading m c log → recorded_reading m c log ≡ None
  none_found {log} d none = either (recorded_reading m c log) refl
    where
      either : (o : Option Reading) → recorded_reading m c log ≡ o → recorded_reading m c log ≡ None
      either None e = e
      either (Some x) e = absurd (not_both (found_recorded laws sound d.reached x e) none)

  pub computed : Computed m c
  computed = record {
    settled = exists laws sound;
    some = λ log d k vs. (λ r. recorded_found d r, λ f. found_recorded laws sound d.reached _ f.1);
    none = λ log d. (none_found d, found_none laws sound d.reached);
  }
