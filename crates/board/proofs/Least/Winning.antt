-- Finding the candidate of a pair that a round takes.
use Rattle.std.proofs.Common.{◌≡◌, ℕ, ◌+◌, ◌<◌, ◌≤◌, false, ◌⊎◌, List, [], ◌∷◌, ◌++◌, length, get_or, Some, None, sym, refl, ap, ◌∙◌, subst, subst₂, ap₂, inl, inr, ⊎_elim, arith}
use Rattle.std.proofs.lemmas.Bool.{cases_eq, cases_lt, both_ways, and_from, eq-eqb}
use Rattle.std.proofs.lemmas.Option.{slice_get_within}
use Rattle.std.specs.List.{slice_get}
use Rattle.costs.specs.Meaning.{Meaning, Lawful}
use Rattle.board.specs.declared.row.Row.{Row}
use Rattle.board.specs.declared.row.Line.{Line}
use Rattle.board.specs.declared.row.RowKind.{RowKind}
use Rattle.board.specs.declared.row.RowKind.TheVariants.{Plain as PlainRow, Open, Close, End}
use Rattle.board.specs.declared.moves.Move.{Move}
use Rattle.board.specs.declared.moves.Arrival.{Arrival}
use Rattle.board.specs.declared.moves.Effect.{Effect}
use Rattle.board.specs.declared.moves.Effect.TheVariants.{Quiet}
use Rattle.board.specs.declared.log.Log.{Log}
use Rattle.board.specs.declared.log.Derivation.{Derivation as LogDerivation}
use Rattle.board.specs.declared.log.Derivation.TheVariants.{Step}
use Rattle.board.specs.declared.settling.Goal.{Goal}
use Rattle.board.specs.Content.{Content}
use Rattle.board.specs.Moves.{Place, mode, moment, On, effect_of, Transition}
use Rattle.board.specs.Arrivals.{arrival_on}
use Rattle.board.specs.Computing.{same_place}
use Rattle.board.specs.Settling.{Record, Derivation, by_step, by_call, bare, step_record, Candidate, step, call, derivation_key, Lex}
use Rattle.board.specs.Logged.{derivation_of, record_of, records}
use Rattle.board.specs.Logs.{numbered, nth_record, Ready, pair_of}
use Rattle.board.specs.Winning.{GoalOn, Makes, made, Wins, Finds, IsStepOf, IsStepBy, IsStep, Gathered, LineTo}
use Rattle.board.proofs.Paths.Standing.{leaves_on}
use Rattle.board.proofs.Basics.Membership.{some_eq, none_some}
use Rattle.board.proofs.Paths.Transitions.{arrival_transition, transition_arrival}
use Rattle.board.proofs.Rounds.Diagonal.{place_eq}
use Rattle.board.proofs.Rounds.Candidates.{move_eq}
use Rattle.board.proofs.Rounds.Precedence.{lex_refl}
use Rattle.board.proofs.Rounds.Uniqueness.{number_eq}
use Rattle.board.proofs.Rounds.Logging.{logged_in, in_logged, settled_is}
use Rattle.board.proofs.Basics.Numbers.{pair_parts, pair_in}
use Rattle.board.proofs.Least.Bracketing.{goes_row}

pub same_false : (p q : Place) → same_place p q ≡ false → p ≡ q → ⊥
same_false p q e f = both_ways _ e (and_from _ _ (eq-eqb _ _ (ap (λ (z : Place). mode z) f)) (eq-eqb _ _ (ap (λ (z : Place). moment z) f)))

-- a step's move
step_is : (v w : Move) → by_step v ≡ by_step w → v ≡ w
step_is v w e = cc

-- the front of a step that makes a goal
pub record StepFront (m : Meaning) (c : Content) (l : Log) (g : Goal) (v : Move) : Type 0 where
  pub front : ℕ
  pub front_in : front < l.count
  pub starts : (numbered l front).from ≡ g.from
  pub price : ℕ
  pub goes : Transition m c v (numbered l front).to g.to price Quiet
  pub costs : m.join (numbered l front).cost price ≡ g.cost

pub step_of : {m : Meaning} {c : Content} {l : Log} {g : Goal} {y : Record} (v : Move) → Candidate m c (records l) y → y.from ≡ g.from → y.to ≡ g.to → y.cost ≡ g.cost → y.derivation ≡ by_step v → StepFront m c l g v
step_of {m} {c} {l} {g} v (step a {v = w} {q} {k} i t) s e f d =
    let r = logged_in l.records l.count a i in
    let is : w ≡ v = step_is w v d in
    record {
      front = r.0;
      front_in = r.1;
      starts = ap (λ (x : Record). x.from) (sym r.2) ∙ s;
      price = k;
      goes = subst₂ (λ (p q : Place). Transition m c v p q k Quiet) (ap (λ (x : Record). x.to) r.2) e (subst (λ (z : Move). Transition m c z a.to q k Quiet) is t);
      costs = ap (λ (x : Record). m.join x.cost k) (sym r.2) ∙ f;
    }
step_of {l = l} v (call a b {o} {w} i t j u) s e f d = let z : by_call o.row w.row (moment a.to) ≡ by_step v = d in absurd cc

module _ {m : Meaning} {c : Content} {l : Log} (laws : Lawful m) (ready : Ready m c l) (g : Goal) (on : GoalOn c g) where
  pub step_front : (v : Move) (y : Record) → Makes m c l g y → IsStepOf v y.derivation → StepFront m c l g v
  step_front v y k d = step_of v k.candidate k.starts k.ends k.costs d

  -- what the index has between where the goal starts and a place
  pub from_start : (place : Place) → On c place → (i : ℕ) → get_or l.index (pair_of c g.from place) None ≡ Some i → (i < l.count) × ((numbered l i).from ≡ g.from) × ((numbered l i).to ≡ place)
  from_start place there i e =
      let f = ready.book.finds _ i e in
      let kept = ready.book.kept i f.0 in
      let z = pair_parts c (numbered l i).from (numbered l i).to g.from place ready.sound.few_places kept.to_on there f.1 in
      (f.0, number_eq c _ _ kept.from_on on.0 z.0, number_eq c _ _ kept.to_on there z.1)

  pub start_in : (place : Place) → On c place → pair_of c g.from place < 4096
  start_in place there = pair_in c g.from place ready.sound.few_places on.0 there

  -- a step from the one place that it can start from
  module _ (v : Move) (place : Place) (there : On c place) (alone : (p : Place) (k : ℕ) → Transition m c v p g.to k Quiet → p ≡ place) where
    -- the index has its front
    step_at : (x : StepFront m c l g v) → get_or l.index (pair_of c g.from place) None ≡ Some x.front
    step_at x = ap₂ (λ (p q : Place). get_or l.index (pair_of c p q) None) (sym x.starts) (sym (alone _ _ x.goes)) ∙ ready.book.found x.front x.front_in

    -- and it arrives where the goal ends
    step_arrives : (x : StepFront m c l g v) → arrival_on m c v place ≡ Some (record { to = g.to; cost = x.price; effect = Quiet })
    step_arrives x = ap (arrival_on m c v) (sym (alone _ _ x.goes)) ∙ transition_arrival m c v _ g.to x.price Quiet x.goes

    pub no_front : get_or l.index (pair_of c g.from place) None ≡ None → Finds m c l g (IsStepOf v) None
    no_front e y k d = none_some _ _ e (step_at (step_front v y k d))

    pub no_arrival : arrival_on m c v place ≡ None → Finds m c l g (IsStepOf v) None
    no_arrival e y k d = none_some _ _ e (step_arrives (step_front v y k d))

    pub no_quiet : (h : Arrival) → arrival_on m c v place ≡ Some h → (h.effect ≡ Quiet → ⊥) → Finds m c l g (IsStepOf v) None
    no_quiet h e f y k d = f (ap (λ (a : Arrival). a.effect) (some_eq _ _ _ e (step_arrives (step_front v y k d))))

    pub no_end : (h : Arrival) → arrival_on m c v place ≡ Some h → (h.to ≡ g.to → ⊥) → Finds m c l g (IsStepOf v) None
    no_end h e f y k d = f (ap (λ (a : Arrival). a.to) (some_eq _ _ _ e (step_arrives (step_front v y k d))))

    module _ (i : ℕ) (h : Arrival) (at : get_or l.index (pair_of c g.from place) None ≡ Some i) (arrives : arrival_on m c v place ≡ Some h) where
      pub no_cost : (m.join (numbered l i).cost h.cost ≡ g.cost → ⊥) → Finds m c l g (IsStepOf v) None
      no_cost f y k d =
          let x = step_front v y k d in
          let same : h ≡ record { to = g.to; cost = x.price; effect = Quiet } = some_eq _ _ _ arrives (step_arrives x) in
          let here : i ≡ x.front = some_eq _ _ _ at (step_at x) in
          f (ap₂ (λ (n k : ℕ). m.join (numbered l n).cost k) here (ap (λ (a : Arrival). a.cost) same) ∙ x.costs)

      pub step_wins : h.effect ≡ Quiet → h.to ≡ g.to → m.join (numbered l i).cost h.cost ≡ g.cost → Wins m c l g (IsStepOf v) (Step i v)
      step_wins quiet ends costs =
          let f = from_start place there i at in
          let goes : Transition m c v (numbered l i).to h.to h.cost Quiet = subst₂ (λ (p : Place) (e : Effect). Transition m c v p h.to h.cost e) (sym f.2) quiet (arrival_transition m c v place h arrives) in
          let is : step_record m (nth_record l i) v h.to h.cost ≡ record_of (records l) (made g (Step i v)) =
          λ j. record { from = f.1 j; to = ends j; cost = costs j; derivation = by_step v; moves = (sym (settled_is l.records l.count i f.0) j).moves ++ (v ∷ []) } in
          record {
            refers = f.0;
            makes = record {
              candidate = subst (Candidate m c (records l)) is (step (nth_record l i) (in_logged l.records l.count i f.0) goes);
              starts = refl;
              ends = refl;
              costs = refl;
            };
            one = refl;
            first = λ y k d. subst (λ (z : Derivation). Lex (derivation_key (by_step v)) (derivation_key z)) (sym d) (lex_refl (derivation_key (by_step v)));
          }

-- what the winner of a part is worth
module _ (m : Meaning) (c : Content) (l : Log) (g : Goal) where
  -- a winner of a part wins the whole, if it goes before all others
  pub wins_more : (P Q : Derivation → Type 0) (s : LogDerivation) → Wins m c l g P s → Q (derivation_of s) → ((y : Record) → Makes m c l g y → Q y.derivation → P y.derivation ⊎ Lex (derivation_key (derivation_of s)) (derivation_key y.derivation)) → Wins m c l g Q s
  wins_more P Q s w one split = record { refers = w.refers; makes = w.makes; one = one; first = λ y k q. ⊎_elim (λ p. w.first y k p) (λ h. h) (split y k q) }

  -- the rows below n have no step
  abbrev pub NoStepBelow : ℕ → Type 0
  NoStepBelow n = (i : ℕ) → i < n → Finds m c l g (IsStepBy i) None

  pub no_step_more : (n : ℕ) → NoStepBelow n → Finds m c l g (IsStepBy n) None → NoStepBelow (n + 1)
  no_step_more n old new i h = ⊎_elim (λ (e : i ≡ n). subst (λ (j : ℕ). Finds m c l g (IsStepBy j) None) (sym e) new) (λ (w : i ≡ n → ⊥). old i (omega arith)) (cases_eq i n)

  step_row : (y : Record) → Makes m c l g y → (v : Move) → y.derivation ≡ by_step v → v.row < length c.rows
  step_row y k v d = let x : StepFront m c l g v = step_of v k.candidate k.starts k.ends k.costs d in goes_row x.goes

  pub no_step : (n : ℕ) → length c.rows ≤ n → NoStepBelow n → Finds m c l g IsStep None
  no_step n h old y k (v, d) = let r = step_row y k v d in old v.row (omega arith) y k (v, refl, d)

  -- a step by a later row
  later_row : (n : ℕ) (s : LogDerivation) → IsStepBy n (derivation_of s) → (y : Record) (v : Move) → y.derivation ≡ by_step v → n < v.row → Lex (derivation_key (derivation_of s)) (derivation_key y.derivation)
  later_row n s one y v d h = subst₂ (λ (x z : Derivation). Lex (derivation_key x) (derivation_key z)) (sym one.2) (sym d) (inr (refl, inl (let e = one.1 in omega arith)))

  pub first_row : (n : ℕ) (s : LogDerivation) → NoStepBelow n → Wins m c l g (IsStepBy n) s → Wins m c l g IsStep s
  first_row n s old w = wins_more (IsStepBy n) IsStep s w (w.one.0, w.one.2) (λ y k q. ⊎_elim
      (λ (h : q.0.row < n). absurd (old q.0.row h y k (q.0, refl, q.1)))
      (λ (h : n ≤ q.0.row). ⊎_elim
      (λ (e : q.0.row ≡ n). inl (q.0, e, q.1))
      (λ (ne : q.0.row ≡ n → ⊥). inr (later_row n s w.one y q.0 q.1 (omega arith)))
      (cases_eq q.0.row n))
      (cases_lt q.0.row n))

  -- the numbered lines of a list have no step
  abbrev pub NoStepAlong : ℕ → List ℕ → ℕ → Type 0
  NoStepAlong row lines n = (i : ℕ) → i < n → Finds m c l g (IsStepOf (record { row = row; line = Some (get_or lines i 0) })) None

  pub no_along_more : (row : ℕ) (lines : List ℕ) (n : ℕ) → NoStepAlong row lines n → Finds m c l g (IsStepOf (record { row = row; line = Some (get_or lines n 0) })) None → NoStepAlong row lines (n + 1)
  no_along_more row lines n old new i h = ⊎_elim (λ (e : i ≡ n). subst (λ (j : ℕ). Finds m c l g (IsStepOf (record { row = row; line = Some (get_or lines j 0) })) None) (sym e) new) (λ (w : i ≡ n → ⊥). old i (omega arith)) (cases_eq i n)

-- a plain row that does what it does
quiet_plain : (k : RowKind) (n : ℕ) → Quiet ≡ effect_of k n → k ≡ PlainRow
quiet_plain PlainRow n e = refl
quiet_plain Open n e = absurd cc
quiet_plain Close n e = absurd cc
quiet_plain End n e = absurd cc

module _ {m : Meaning} {c : Content} {l : Log} (laws : Lawful m) (ready : Ready m c l) (g : Goal) (on : GoalOn c g) (row : ℕ) (r : Row) (row_is : slice_get c.rows row ≡ Some r) where
  -- the row of a step by it
  row_of : {v : Move} {p q : Place} {k : ℕ} {e : Effect} → v.row ≡ row → (t : Transition m c v p q k e) → t.by ≡ r
  row_of same t = some_eq _ _ _ (ap (slice_get c.rows) (sym same) ∙ t.found) row_is

  pub no_row_to : (r.to ≡ mode g.to → ⊥) → Finds m c l g (IsStepBy row) None
  no_row_to far y k (v, same, d) =
      let x = step_front laws ready g on v y k d in
      far (ap (λ (z : Row). z.to) (sym (row_of same x.goes)) ∙ sym x.goes.enters)

  pub no_row_plain : (r.kind ≡ PlainRow → ⊥) → Finds m c l g (IsStepBy row) None
  no_row_plain other y k (v, same, d) =
      let x = step_front laws ready g on v y k d in
      other (ap (λ (z : Row). z.kind) (sym (row_of same x.goes)) ∙ quiet_plain _ _ x.goes.does)

  -- without an event
  module _ (no_event : r.label ≡ 0) where
    pub alone_starts : (p : Place) (k : ℕ) → Transition m c (bare row) p g.to k Quiet → p ≡ (r.from, moment g.to)
    alone_starts p k t = place_eq p (r.from, moment g.to) (t.leaves ∙ ap (λ (z : Row). z.from) (row_of refl t)) (⊎_elim (λ u. u.keeps) (λ u. absurd (none_some _ _ refl u.along)) t.time)

    alone_move : {v : Move} {p q : Place} {k : ℕ} → v.row ≡ row → Transition m c v p q k Quiet → v ≡ bare row
    alone_move {v} same t = move_eq v (bare row) same (⊎_elim (λ u. u.alone) (λ u. absurd (u.some_event (ap (λ (z : Row). z.label) (row_of same t) ∙ no_event))) t.time)

    pub alone_none : Finds m c l g (IsStepOf (bare row)) None → Finds m c l g (IsStepBy row) None
    alone_none f y k (v, same, d) = let x = step_front laws ready g on v y k d in f y k (d ∙ ap by_step (alone_move same x.goes))

    pub alone_wins : (s : LogDerivation) → Wins m c l g (IsStepOf (bare row)) s → Wins m c l g (IsStepBy row) s
    alone_wins s w = wins_more m c l g (IsStepOf (bare row)) (IsStepBy row) s w (bare row, refl, w.one) (λ y k q. let x = step_front laws ready g on q.0 y k q.2 in inl (q.2 ∙ ap by_step (alone_move q.1 x.goes)))

  -- with an event
  module _ (plain : r.kind ≡ PlainRow) (some_event : r.label ≡ 0 → ⊥) (lines : List ℕ) (all : Gathered (LineTo c (moment g.to)) (length c.lines) lines) where
    abbrev along : ℕ → Move
    along i = record { row = row; line = Some (get_or lines i 0) }

    -- along a line that was read
    module _ (i : ℕ) (w : Line) (line_is : slice_get c.lines (get_or lines i 0) ≡ Some w) where
      pub along_place : On c (r.from, w.from)
      along_place = leaves_on ready.sound row r row_is w.from (ready.sound.sound_lines _ w line_is).from_in

      pub along_starts : (p : Place) (k : ℕ) → Transition m c (record { row = row; line = Some (get_or lines i 0) }) p g.to k Quiet → p ≡ (r.from, w.from)
      along_starts p k t = place_eq p (r.from, w.from) (t.leaves ∙ ap (λ (z : Row). z.from) (row_of refl t)) (⊎_elim
          (λ u. absurd (none_some _ _ u.alone refl))
          (λ u. let n : get_or lines i 0 ≡ u.number = some_eq _ _ _ refl u.along in u.depart ∙ ap (λ (z : Line). z.from) (some_eq _ _ _ u.found (ap (slice_get c.lines) (sym n) ∙ line_is)))
          t.time)

      pub no_same_event : (w.event ≡ r.label → ⊥) → Finds m c l g (IsStepOf (record { row = row; line = Some (get_or lines i 0) })) None
      no_same_event other y k d =
          let x = step_front laws ready g on (along i) y k d in
          ⊎_elim
          (λ u. none_some _ _ u.alone refl)
          (λ u. let n : get_or lines i 0 ≡ u.number = some_eq _ _ _ refl u.along in
          let w-is : w ≡ u.taken = some_eq _ _ _ (ap (slice_get c.lines) (sym n) ∙ line_is) u.found in
          other (ap (λ (z : Line). z.event) w-is ∙ u.same_event ∙ ap (λ (z : Row). z.label) (row_of refl x.goes)))
          x.goes.time

    pub no_line_read : (i : ℕ) → slice_get c.lines (get_or lines i 0) ≡ None → Finds m c l g (IsStepOf (record { row = row; line = Some (get_or lines i 0) })) None
    no_line_read i e y k d =
        let x = step_front laws ready g on (along i) y k d in
        ⊎_elim
        (λ u. none_some _ _ u.alone refl)
        (λ u. let n : get_or lines i 0 ≡ u.number = some_eq _ _ _ refl u.along in none_some _ _ e (ap (slice_get c.lines) n ∙ u.found))
        x.goes.time

    -- a step by the row is along a line of the list
    along_one : {v : Move} {p : Place} {k : ℕ} → v.row ≡ row → Transition m c v p g.to k Quiet → (i : ℕ) × (i < length lines) × (v ≡ record { row = row; line = Some (get_or lines i 0) })
    along_one {v} same t = ⊎_elim
        (λ u. absurd (some_event (ap (λ (z : Row). z.label) (sym (row_of same t)) ∙ u.no_event (ap (λ (z : Row). z.kind) (row_of same t) ∙ plain))))
        (λ u. let f = all.complete u.number (slice_get_within c.lines u.number u.taken u.found) (u.taken, u.found, sym u.arrive) in
        (f.0, f.1, move_eq v (record { row = row; line = Some (get_or lines f.0 0) }) same (u.along ∙ ap Some (sym f.2))))
        t.time

    pub along_none : (n : ℕ) → length lines ≤ n → NoStepAlong m c l g row lines n → Finds m c l g (IsStepBy row) None
    along_none n h old y k (v, same, d) =
        let x = step_front laws ready g on v y k d in
        let f = along_one same x.goes in
        let f1 = f.1 in
        old f.0 (omega arith) y k (d ∙ ap by_step f.2)

    pub along_wins : (n : ℕ) (s : LogDerivation) → n < length lines → NoStepAlong m c l g row lines n → Wins m c l g (IsStepOf (record { row = row; line = Some (get_or lines n 0) })) s → Wins m c l g (IsStepBy row) s
    along_wins n s hn old w = wins_more m c l g (IsStepOf (along n)) (IsStepBy row) s w (along n, refl, w.one) (λ y k q.
        let x = step_front laws ready g on q.0 y k q.2 in
        let f = along_one q.1 x.goes in
        ⊎_elim
        (λ (h : f.0 < n). absurd (old f.0 h y k (q.2 ∙ ap by_step f.2)))
        (λ (h : n ≤ f.0). ⊎_elim
        (λ (e : f.0 ≡ n). inl (q.2 ∙ ap by_step (f.2 ∙ ap along e)))
        (λ (ne : f.0 ≡ n → ⊥). inr (later y f.0 (omega arith) f.1 (q.2 ∙ ap by_step f.2)))
        (cases_eq f.0 n))
        (cases_lt f.0 n))
      where
        later : (y : Record) (i : ℕ) → n < i → i < length lines → y.derivation ≡ by_step (record { row = row; line = Some (get_or lines i 0) }) → Lex (derivation_key (derivation_of s)) (derivation_key y.derivation)
        later y i h hi d = subst₂ (λ (x z : Derivation). Lex (derivation_key x) (derivation_key z)) (sym w.one) (sym d) (inr (refl, inr (refl, inl (all.ascending n i h hi))))
