-- What a move names starts at a place and leads on exactly where the move is a transition.
use Rattle.std.proofs.Common.{◌≡◌, ℕ, Bool, true, false, cond, Some, None, Option, sym, refl, ap, ◌∙◌, subst, inl, inr, ⊎_elim}
use Rattle.std.proofs.lemmas.Option.{none-some, same_Some}
use Rattle.std.specs.List.{slice_get}
use Rattle.std.proofs.lemmas.Bool.{eqb-true, eqb-false, ltb-true, lt-ltb, eq-eqb, ne_eqb, and_parts, and_from, cond-true, cond-false, not-true, not-false, not_from_true, not_from_false}
use Rattle.costs.specs.Meaning.{Meaning}
use Rattle.board.specs.declared.row.RowKind.{RowKind}
use Rattle.board.specs.declared.row.RowKind.TheVariants.{Plain, Open, Close, End}
use Rattle.board.specs.declared.row.Row.{Row}
use Rattle.board.specs.declared.row.Line.{Line}
use Rattle.board.specs.declared.moves.Move.{Move}
use Rattle.board.specs.declared.moves.Effect.{Effect}
use Rattle.board.specs.declared.moves.Arrival.{Arrival}
use Rattle.board.specs.declared.named.Named.{Named}
use Rattle.board.specs.Content.{Content}
use Rattle.board.specs.Moves.{Place, mode, moment, effect, Untimed, Timed, Transition, EndMoment}
use Rattle.board.specs.Arrivals.{alone, along, takes_line, named_line, named_by, named_row, named, timely, starts_at, arrival_by}

pub cond_some : {A : Type 0} (b : Bool) (x : Option A) (y : A) → cond b x None ≡ Some y → (b ≡ true) × (x ≡ Some y)
cond_some true x y e = (refl, e)
cond_some false x y e = absurd (none-some y e)

cond_other : {A : Type 0} (b : Bool) (x : Option A) (y : A) → cond b None x ≡ Some y → (b ≡ false) × (x ≡ Some y)
cond_other true x y e = absurd (none-some y e)
cond_other false x y e = (refl, e)

-- a row that takes no line has no event
no_line : (k : RowKind) (label : ℕ) → takes_line k label ≡ false → k ≡ Plain → label ≡ 0
no_line Plain label h e = eqb-true _ _ (not-false _ h)
no_line Open label h e = absurd cc
no_line Close label h e = absurd cc
no_line End label h e = absurd cc

from_no_line : (k : RowKind) (label : ℕ) → (k ≡ Plain → label ≡ 0) → takes_line k label ≡ false
from_no_line Plain label f = not_from_true _ (eq-eqb _ _ (f refl))
from_no_line Open label f = refl
from_no_line Close label f = refl
from_no_line End label f = refl

-- a row that takes a line is plain and has an event
a_line : (k : RowKind) (label : ℕ) → takes_line k label ≡ true → (k ≡ Plain) × (label ≡ 0 → ⊥)
a_line Plain label h = (refl, eqb-false _ _ (not-true _ h))
a_line Open label h = absurd cc
a_line Close label h = absurd cc
a_line End label h = absurd cc

timely_true : (k : RowKind) (n t : ℕ) → timely k n t ≡ true → k ≡ End → EndMoment n t
timely_true Plain n t h e = absurd cc
timely_true Open n t h e = absurd cc
timely_true Close n t h e = absurd cc
timely_true End n t h e = h

timely_from : (k : RowKind) (n t : ℕ) → (k ≡ End → EndMoment n t) → timely k n t ≡ true
timely_from Plain n t f = refl
timely_from Open n t f = refl
timely_from Close n t f = refl
timely_from End n t f = f refl

module _ (m : Meaning) (c : Content) (v : Move) (p : Place) where
  abbrev Going : Named → Type 0
  Going n = Transition m c v p (arrival_by m n p).to (arrival_by m n p).cost (arrival_by m n p).effect

  alone_goes : (r : Row) → slice_get c.rows v.row ≡ Some r → v.line ≡ None → (r.kind ≡ Plain → r.label ≡ 0) → starts_at c.moments (alone r) p ≡ true → Going (alone r)
  alone_goes r found bare no_event s =
      let z = and_parts _ _ s in
      let t = and_parts _ _ z.1 in
      record { by = r; found = found; leaves = eqb-true _ _ z.0; enters = refl; does = refl; time = inl (record { alone = bare; no_event = no_event; at_end = timely_true r.kind _ _ t.1; there = ltb-true _ _ t.0; keeps = refl; price = refl }) }

  along_goes : (r : Row) (l : Line) (j : ℕ) → slice_get c.rows v.row ≡ Some r → slice_get c.lines j ≡ Some l → v.line ≡ Some j → r.kind ≡ Plain → (r.label ≡ 0 → ⊥) → l.event ≡ r.label → starts_at c.moments (along r l) p ≡ true → Going (along r l)
  along_goes r l j found held with is_plain some_event same s =
      let z = and_parts _ _ s in
      record { by = r; found = found; leaves = eqb-true _ _ z.0; enters = refl; does = refl; time = inr (record { number = j; taken = l; along = with; found = held; is_plain = is_plain; some_event = some_event; same_event = same; depart = eqb-true _ _ z.1; arrive = refl; price = refl }) }

  by_line : (r : Row) (n : Named) (j : ℕ) (o : Option Line) → slice_get c.rows v.row ≡ Some r → slice_get c.lines j ≡ o → v.line ≡ Some j → r.kind ≡ Plain → (r.label ≡ 0 → ⊥) → named_line r o ≡ Some n → starts_at c.moments n p ≡ true → Going n
  by_line r n j None found held with is_plain some_event e s = absurd (none-some n e)
  by_line r n j (Some l) found held with is_plain some_event e s =
      let z = cond_some _ _ _ e in
      let n-is : along r l ≡ n = same_Some _ _ z.1 in
      subst Going n-is (along_goes r l j found held with is_plain some_event (eqb-true _ _ z.0) (subst (λ x. starts_at c.moments x p ≡ true) (sym n-is) s))

  by_time : (r : Row) (w : Option ℕ) (n : Named) → slice_get c.rows v.row ≡ Some r → v.line ≡ w → named_by c.lines r w ≡ Some n → starts_at c.moments n p ≡ true → Going n
  by_time r None n found ew e s =
      let z = cond_other _ _ _ e in
      let n-is : alone r ≡ n = same_Some _ _ z.1 in
      subst Going n-is (alone_goes r found ew (no_line r.kind r.label z.0) (subst (λ x. starts_at c.moments x p ≡ true) (sym n-is) s))
  by_time r (Some j) n found ew e s =
      let z = cond_some _ _ _ e in
      let k = a_line r.kind r.label z.0 in
      by_line r n j _ found refl ew k.0 k.1 z.1 s

  by_row : (o : Option Row) (n : Named) → slice_get c.rows v.row ≡ o → named_row c.lines v.line o ≡ Some n → starts_at c.moments n p ≡ true → Going n
  by_row None n found e s = absurd (none-some n e)
  by_row (Some r) n found e s = by_time r v.line n found refl e s

  -- what is named and starts at the place is a transition
  pub named_goes : (n : Named) → named c v ≡ Some n → starts_at c.moments n p ≡ true → Transition m c v p (arrival_by m n p).to (arrival_by m n p).cost (arrival_by m n p).effect
  named_goes n e s = by_row _ n refl e s

arrival_eq : (a b : Arrival) → mode a.to ≡ mode b.to → moment a.to ≡ moment b.to → a.cost ≡ b.cost → a.effect ≡ b.effect → a ≡ b
arrival_eq a b d t k e = λ i. record { to = (d i, t i); cost = k i; effect = e i }

-- and back: a transition is named, starts there and leads on
pub record Passing (m : Meaning) (c : Content) (v : Move) (p : Place) (a : Arrival) : Type 0 where
  pub name : Named
  pub named_so : named c v ≡ Some name
  pub starts : starts_at c.moments name p ≡ true
  pub leads_on : arrival_by m name p ≡ a

module _ (m : Meaning) (c : Content) (v : Move) (p q : Place) (k : ℕ) (e : Effect) where
  from_untimed : (r : Row) → slice_get c.rows v.row ≡ Some r → mode p ≡ r.from → mode q ≡ r.to → e ≡ effect r → Untimed c r v.line (moment p) (moment q) k → Passing m c v p (record { to = q; cost = k; effect = e })
  from_untimed r found leaves enters does s = record {
    name = alone r;
    named_so = ap (named_row c.lines v.line) found ∙ ap (named_by c.lines r) s.alone ∙ cond-false _ _ _ (from_no_line r.kind r.label s.no_event);
    starts = and_from _ _ (eq-eqb _ _ leaves) (and_from _ _ (lt-ltb _ _ s.there) (timely_from r.kind _ _ s.at_end));
    leads_on = arrival_eq _ _ (sym enters) s.keeps (sym s.price) (sym does);
  }

  from_timed : (r : Row) → slice_get c.rows v.row ≡ Some r → mode p ≡ r.from → mode q ≡ r.to → e ≡ effect r → Timed m c r v.line (moment p) (moment q) k → Passing m c v p (record { to = q; cost = k; effect = e })
  from_timed r found leaves enters does s = record {
    name = along r s.taken;
    named_so =
        ap (named_row c.lines v.line) found
        ∙ ap (named_by c.lines r) s.along
        ∙ cond-true _ _ _ (ap (λ z. takes_line z r.label) s.is_plain ∙ not_from_false _ (ne_eqb _ _ s.some_event))
        ∙ ap (named_line r) s.found
        ∙ cond-true _ _ _ (eq-eqb _ _ s.same_event);
    starts = and_from _ _ (eq-eqb _ _ leaves) (eq-eqb _ _ s.depart);
    leads_on = arrival_eq _ _ (sym enters) (sym s.arrive) (sym s.price) (sym does);
  }

  pub goes_named : Transition m c v p q k e → Passing m c v p (record { to = q; cost = k; effect = e })
  goes_named g = ⊎_elim (from_untimed g.by g.found g.leaves g.enters g.does) (from_timed g.by g.found g.leaves g.enters g.does) g.time
