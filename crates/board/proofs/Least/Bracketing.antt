-- What open and close rows do, and which rows stand for them.
use Rattle.std.proofs.Common.{◌≡◌, ℕ, ◌/◌, ◌%◌, ◌<◌, true, length, Some, sym, refl, ap, ◌∙◌, subst, inl, ⊎_elim}
use lib.Arith.{digits_div, digits_mod}
use Rattle.std.proofs.lemmas.Bool.{both_ways}
use Rattle.std.proofs.lemmas.Option.{slice_get_within}
use Rattle.std.specs.List.{slice_get}
use Rattle.costs.specs.Meaning.{Meaning, NoDearer}
use Rattle.board.specs.declared.row.Row.{Row}
use Rattle.board.specs.declared.row.RowKind.{RowKind}
use Rattle.board.specs.declared.row.RowKind.TheVariants.{Plain as PlainRow, Open, Close, End}
use Rattle.board.specs.declared.moves.Move.{Move}
use Rattle.board.specs.declared.moves.Effect.{Effect}
use Rattle.board.specs.declared.moves.Effect.TheVariants.{Quiet, Opens, Closes}
use Rattle.board.specs.Content.{Content, Sound}
use Rattle.board.specs.Moves.{Place, mode, moment, On, place_number, effect, effect_of, Transition}
use Rattle.board.specs.Settling.{bare}
use Rattle.board.specs.Minima.{StandsFor}
use Rattle.board.specs.Winning.{is_close}
use Rattle.board.proofs.Basics.Membership.{some_eq, none_some}
use Rattle.board.proofs.Rounds.Diagonal.{place_eq}
use Rattle.board.proofs.Rounds.Uniqueness.{bracket_alone}
use Rattle.board.proofs.Basics.Numbers.{number_in}

-- a move's row is one that is held
pub goes_row : {m : Meaning} {c : Content} {v : Move} {p q : Place} {k : ℕ} {e : Effect} → Transition m c v p q k e → v.row < length c.rows
goes_row {c = c} {v = v} g = slice_get_within c.rows v.row g.by g.found

-- the number of a place of the board
pub small_number : {m : Meaning} {c : Content} → Sound m c → (p : Place) → On c p → place_number c p < 64
small_number {c = c} sound p on = number_in c p sound.few_places on

-- places at moments of the board that have one number are one
pub place_unique : (c : Content) (p q : Place) → moment p < c.moments → moment q < c.moments → place_number c p ≡ place_number c q → p ≡ q
place_unique c p q h g e = place_eq p q (sym (digits_div (mode p) h) ∙ ap (λ x. x / c.moments) e ∙ digits_div (mode q) g) (sym (digits_mod (mode p) h) ∙ ap (λ x. x % c.moments) e ∙ digits_mod (mode q) g)

-- what a bracket's row says of its move, and the other way round
module _ {m : Meaning} {c : Content} (i : ℕ) (r : Row) (row_is : slice_get c.rows i ≡ Some r) where
  pub bracket_leaves : {p q : Place} {k : ℕ} {e : Effect} → Transition m c (bare i) p q k e → mode p ≡ r.from
  bracket_leaves t = t.leaves ∙ ap (λ (z : Row). z.from) (some_eq _ _ _ t.found row_is)

  pub bracket_enters : {p q : Place} {k : ℕ} {e : Effect} → (e ≡ Quiet → ⊥) → Transition m c (bare i) p q k e → q ≡ (r.to, moment p)
  bracket_enters {p} {q} loud t = place_eq q (r.to, moment p) (t.enters ∙ ap (λ (z : Row). z.to) (some_eq _ _ _ t.found row_is)) (sym (bracket_alone loud t).1)

  pub bracket_price : {p q : Place} {k : ℕ} {e : Effect} → Transition m c (bare i) p q k e → k ≡ r.cost
  bracket_price t = ⊎_elim (λ u. u.price ∙ ap (λ (z : Row). z.cost) (some_eq _ _ _ t.found row_is)) (λ u. absurd (none_some _ _ refl u.along)) t.time

  pub bracket_does : {p q : Place} {k : ℕ} {e : Effect} → Transition m c (bare i) p q k e → e ≡ effect r
  bracket_does t = t.does ∙ ap (λ (z : Row). effect z) (some_eq _ _ _ t.found row_is)

  pub bracket_goes : (e : Effect) → effect r ≡ e → (r.kind ≡ PlainRow → ⊥) → (r.kind ≡ End → ⊥) → (p q : Place) → mode p ≡ r.from → moment p < c.moments → q ≡ (r.to, moment p) → Transition m c (bare i) p q r.cost e
  bracket_goes e does not-plain not-end p q from there to = record {
    by = r;
    found = row_is;
    leaves = from;
    enters = ap (λ (z : Place). mode z) to;
    does = sym does;
    time = inl (record {
      alone = refl;
      no_event = λ z. absurd (not-plain z);
      at_end = λ z. absurd (not-end z);
      there = there;
      keeps = sym (ap (λ (z : Place). moment z) to);
      price = refl;
    });
  }

pub effect_open : (r : Row) → r.kind ≡ Open → effect r ≡ Opens r.label
effect_open r e = ap (λ (k : RowKind). effect_of k r.label) e

pub effect_close : (r : Row) → r.kind ≡ Close → effect r ≡ Closes r.label
effect_close r e = ap (λ (k : RowKind). effect_of k r.label) e

pub not_both : (k : RowKind) → k ≡ Open → (k ≡ PlainRow → ⊥) × (k ≡ End → ⊥)
not_both k e = (λ z. let h : Open ≡ PlainRow = sym e ∙ z in cc, λ z. let h : Open ≡ End = sym e ∙ z in cc)

pub not_close : (k : RowKind) → k ≡ Close → (k ≡ PlainRow → ⊥) × (k ≡ End → ⊥)
not_close k e = (λ z. let h : Close ≡ PlainRow = sym e ∙ z in cc, λ z. let h : Close ≡ End = sym e ∙ z in cc)

pub close_kind : (k : RowKind) (n u : ℕ) → Closes n ≡ effect_of k u → (k ≡ Close) × (n ≡ u)
close_kind PlainRow n u e = absurd cc
close_kind Open n u e = absurd cc
close_kind Close n u e = (refl, cc)
close_kind End n u e = absurd cc

pub close_is : (k : RowKind) → is_close k ≡ true → k ≡ Close
close_is PlainRow e = absurd (both_ways _ refl e)
close_is Open e = absurd (both_ways _ refl e)
close_is Close e = refl
close_is End e = absurd (both_ways _ refl e)

pub open_kind : (k : RowKind) (n u : ℕ) → Opens n ≡ effect_of k u → (k ≡ Open) × (n ≡ u)
open_kind PlainRow n u e = absurd cc
open_kind Open n u e = (refl, cc)
open_kind Close n u e = absurd cc
open_kind End n u e = absurd cc

-- a row that stands for another leads where that leads, at its own cost
module _ {m : Meaning} {c : Content} {row lead k : ℕ} {p q : Place} {e : Effect} (g : Transition m c (bare row) p q k e) (s : StandsFor m c g.by lead) where
  pub stands_goes : Transition m c (bare lead) p q s.by.cost e
  stands_goes = record {
    by = s.by;
    found = s.found;
    leaves = g.leaves ∙ sym s.leaves;
    enters = g.enters ∙ sym s.enters;
    does = g.does ∙ (λ i. effect_of (sym s.kind i) (sym s.label i));
    time = ⊎_elim
        (λ t. inl (record {
          alone = refl;
          no_event = λ z. s.label ∙ t.no_event (sym s.kind ∙ z);
          at_end = λ z. t.at_end (sym s.kind ∙ z);
          there = t.there;
          keeps = t.keeps;
          price = refl;
        }))
        (λ t. absurd (none_some _ _ refl t.along))
        g.time;
  }

  -- it costs no more
  pub stands_cheap : NoDearer m s.by.cost k
  stands_cheap = ⊎_elim (λ t. subst (NoDearer m s.by.cost) (sym t.price) s.no_dearer) (λ t. absurd (none_some _ _ refl t.along)) g.time
