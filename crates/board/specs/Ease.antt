-- When one content is another with only more rows or lines, or cheaper ones.
use Rattle.std.specs.Prelude.{◌≡◌, ℕ, Some}
use Rattle.std.specs.List.{slice_get}
use Rattle.costs.specs.Meaning.{Meaning, NoDearer}
use Rattle.board.specs.declared.row.Row.{Row}
use Rattle.board.specs.declared.row.Line.{Line}
use Rattle.board.specs.Content.{Content, Sound}
use Rattle.board.specs.Calls.{with_row, with_line, with_row_cost, with_line_cost}

-- r' moves as r does, and is no dearer
pub record EasedRow (m : Meaning) (r r' : Row) : Type 0 where
  pub kind_same : r'.kind ≡ r.kind
  pub from_same : r'.from ≡ r.from
  pub to_same : r'.to ≡ r.to
  pub label_same : r'.label ≡ r.label
  pub cost_eased : NoDearer m r'.cost r.cost

-- l' goes between the same moments by the same event as l, and is no dearer
pub record EasedLine (m : Meaning) (l l' : Line) : Type 0 where
  pub from_same : l'.from ≡ l.from
  pub to_same : l'.to ≡ l.to
  pub event_same : l'.event ≡ l.event
  pub cost_eased : NoDearer m l'.cost l.cost

-- c' has the size of c, and each row and each line of c at its number, no dearer; it may have more of both.
pub record Eased (m : Meaning) (c c' : Content) : Type 0 where
  pub modes_same : c'.modes ≡ c.modes
  pub moments_same : c'.moments ≡ c.moments
  pub rows_eased : (i : ℕ) (r : Row) → slice_get c.rows i ≡ Some r → (r' : Row) × (slice_get c'.rows i ≡ Some r') × EasedRow m r r'
  pub lines_eased : (i : ℕ) (l : Line) → slice_get c.lines i ≡ Some l → (l' : Line) × (slice_get c'.lines i ≡ Some l') × EasedLine m l l'

-- What eases a sound content: nothing, a row or line added, or one repriced no dearer, and one of these after another.
pub record CallsEase (m : Meaning) : Type 0 where
  pub same : (c : Content) → Sound m c → Eased m c c
  pub twice : (a b c : Content) → Sound m a → Sound m b → Sound m c → Eased m a b → Eased m b c → Eased m a c
  pub row_added : (c : Content) (r : Row) → Sound m c → Eased m c (with_row c r)
  pub line_added : (c : Content) (l : Line) → Sound m c → Eased m c (with_line c l)
  pub row_repriced : (c : Content) (i k : ℕ) (r : Row) → Sound m c → slice_get c.rows i ≡ Some r → NoDearer m k r.cost → Eased m c (with_row_cost c i k)
  pub line_repriced : (c : Content) (i k : ℕ) (l : Line) → Sound m c → slice_get c.lines i ≡ Some l → NoDearer m k l.cost → Eased m c (with_line_cost c i k)
