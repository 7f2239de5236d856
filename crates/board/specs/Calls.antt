-- What each call on a draft answers, and what it makes of the content.
use Rattle.std.specs.Prelude.{ℕ, zero, suc, ◌*◌, Bool, not, ◌||◌, List, [], ◌∷◌, ◌++◌, length, Option, ◌==◌, nat_le, nat_lt}
use Rattle.costs.specs.Meaning.{Meaning}
use Rattle.board.specs.Bounds.{most_places, most_rows, most_lines}
use Rattle.board.specs.declared.row.Row.{Row}
use Rattle.board.specs.declared.row.Line.{Line}
use Rattle.board.specs.declared.refusal.Refusal.{Refusal}
use Rattle.board.specs.declared.refusal.Refusal.TheVariants.{NotEmpty, SizeOut, RowsFull, ModeOut, BadRow, LinesFull, MomentOut, NoEvent, NoSuch, NotACost}
use Rattle.board.specs.Refusals.{first_refusal, unless}
use Rattle.board.specs.Rows.{formed}
use Rattle.board.specs.Content.{Content, new, Sound}

-- Why size is declined: a row or a line is held (1); M times T is 0 or above 64 (2).
abbrev pub size_refusal : Content → ℕ → ℕ → Option Refusal
size_refusal c modes moments =
    first_refusal
    (((not (length c.rows == 0) || not (length c.lines == 0)), NotEmpty)
    ∷ ((modes * moments == 0 || nat_lt most_places (modes * moments)), SizeOut)
    ∷ [])

-- the content with this size
abbrev pub with_size : Content → ℕ → ℕ → Content
with_size c modes moments = record { modes = modes; moments = moments; rows = c.rows; lines = c.lines }

-- the content after the call: as it was where the call is refused
abbrev pub size_after : Content → ℕ → ℕ → Content
size_after c modes moments = unless (size_refusal c modes moments) (with_size c modes moments) c

-- Why a row is declined: 128 are held (3); a mode is not below M (4); the row is not formed (5); its cost is none (10).
abbrev pub row_refusal : Meaning → Content → Row → Option Refusal
row_refusal m c r =
    first_refusal
    ((nat_le most_rows (length c.rows), RowsFull)
    ∷ ((nat_le c.modes r.from || nat_le c.modes r.to), ModeOut)
    ∷ (not (formed r.kind r), BadRow)
    ∷ (not (m.is_cost r.cost), NotACost)
    ∷ [])

-- the content with this row last
abbrev pub with_row : Content → Row → Content
with_row c r = record { modes = c.modes; moments = c.moments; rows = c.rows ++ (r ∷ []); lines = c.lines }

-- the content after the call
abbrev pub row_after : Meaning → Content → Row → Content
row_after m c r = unless (row_refusal m c r) (with_row c r) c

-- A line's own faults: a moment is not below T (7); its event is 0 (8); its cost is none (10).
abbrev pub line_refusals : Meaning → ℕ → Line → List (Bool × Refusal)
line_refusals m moments l =
    ((nat_le moments l.from || nat_le moments l.to), MomentOut)
    ∷ ((l.event == 0), NoEvent)
    ∷ (not (m.is_cost l.cost), NotACost)
    ∷ []

-- Why a line is declined: 128 are held (6), or the first of its own faults.
abbrev pub line_refusal : Meaning → Content → Line → Option Refusal
line_refusal m c l = first_refusal ((nat_le most_lines (length c.lines), LinesFull) ∷ line_refusals m c.moments l)

-- the content with this line last
abbrev pub with_line : Content → Line → Content
with_line c l = record { modes = c.modes; moments = c.moments; rows = c.rows; lines = c.lines ++ (l ∷ []) }

-- the content after the call
abbrev pub line_after : Meaning → Content → Line → Content
line_after m c l = unless (line_refusal m c l) (with_line c l) c

-- Why repricing row or line i is declined: there is none (9); the cost is none (10).
abbrev pub reprice_refusal : {A : Type 0} → Meaning → List A → ℕ → ℕ → Option Refusal
reprice_refusal m xs i cost = first_refusal ((nat_le (length xs) i, NoSuch) ∷ (not (m.is_cost cost), NotACost) ∷ [])

-- the element at i changed by f, and every other as it was
abbrev pub changed : {A : Type 0} → (A → A) → List A → ℕ → List A
changed f [] i = []
changed f (x ∷ xs) zero = f x ∷ xs
changed f (x ∷ xs) (suc i) = x ∷ changed f xs i

-- the row with this cost
abbrev pub row_at_cost : ℕ → Row → Row
row_at_cost cost r = record { kind = r.kind; from = r.from; to = r.to; label = r.label; action = r.action; cost = cost }

-- the line with this cost
abbrev pub line_at_cost : ℕ → Line → Line
line_at_cost cost l = record { from = l.from; to = l.to; event = l.event; cost = cost }

-- the content with this cost at row i
abbrev pub with_row_cost : Content → ℕ → ℕ → Content
with_row_cost c i cost = record { modes = c.modes; moments = c.moments; rows = changed (row_at_cost cost) c.rows i; lines = c.lines }

-- the content with this cost at line i
abbrev pub with_line_cost : Content → ℕ → ℕ → Content
with_line_cost c i cost = record { modes = c.modes; moments = c.moments; rows = c.rows; lines = changed (line_at_cost cost) c.lines i }

-- the content after row i is repriced
abbrev pub reprice_row_after : Meaning → Content → ℕ → ℕ → Content
reprice_row_after m c i cost = unless (reprice_refusal m c.rows i cost) (with_row_cost c i cost) c

-- the content after line i is repriced
abbrev pub reprice_line_after : Meaning → Content → ℕ → ℕ → Content
reprice_line_after m c i cost = unless (reprice_refusal m c.lines i cost) (with_line_cost c i cost) c

-- Clear: drops all lines.
abbrev pub without_lines : Content → Content
without_lines c = record { modes = c.modes; moments = c.moments; rows = c.rows; lines = [] }

-- Every call but load, which makes these calls, keeps a sound content sound, and a new board's is.
pub record CallsKeepSound (m : Meaning) : Type 0 where
  pub begun : Sound m new
  pub sized : (c : Content) (modes moments : ℕ) → Sound m c → Sound m (size_after c modes moments)
  pub row_added : (c : Content) (r : Row) → Sound m c → Sound m (row_after m c r)
  pub line_added : (c : Content) (l : Line) → Sound m c → Sound m (line_after m c l)
  pub row_repriced : (c : Content) (i cost : ℕ) → Sound m c → Sound m (reprice_row_after m c i cost)
  pub line_repriced : (c : Content) (i cost : ℕ) → Sound m c → Sound m (reprice_line_after m c i cost)
  pub cleared : (c : Content) → Sound m c → Sound m (without_lines c)
