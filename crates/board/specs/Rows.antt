-- When a row is well formed, and the numbers of the kinds of row.
use Rattle.std.specs.Prelude.{ℕ, Bool, true, cond, ◌&&◌, Some, None, Option, ◌==◌, nat_le, nat_lt}
use Rattle.board.specs.declared.row.RowKind.{RowKind}
use Rattle.board.specs.declared.row.RowKind.TheVariants.{Plain, Open, Close, End}
use Rattle.board.specs.declared.row.Row.{Row}
use Rattle.board.specs.declared.row.Line.{Line}

-- the number of a kind of row
abbrev pub kind_number : RowKind → ℕ
kind_number Plain = 0
kind_number Open = 1
kind_number Close = 2
kind_number End = 3

-- the kind that two bits stand for
abbrev pub kind_of_bits : ℕ → RowKind
kind_of_bits n = cond (n == kind_number Plain) Plain (cond (n == kind_number Open) Open (cond (n == kind_number Close) Close End))

-- the kind of row that has the number
abbrev pub kind_of_number : ℕ → Option RowKind
kind_of_number n = cond (nat_lt n 4) (Some (kind_of_bits n)) None

-- Label, action and modes are as the kind asks: of an open or close row the label is a bracket of 0 to 15 and the
-- action 0; of an end row both are 0 and the modes are equal.
abbrev pub formed : RowKind → Row → Bool
formed Plain r = true
formed Open r = nat_le r.label 15 && r.action == 0
formed Close r = nat_le r.label 15 && r.action == 0
formed End r = r.label == 0 && (r.action == 0 && r.from == r.to)

-- a row and a line of zeros, as one has where none is given
abbrev pub zero_row : Row
zero_row = record { kind = Plain; from = 0; to = 0; label = 0; action = 0; cost = 0 }

abbrev pub zero_line : Line
zero_line = record { from = 0; to = 0; event = 0; cost = 0 }
