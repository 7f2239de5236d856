-- What a move names, where that starts, and where it leads.
use Rattle.std.specs.Prelude.{ℕ, Bool, true, false, cond, not, ◌&&◌, List, Some, None, Option, ◌==◌, nat_lt}
use Rattle.std.specs.Option.{option_and_then}
use Rattle.std.specs.List.{slice_get}
use Rattle.costs.specs.Meaning.{Meaning}
use Rattle.board.specs.declared.row.RowKind.{RowKind}
use Rattle.board.specs.declared.row.RowKind.TheVariants.{Plain, Open, Close, End}
use Rattle.board.specs.declared.row.Row.{Row}
use Rattle.board.specs.declared.row.Line.{Line}
use Rattle.board.specs.declared.moves.Move.{Move}
use Rattle.board.specs.declared.moves.Arrival.{Arrival}
use Rattle.board.specs.declared.named.Named.{Named}
use Rattle.board.specs.Content.{Content}
use Rattle.board.specs.Moves.{Place, mode, moment, effect, move_row, end_moment?}

-- a plain row with an event takes a line
abbrev pub takes_line : RowKind → ℕ → Bool
takes_line Plain label = not (label == 0)
takes_line Open label = false
takes_line Close label = false
takes_line End label = false

-- a row that takes no line
abbrev pub alone : Row → Named
alone r = record { row = r; line = None }

-- a row with a line
abbrev pub along : Row → Line → Named
along r l = record { row = r; line = Some l }

-- the row with this line, if it is of the row's event
abbrev pub named_line : Row → Option Line → Option Named
named_line r o = option_and_then (λ l. cond (l.event == r.label) (Some (along r l)) None) o

-- the row alone if it takes no line and none is given, or with the line given if it takes one
abbrev pub named_by : List Line → Row → Option ℕ → Option Named
named_by ls r None = cond (takes_line r.kind r.label) None (Some (alone r))
named_by ls r (Some j) = cond (takes_line r.kind r.label) (named_line r (slice_get ls j)) None

-- the same, if there is such a row
abbrev pub named_row : List Line → Option ℕ → Option Row → Option Named
named_row ls line o = option_and_then (λ r. named_by ls r line) o

-- What a move names: a row that takes no line, or a row with a line of its event. Nothing where the row or the line is
-- not held, there is a line where the row takes none, or none of the row's event.
abbrev pub named : Content → Move → Option Named
named c v = named_row c.lines v.line (move_row c v.row)

-- whether a row of this kind may start at the moment: an end row starts at the last moment only
abbrev pub timely : RowKind → ℕ → ℕ → Bool
timely Plain moments t = true
timely Open moments t = true
timely Close moments t = true
timely End moments t = end_moment? moments t

-- whether a row with this line may start at the moment: at the line's moment; without a line at any moment of the board,
-- an end row at the last one only
abbrev pub starts_then : ℕ → Row → Option Line → ℕ → Bool
starts_then moments r None t = nat_lt t moments && timely r.kind moments t
starts_then moments r (Some l) t = t == l.from

-- whether what is named starts at the place: in the row's mode, at a moment when it may
abbrev pub starts_at : ℕ → Named → Place → Bool
starts_at moments n p = mode p == n.row.from && starts_then moments n.row n.line (moment p)

-- where a row with this line leads from there, at what cost, and what it does to the brackets
abbrev pub arrival_by_row : Meaning → Row → Option Line → Place → Arrival
arrival_by_row m r None p = record { to = (r.to, moment p); cost = r.cost; effect = effect r }
arrival_by_row m r (Some l) p = record { to = (r.to, l.to); cost = m.join r.cost l.cost; effect = effect r }

-- where what is named leads
abbrev pub arrival_by : Meaning → Named → Place → Arrival
arrival_by m n p = arrival_by_row m n.row n.line p

-- where what is named leads from the place, if it starts there
abbrev pub arrival_of : Meaning → ℕ → Option Named → Place → Option Arrival
arrival_of m moments o p = option_and_then (λ n. cond (starts_at moments n p) (Some (arrival_by m n p)) None) o

-- where the move v leads from p on a content
abbrev pub arrival_on : Meaning → Content → Move → Place → Option Arrival
arrival_on m c v p = arrival_of m c.moments (named c v) p
