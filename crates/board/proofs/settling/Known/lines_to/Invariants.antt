use Rattle.board.specs.Held.{held}
use Rattle.board.specs.Winning.{Gathered, LineTo}
use Rattle.board.proofs.settling.Known.lines_to.Given as goal

abbrev pub invariant-loop-number : goal.invariant-loop-number
invariant-loop-number g l = Gathered (LineTo (held l.self.tables.now) l.moment) l.number l.found.items
