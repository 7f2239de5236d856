use Rattle.board.specs.Held.{held}
use Rattle.board.proofs.Least.Gathering.{Picked}
use Rattle.board.proofs.settling.Known.closers_of.Given as goal

abbrev pub invariant-loop-n : goal.invariant-loop-n
invariant-loop-n g l = Picked (held l.self.tables.now) l.closers l.bracket l.n l.found.items
