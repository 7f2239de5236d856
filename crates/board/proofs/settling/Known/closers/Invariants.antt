use Rattle.board.specs.Held.{held}
use Rattle.board.specs.Winning.{Gathered}
use Rattle.board.proofs.Least.Gathering.{CloserTo}
use Rattle.board.proofs.settling.Known.closers.Given as goal

abbrev pub invariant-loop-w : goal.invariant-loop-w
invariant-loop-w g l = Gathered (CloserTo (held l.self.tables.now) l.leads l.mode) l.w l.found.items
