use Rattle.board.specs.Held.{held}
use Rattle.board.proofs.Least.Calling.{NoCloseBelow}
use Rattle.board.proofs.settling.Known.call_opened.Given as goal

abbrev pub invariant-loop-w : goal.invariant-loop-w
invariant-loop-w g l = NoCloseBelow g.K.Kind.meaning (held l.self.tables.now) l.self.log.now l.goal l.o l.w
