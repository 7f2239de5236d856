use Rattle.board.specs.Held.{held}
use Rattle.board.proofs.Least.Calling.{NoOpenBelow}
use Rattle.board.proofs.settling.Known.first_call.Given as goal

abbrev pub invariant-loop-o : goal.invariant-loop-o
invariant-loop-o g l = NoOpenBelow g.K.Kind.meaning (held l.self.tables.now) l.self.log.now l.goal l.o
