use Rattle.board.specs.Held.{held}
use Rattle.board.proofs.Least.Winning.{NoStepAlong}
use Rattle.board.proofs.settling.Known.step_along.Given as goal

abbrev pub invariant-loop-n : goal.invariant-loop-n
invariant-loop-n g l = NoStepAlong g.K.Kind.meaning (held l.self.tables.now) l.self.log.now l.goal l.row l.lines l.n
