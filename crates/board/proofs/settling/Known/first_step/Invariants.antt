use Rattle.board.specs.Held.{held}
use Rattle.board.proofs.Least.Winning.{NoStepBelow}
use Rattle.board.proofs.settling.Known.first_step.Given as goal

abbrev pub invariant-loop-row : goal.invariant-loop-row
invariant-loop-row g l = NoStepBelow g.K.Kind.meaning (held l.self.tables.now) l.self.log.now l.goal l.row
