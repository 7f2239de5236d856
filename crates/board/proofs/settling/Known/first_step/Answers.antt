use Rattle.std.proofs.Common.{arith}
use Rattle.board.specs.Held.{held}
use Rattle.board.proofs.Least.Winning.{no_step_more, no_step, first_row}
use Rattle.board.proofs.settling.Known.first_step.Goals as goal

pub loop-row-init : goal.loop-row-init
loop-row-init g c = λ i h. absurd (omega arith)

pub loop-row-preserved : goal.loop-row-preserved
loop-row-preserved g c = no_step_more g.K.Kind.meaning (held c.args.self.now.tables.now) c.args.self.now.log.now c.args.goal c.loop-row.row c.loop-row.invariant c.in_default.ensures

pub returns-in-Some : goal.returns-in-Some
returns-in-Some g c = first_row g.K.Kind.meaning (held c.args.self.now.tables.now) c.args.self.now.log.now c.args.goal c.loop-row.row c.in-Some.step c.loop-row.invariant c.in-Some.ensures

pub returns : goal.returns
returns g c = no_step g.K.Kind.meaning (held c.args.self.now.tables.now) c.args.self.now.log.now c.args.goal c.loop-row.row (omega arith) c.loop-row.invariant
