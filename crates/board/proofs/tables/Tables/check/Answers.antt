use Rattle.std.proofs.Common.{arith}
use Rattle.std.proofs.lemmas.Grind.{common_steps}
use Rattle.board.proofs.Checking.Accepting.{answer_accepts}
use Rattle.board.proofs.Checking.Faulting.{answer_refuses}
use Rattle.board.proofs.tables.Tables.check.Goals as goal

pub returns-in_err-map_err-clause-readings : goal.returns-in_err-map_err-clause-readings
returns-in_err-map_err-clause-readings g c = answer_accepts _ _ (grind (arith, common_steps))

pub returns-then-not-has_ended-clause-readings : goal.returns-then-not-has_ended-clause-readings
returns-then-not-has_ended-clause-readings g c = answer_accepts _ _ (grind (arith, common_steps))

pub returns-clause-readings : goal.returns-clause-readings
returns-clause-readings g c = answer_accepts _ _ (grind (arith, common_steps))

pub returns-in_err-map_err-clause-refusals : goal.returns-in_err-map_err-clause-refusals
returns-in_err-map_err-clause-refusals g c = answer_refuses c.args.self.now.sound _ _ (grind (arith, common_steps))

pub returns-then-not-has_ended-clause-refusals : goal.returns-then-not-has_ended-clause-refusals
returns-then-not-has_ended-clause-refusals g c = answer_refuses c.args.self.now.sound _ _ (grind (arith, common_steps))

pub returns-clause-refusals : goal.returns-clause-refusals
returns-clause-refusals g c = answer_refuses c.args.self.now.sound _ _ (grind (arith, common_steps))
