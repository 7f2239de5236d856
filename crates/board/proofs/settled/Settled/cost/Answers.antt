use Rattle.std.proofs.Common.{Ok, arith, rules}
use Rattle.std.proofs.lemmas.Grind.{common_steps}
use Rattle.board.proofs.Questions.Answering.{cost_tells}
use Rattle.board.proofs.settled.Settled.cost.Goals as goal

pub returns-in_err-r-clause-means : goal.returns-in_err-r-clause-means
returns-in_err-r-clause-means g c = cost_tells g.met.K.Kind.lawful c.args.self.now _ (search rules)

pub returns-clause-means : goal.returns-clause-means
returns-clause-means g c = cost_tells g.met.K.Kind.lawful c.args.self.now (Ok (c.in_ok-r.r.cost, c.min.result)) (grind (arith, common_steps))
