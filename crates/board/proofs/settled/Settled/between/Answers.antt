use Rattle.std.proofs.Common.{Ok, arith, rules}
use Rattle.std.proofs.lemmas.Grind.{common_steps}
use Rattle.board.specs.Logs.{nth_record}
use Rattle.board.proofs.Questions.Answering.{between_tells}
use Rattle.board.proofs.settled.Settled.between.Goals as goal

pub returns-in_err-i-clause-means : goal.returns-in_err-i-clause-means
returns-in_err-i-clause-means g c = between_tells g.met.K.Kind.lawful c.args.self.now _ _ _ (search rules)

pub returns-clause-means : goal.returns-clause-means
returns-clause-means g c =
    let x = c.args.self.now in
    between_tells g.met.K.Kind.lawful x _ _ (Ok (nth_record x.log c.in_ok-i.i).cost) (grind (arith, common_steps))
