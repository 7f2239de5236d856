use Rattle.std.proofs.Common.{arith}
use Rattle.board.specs.Held.{held}
use Rattle.board.proofs.Questions.Holding.{at_index}
use Rattle.board.proofs.settled.Settled.record_between.Goals as goal

pub returns : goal.returns
returns g c =
    let x = c.args.self.now in
    let few = x.tables.sound.few_places in
    let z = at_index (held x.tables) x.log x.book c.args.from c.args.to few (omega (arith, few, c.requires.to)) _ c.at.ensures in
    record { which = z.0; within = z.1 }
