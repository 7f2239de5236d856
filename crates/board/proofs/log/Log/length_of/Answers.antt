use Rattle.board.proofs.log.Log.length_of.Goals as goal
use Rattle.std.proofs.Common.{arith}
use Rattle.board.proofs.Rounds.Logging.{step_length, call_length}

pub returns-in-Step : goal.returns-in-Step
returns-in-Step c =
    let l = c.args.self.now in
    let e = step_length l.records l.count c.in-Step.is c.requires.refers in
    omega (arith, e.1, c.requires.spells.lengths_are c.in-Step.front e.0, c.min.ensures)

pub returns-in-Call : goal.returns-in-Call
returns-in-Call c =
    let l = c.args.self.now in
    let e = call_length l.records l.count c.in-Call.is c.requires.refers in
    omega (arith, e.2, c.requires.spells.lengths_are c.in-Call.front e.0, c.requires.spells.lengths_are c.in-Call.inside e.1, c.min-in-Call.ensures)
