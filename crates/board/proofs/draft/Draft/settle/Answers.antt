use Rattle.board.specs.Held.{held}
use Rattle.board.proofs.Flight.{settling_examples}
use Rattle.board.proofs.Promised.{settling_promises, settling_computed, board_promises}
use Rattle.board.proofs.Rounds.Uniqueness.{unique}
use Rattle.board.proofs.draft.Draft.settle.Goals as goal

pub invariant_of-result-clause-settled : goal.invariant_of-result-clause-settled
invariant_of-result-clause-settled g c =
    let t = c.args.self.tables in
    let laws = g.met.K.Kind.lawful in
    unique laws t.sound c.settled_log-log.ensures.settled (settling_computed g.K.Kind.meaning (held t) laws t.sound).settled

pub returns-clause-calls_and_settling : goal.returns-clause-calls_and_settling
returns-clause-calls_and_settling g c = board_promises

pub returns-clause-example : goal.returns-clause-example
returns-clause-example g c = settling_examples

pub returns-clause-least : goal.returns-clause-least
returns-clause-least g c =
    let t = c.args.self.tables in
    ((settling_promises g.K.Kind.meaning (held t) g.met.K.Kind.lawful t.sound).1 _ c.settled_log-log.ensures.settled).0

pub returns-clause-cheapest : goal.returns-clause-cheapest
returns-clause-cheapest g c =
    let t = c.args.self.tables in
    ((settling_promises g.K.Kind.meaning (held t) g.met.K.Kind.lawful t.sound).1 _ c.settled_log-log.ensures.settled).1
