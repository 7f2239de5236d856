use Rattle.board.specs.Held.{held}
use Rattle.board.proofs.Least.Rounding.{step_wins_all, call_wins_all}
use Rattle.board.proofs.settling.Known.winner.Goals as goal

pub returns-in-Some : goal.returns-in-Some
returns-in-Some g c = step_wins_all g.K.Kind.meaning (held c.args.self.now.tables.now) c.args.self.now.log.now c.args.goal c.in-Some.step c.in-Some.ensures

pub returns : goal.returns
returns g c = call_wins_all g.K.Kind.meaning (held c.args.self.now.tables.now) c.args.self.now.log.now c.args.goal c.in-Some-first_call.call c.in_default.ensures c.in-Some-first_call.ensures
