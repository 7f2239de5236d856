use Rattle.std.proofs.Common.{suc, get_or, refl}
use Rattle.board.specs.Settling.{round}
use Rattle.board.proofs.Least.Rounding.{goal_on, goal_cost, goal_made, goal_fresh, goal_kept, round_is}
use Rattle.board.proofs.settling.rounds.Settling.round.Goals as goal

pub winner-derivation-requires-clause-on : goal.winner-derivation-requires-clause-on
winner-derivation-requires-clause-on g c = goal_on g.met.K.Kind.lawful c.requires.state c.args.pair c.requires.least (record { from = c.place.result; to = c.place-2.result; cost = get_or c.args.self.now.minima.waiting.costs c.args.pair 0 }) c.place.ensures.number c.place-2.ensures.number c.place.ensures.moment c.place-2.ensures.moment refl

pub winner-derivation-requires-clause-cost : goal.winner-derivation-requires-clause-cost
winner-derivation-requires-clause-cost g c = goal_cost g.met.K.Kind.lawful c.requires.state c.args.pair c.requires.least (record { from = c.place.result; to = c.place-2.result; cost = get_or c.args.self.now.minima.waiting.costs c.args.pair 0 }) c.place.ensures.number c.place-2.ensures.number c.place.ensures.moment c.place-2.ensures.moment refl

pub winner-derivation-requires-clause-some : goal.winner-derivation-requires-clause-some
winner-derivation-requires-clause-some g c = goal_made g.met.K.Kind.lawful c.requires.state c.args.pair c.requires.least (record { from = c.place.result; to = c.place-2.result; cost = get_or c.args.self.now.minima.waiting.costs c.args.pair 0 }) c.place.ensures.number c.place-2.ensures.number c.place.ensures.moment c.place-2.ensures.moment refl

pub settle-requires-clause-fresh : goal.settle-requires-clause-fresh
settle-requires-clause-fresh g c = goal_fresh g.met.K.Kind.lawful c.requires.state c.args.pair c.requires.least (record { from = c.place.result; to = c.place-2.result; cost = get_or c.args.self.now.minima.waiting.costs c.args.pair 0 }) c.place.ensures.number c.place-2.ensures.number c.place.ensures.moment c.place-2.ensures.moment refl

pub settle-requires-clause-kept : goal.settle-requires-clause-kept
settle-requires-clause-kept g c = goal_kept g.met.K.Kind.lawful c.requires.state c.args.pair c.requires.least (record { from = c.place.result; to = c.place-2.result; cost = get_or c.args.self.now.minima.waiting.costs c.args.pair 0 }) c.place.ensures.number c.place-2.ensures.number c.place.ensures.moment c.place-2.ensures.moment refl c.winner-derivation.result c.winner-derivation.ensures

pub returns-clause-reached : goal.returns-clause-reached
returns-clause-reached g c =
    let added = round_is g.met.K.Kind.lawful c.requires.state c.args.pair c.requires.least (record { from = c.place.result; to = c.place-2.result; cost = get_or c.args.self.now.minima.waiting.costs c.args.pair 0 }) c.place.ensures.number c.place-2.ensures.number c.place.ensures.moment c.place-2.ensures.moment refl c.winner-derivation.result c.winner-derivation.ensures in
    (suc c.requires.reached.0, rw c.settle.ensures.more (round c.requires.reached.1 added))

pub returns-clause-added : goal.returns-clause-added
returns-clause-added g c = record { added = _; round = round_is g.met.K.Kind.lawful c.requires.state c.args.pair c.requires.least (record { from = c.place.result; to = c.place-2.result; cost = get_or c.args.self.now.minima.waiting.costs c.args.pair 0 }) c.place.ensures.number c.place-2.ensures.number c.place.ensures.moment c.place-2.ensures.moment refl c.winner-derivation.result c.winner-derivation.ensures; more = c.settle.ensures.more; count = c.settle.ensures.count }
