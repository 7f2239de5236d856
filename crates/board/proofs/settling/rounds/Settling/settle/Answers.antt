use Rattle.std.proofs.Common.{ℕ, ◌≢◌, List, length, ap, subst, ◌∙◌, arith}
use Rattle.board.specs.declared.log.Log.{Log}
use Rattle.board.specs.Held.{held}
use Rattle.board.specs.Logs.{numbered}
use Rattle.board.specs.Lowering.{Lowered}
use Rattle.board.specs.Minima.{CandidateAt, Followed}
use Rattle.board.proofs.Basics.Numbers.{number_in}
use Rattle.board.proofs.Least.Links.{attained_cost_within}
use Rattle.board.proofs.Rounds.Pushing.{room_here}
use Rattle.board.proofs.Least.Stating.{extended, links_stay, waiting_stay, places_stay, linked_stays, state_more}
use Rattle.board.proofs.settling.rounds.Settling.settle.Goals as goal

pub push-requires-clause-room : goal.push-requires-clause-room
push-requires-clause-room g c = room_here c.requires.state.ready c.pair.ensures c.requires.fresh c.requires.kept c.requires.refers c.length_of-moves.ensures

pub invariant_of-known : goal.invariant_of-known
invariant_of-known g c =
    let more = extended c.requires.state.ready c.pair.ensures c.requires.fresh c.requires.kept c.requires.refers c.length_of-moves.ensures c.push.ensures in
    record { book = more.ready.book }

pub follow-requires-clause-links : goal.follow-requires-clause-links
follow-requires-clause-links g c =
    let more = extended c.requires.state.ready c.pair.ensures c.requires.fresh c.requires.kept c.requires.refers c.length_of-moves.ensures c.push.ensures in
    record { long = c.requires.state.linked.held_links.long; attained = links_stay g.met.K.Kind.lawful more _ c.requires.state.linked.held_links.attained }

pub renew-requires-clause-from : goal.renew-requires-clause-from
renew-requires-clause-from g c =
    let h = number_in (held c.args.tables.now) c.args.r.from c.requires.state.ready.sound.few_places c.requires.kept.from_on in
    omega (arith, h, c.place_number.ensures.number)

pub renew-requires-clause-costs : goal.renew-requires-clause-costs
renew-requires-clause-costs g c = attained_cost_within g.met.K.Kind.lawful c.requires.state.ready _ c.requires.state.linked.held_waiting.long c.requires.state.linked.held_waiting.attained

pub renew-requires-clause-others : goal.renew-requires-clause-others
renew-requires-clause-others g c =
    let more = extended c.requires.state.ready c.pair.ensures c.requires.fresh c.requires.kept c.requires.refers c.length_of-moves.ensures c.push.ensures in
    λ t ht far. places_stay g.met.K.Kind.lawful more c.requires.state _ c.pair.ensures t ht (subst (λ (n : ℕ). t ≢ n) c.place_number.ensures.number far) (ap (λ (x : Log). x.index) c.push.ensures)

pub follow-requires-clause-ok : goal.follow-requires-clause-ok
follow-requires-clause-ok g c =
    let more = extended c.requires.state.ready c.pair.ensures c.requires.fresh c.requires.kept c.requires.refers c.length_of-moves.ensures c.push.ensures in
    record { long = ap length c.renew.ensures.costs ∙ c.requires.state.linked.held_waiting.long; attained = rw c.renew.ensures.costs (waiting_stay g.met.K.Kind.lawful more _ c.requires.state.linked.held_waiting.attained); least = c.renew.ensures.places }

pub bracket-requires-clause-ok : goal.bracket-requires-clause-ok
bracket-requires-clause-ok g c =
    let more = extended c.requires.state.ready c.pair.ensures c.requires.fresh c.requires.kept c.requires.refers c.length_of-moves.ensures c.push.ensures in
    linked_stays g.met.K.Kind.lawful more c.requires.state _ (subst (λ (xs : List ℕ). Lowered g.K.Kind.meaning (CandidateAt g.K.Kind.meaning (held c.args.tables.now) c.push.new.self) xs c.follow.new.waiting.costs (Followed g.K.Kind.meaning (held c.args.tables.now) c.args.self.now.minima.links (numbered c.push.new.self c.args.self.now.log.count))) c.renew.ensures.costs c.follow.ensures.costs) c.follow.ensures.least

pub returns-clause-state : goal.returns-clause-state
returns-clause-state g c =
    let more = extended c.requires.state.ready c.pair.ensures c.requires.fresh c.requires.kept c.requires.refers c.length_of-moves.ensures c.push.ensures in
    state_more g.met.K.Kind.lawful more c.requires.state _ c.bracket.ensures.lower _ c.bracket.ensures.ok

pub returns-clause-more : goal.returns-clause-more
returns-clause-more g c = (extended c.requires.state.ready c.pair.ensures c.requires.fresh c.requires.kept c.requires.refers c.length_of-moves.ensures c.push.ensures).more
