use Rattle.std.proofs.Common.{rules, ap, not, ◌∙◌}
use Rattle.std.proofs.lemmas.Bool.{both_ways}
use Rattle.std.specs.Option.{is_some}
use Rattle.board.proofs.Least.Knowing.{ready_of}
use Rattle.board.proofs.Least.Lowering.{lowered_one, worst_or}
use Rattle.board.proofs.Least.Links.{candidate_cost_at, attained_cost_within}
use Rattle.board.proofs.Least.Awaiting.{not_some, places_kept, places_settled, places_lowered}
use Rattle.board.proofs.settling.Known.wait.Goals as goal

pub returns-then-is_none : goal.returns-then-is_none
returns-then-is_none g c = record { costs = lowered_one g.met.K.Kind.lawful (candidate_cost_at g.met.K.Kind.lawful (ready_of c.args.self.now)) _ _ _ _ c.requires.ok.attained (search rules) c.requires.some c.lower.ensures.after; least = places_lowered g.met.K.Kind.lawful c.args.self.now.log.now c.args.waiting.now c.requires.ok.long (attained_cost_within g.met.K.Kind.lawful (ready_of c.args.self.now) c.args.waiting.now.costs c.requires.ok.long c.requires.ok.attained) c.args.s c.args.q c.args.cost c.requires.from c.requires.to c.requires.ok.least _ c.lower.ensures.after (search rules) (not_some _ (c.is_none.ensures ∙ ap not c.if-is_none.true) c.at.ensures) (worst_or g.met.K.Kind.lawful (candidate_cost_at g.met.K.Kind.lawful (ready_of c.args.self.now)) _ _ c.requires.some) _ c.lower-then-is_none.ensures.after }

pub returns-else-is_none : goal.returns-else-is_none
returns-else-is_none g c = record { costs = lowered_one g.met.K.Kind.lawful (candidate_cost_at g.met.K.Kind.lawful (ready_of c.args.self.now)) _ _ _ _ c.requires.ok.attained (search rules) c.requires.some c.lower.ensures.after; least = places_settled g.met.K.Kind.lawful c.args.self.now.log.now c.args.waiting.now c.requires.ok.long (attained_cost_within g.met.K.Kind.lawful (ready_of c.args.self.now) c.args.waiting.now.costs c.requires.ok.long c.requires.ok.attained) c.args.s c.args.q c.args.cost c.requires.from c.requires.to c.requires.ok.least _ c.lower.ensures.after (search rules) (λ e. both_ways _ (ap is_some (c.at.ensures ∙ e)) (c.is_none.ensures ∙ ap not c.if-is_none.false)) }

pub returns-else-lower : goal.returns-else-lower
returns-else-lower g c = record { costs = lowered_one g.met.K.Kind.lawful (candidate_cost_at g.met.K.Kind.lawful (ready_of c.args.self.now)) _ _ _ _ c.requires.ok.attained (search rules) c.requires.some c.lower.ensures.after; least = places_kept g.met.K.Kind.lawful c.args.self.now.log.now c.args.waiting.now c.requires.ok.long (attained_cost_within g.met.K.Kind.lawful (ready_of c.args.self.now) c.args.waiting.now.costs c.requires.ok.long c.requires.ok.attained) c.args.s c.args.q c.args.cost c.requires.from c.requires.to c.requires.ok.least _ c.lower.ensures.after (search rules) }
