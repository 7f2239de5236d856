use Rattle.std.proofs.Common.{sym, ap, not, ◌∙◌}
use Rattle.board.proofs.Least.Awaiting.{not_some, none_below, pair_least}
use Rattle.board.proofs.settling.candidates.least_pair.Goals as goal

pub returns-in_default : goal.returns-in_default
returns-in_default g c = none_below g.met.K.Kind.lawful c.args.log.now c.args.waiting.now c.requires.costs c.requires.places c.in_default.ensures

pub returns-then-no_dearer : goal.returns-then-no_dearer
returns-then-no_dearer g c = pair_least g.met.K.Kind.lawful c.args.log.now c.args.waiting.now c.requires.costs c.requires.places c.in-Some.s c.loop-q.q c.in-Some.ensures c.loop-q-test.true (not_some _ (c.is_none.ensures ∙ ap not c.if-is_none.true) c.at.ensures) (sym c.no_dearer.ensures ∙ c.if-no_dearer.true) c.loop-q.invariant
