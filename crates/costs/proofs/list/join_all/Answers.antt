use Rattle.costs.proofs.Joining.{cut_anywhere}
use Rattle.costs.proofs.list.join_all.Goals as goal

pub returns-clause-cut : goal.returns-clause-cut
returns-clause-cut g c = cut_anywhere g.met.K.Kind.lawful
