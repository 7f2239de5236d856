use Rattle.std.proofs.Common.{rules}
use Rattle.board.proofs.Least.Knowing.{ready_of}
use Rattle.board.proofs.Least.Links.{link_lower, link_followed}
use Rattle.board.proofs.settling.Known.link.Goals as goal

pub returns-then-lower-clause-ok : goal.returns-then-lower-clause-ok
returns-then-lower-clause-ok g c = link_followed g.met.K.Kind.lawful (ready_of c.args.self.now) c.args.r c.args.q c.args.cost c.requires.from c.requires.to c.requires.link c.requires.ok _ _ c.lower.ensures.after (search rules) c.follow_to.ensures.costs c.follow_to.ensures.least

pub returns-then-lower-clause-lower : goal.returns-then-lower-clause-lower
returns-then-lower-clause-lower g c = link_lower g.met.K.Kind.lawful (ready_of c.args.self.now) c.args.r c.args.q c.args.cost c.requires.from c.requires.to c.requires.link c.requires.ok _ c.lower.ensures.after

pub returns-else-lower-clause-lower : goal.returns-else-lower-clause-lower
returns-else-lower-clause-lower g c = link_lower g.met.K.Kind.lawful (ready_of c.args.self.now) c.args.r c.args.q c.args.cost c.requires.from c.requires.to c.requires.link c.requires.ok _ c.lower.ensures.after
