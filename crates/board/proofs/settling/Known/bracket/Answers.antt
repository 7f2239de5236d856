use Rattle.std.proofs.Common.{length, arith}
use Rattle.board.specs.Held.{held}
use Rattle.board.specs.Logs.{numbered}
use Rattle.board.specs.Minima.{BracketedOn}
use Rattle.board.proofs.Least.Knowing.{ready_of}
use Rattle.board.proofs.Least.Lowering.{lowered_start, lowered_more, lowered_for, among_all}
use Rattle.board.proofs.Least.Links.{link_cost, in_fits, in_all, in_unmarked}
use Rattle.board.proofs.settling.Known.bracket.Goals as goal
use Rattle.board.proofs.settling.Known.bracket.Goals.{then-leads-o, else-leads-o}

pub loop-o-init : goal.loop-o-init
loop-o-init g c = (c.requires.ok, lowered_start g.met.K.Kind.lawful (link_cost g.met.K.Kind.lawful (ready_of c.args.self.now)) _ _ c.requires.ok.held_links.attained)

pub loop-o-preserved : goal.loop-o-preserved
loop-o-preserved g c =
    let laws = g.met.K.Kind.lawful in
    let ready = ready_of c.args.self.now in
    let fits = in_fits g.met.K.Kind.lawful (ready_of c.args.self.now) c.args.j c.requires.within c.args.leads.now _ c.requires.ok.held_links.long c.loop-o.o in
    elim c.if-leads-o.branch [
      | then-leads-o w ↦ rw (w.links-is, w.waiting-is) (w.bracket_on.ensures.ok, lowered_more laws (link_cost laws ready) _ _ _ _ c.loop-o.o c.requires.ok.held_links.attained fits c.loop-o.invariant.1 w.bracket_on.ensures.lower)
      | else-leads-o w ↦ rw (w.links-is, w.waiting-is) (c.loop-o.invariant.0, lowered_more laws (link_cost laws ready) _ _ _ _ c.loop-o.o c.requires.ok.held_links.attained fits c.loop-o.invariant.1 (in_unmarked g.met.K.Kind.lawful (ready_of c.args.self.now) c.args.j c.requires.within c.args.leads.now _ c.loop-o.o c.loop-o.invariant.0.held_links.attained w.if-leads-o.false))
    ]

pub returns-clause-lower : goal.returns-clause-lower
returns-clause-lower g c = lowered_for (among_all (BracketedOn g.K.Kind.meaning (held c.args.self.now.tables.now) c.args.leads.now (numbered c.args.self.now.log.now c.args.j)) _ (length c.args.self.now.tables.now.rows.items) (omega arith) (omega arith) c.loop-o.invariant.1) (in_all g.met.K.Kind.lawful (ready_of c.args.self.now) c.args.j c.requires.within c.args.leads.now)
