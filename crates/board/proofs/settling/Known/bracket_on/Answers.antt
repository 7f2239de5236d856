use Rattle.std.proofs.Common.{sym, ◌∙◌, length, arith}
use Rattle.board.specs.Held.{held}
use Rattle.board.specs.Logs.{numbered}
use Rattle.board.specs.Minima.{BracketedIf}
use Rattle.board.proofs.Least.Knowing.{ready_of}
use Rattle.board.proofs.Least.Lowering.{lowered_start, lowered_more, lowered_for, among_all}
use Rattle.board.proofs.Least.Links.{link_cost, on_fits, on_all, on_none, no_open_row, no_way, leads_elsewhere, leads_there, if_unmarked}
use Rattle.board.proofs.settling.Known.bracket_on.Goals as goal
use Rattle.board.proofs.settling.Known.bracket_on.Goals.{then-leads-w, else-leads-w}

pub returns-in_default-clause-lower : goal.returns-in_default-clause-lower
returns-in_default-clause-lower g c = on_none g.met.K.Kind.lawful (ready_of c.args.self.now) c.args.j c.requires.within c.args.o c.args.leads.now _ c.requires.ok.held_links.attained (no_open_row g.met.K.Kind.lawful (ready_of c.args.self.now) c.args.j c.requires.within c.args.o (sym c.row.ensures ∙ c.in_default.is))

pub returns-in_default-opens-clause-lower : goal.returns-in_default-opens-clause-lower
returns-in_default-opens-clause-lower g c = on_none g.met.K.Kind.lawful (ready_of c.args.self.now) c.args.j c.requires.within c.args.o c.args.leads.now _ c.requires.ok.held_links.attained (no_way g.met.K.Kind.lawful (ready_of c.args.self.now) c.args.j c.requires.within c.args.o c.in-Some.open (sym c.row.ensures ∙ c.in-Some.is) c.in_default-opens.ensures)

pub returns-then-open-from-clause-lower : goal.returns-then-open-from-clause-lower
returns-then-open-from-clause-lower g c = on_none g.met.K.Kind.lawful (ready_of c.args.self.now) c.args.j c.requires.within c.args.o c.args.leads.now _ c.requires.ok.held_links.attained (leads_elsewhere g.met.K.Kind.lawful (ready_of c.args.self.now) c.args.j c.requires.within c.args.o c.in-Some.open (sym c.row.ensures ∙ c.in-Some.is) c.if-open-from.true)

pub loop-w-init : goal.loop-w-init
loop-w-init g c = (c.requires.ok, lowered_start g.met.K.Kind.lawful (link_cost g.met.K.Kind.lawful (ready_of c.args.self.now)) _ _ c.requires.ok.held_links.attained)

pub bracket_by-requires-clause-opens : goal.bracket_by-requires-clause-opens
bracket_by-requires-clause-opens g c = leads_there g.met.K.Kind.lawful (ready_of c.args.self.now) c.args.j c.requires.within c.args.o c.in-Some.open (sym c.row.ensures ∙ c.in-Some.is) c.in-Some-opens.way c.if-open-from.false c.in-Some-opens.ensures

pub loop-w-preserved : goal.loop-w-preserved
loop-w-preserved g c =
    let laws = g.met.K.Kind.lawful in
    let ready = ready_of c.args.self.now in
    let fits = on_fits g.met.K.Kind.lawful (ready_of c.args.self.now) c.args.j c.requires.within c.args.o c.args.leads.now _ c.requires.ok.held_links.long c.loop-w.w in
    elim c.if-leads-w.branch [
      | then-leads-w w ↦ rw (w.links-is, w.waiting-is) (w.bracket_by.ensures.ok, lowered_more laws (link_cost laws ready) _ _ _ _ c.loop-w.w c.requires.ok.held_links.attained fits c.loop-w.invariant.1 (lowered_for w.bracket_by.ensures.lower (λ p k x. x.by)))
      | else-leads-w w ↦ rw (w.links-is, w.waiting-is) (c.loop-w.invariant.0, lowered_more laws (link_cost laws ready) _ _ _ _ c.loop-w.w c.requires.ok.held_links.attained fits c.loop-w.invariant.1 (if_unmarked g.met.K.Kind.lawful (ready_of c.args.self.now) c.args.j c.requires.within c.args.leads.now _ c.args.o c.loop-w.w c.loop-w.invariant.0.held_links.attained w.if-leads-w.false))
    ]

pub returns-clause-lower : goal.returns-clause-lower
returns-clause-lower g c = lowered_for (among_all (BracketedIf g.K.Kind.meaning (held c.args.self.now.tables.now) c.args.leads.now (numbered c.args.self.now.log.now c.args.j) c.args.o) _ (length c.args.self.now.tables.now.rows.items) (omega arith) (omega arith) c.loop-w.invariant.1) (on_all g.met.K.Kind.lawful (ready_of c.args.self.now) c.args.j c.requires.within c.args.o c.args.leads.now)
