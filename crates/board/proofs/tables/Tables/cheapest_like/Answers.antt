use Rattle.std.proofs.Common.{rules, sym, ◌∙◌}
use Rattle.board.proofs.Least.Leads.{stands_self, stands_more}
use Rattle.board.proofs.tables.Tables.cheapest_like.Goals as goal
use Rattle.board.proofs.tables.Tables.cheapest_like.Goals.{in-Some+then-sort_like+then-no_dearer, in-Some+else-sort_like, in_default}

pub loop-i-init : goal.loop-i-init
loop-i-init g c = stands_self g.met.K.Kind.lawful c.args.self.now.sound c.args.n c.args.r c.requires

pub loop-i-preserved : goal.loop-i-preserved
loop-i-preserved g c = elim c.match-row.branch [
  | in-Some+then-sort_like+then-no_dearer w ↦ rw (w.found-is, w.cost-is) (stands_more g.met.K.Kind.lawful c.args.self.now.sound c.args.n c.args.r c.requires c.loop-i.found c.loop-i.cost c.loop-i.i w.in-Some.other (sym c.row.ensures ∙ w.in-Some.is) (search rules) (search rules) c.loop-i.invariant)
  | in-Some+else-sort_like w ↦ rw (w.found-is, w.cost-is) c.loop-i.invariant
  | in_default w ↦ rw (w.found-is, w.cost-is) c.loop-i.invariant
]
