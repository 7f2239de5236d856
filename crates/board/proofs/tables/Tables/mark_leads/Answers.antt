use Rattle.std.proofs.Common.{sym, ◌∙◌, arith, length-set}
use Rattle.board.proofs.Least.Leads.{led_some, led_none, led_all, stands_within}
use Rattle.board.proofs.tables.Tables.mark_leads.Goals as goal
use Rattle.board.proofs.tables.Tables.mark_leads.Goals.{in-Some, in_default}

pub loop-n-preserved : goal.loop-n-preserved
loop-n-preserved g c = elim c.match-row.branch [
  | in-Some w ↦
      let s = w.cheapest_like-found.ensures in
      let h = stands_within c.args.self.now.sound s in
      rw w.leads-is (length-set _ _ _ ∙ c.loop-n.invariant.0, led_some c.loop-n.leads c.loop-n.n c.loop-n.invariant.1 w.in-Some.r w.cheapest_like-found.result (sym c.row.ensures ∙ w.in-Some.is) (omega (arith, h, c.loop-n.invariant.0)) s)
  | in_default w ↦ rw w.leads-is (c.loop-n.invariant.0, led_none c.loop-n.leads c.loop-n.n c.loop-n.invariant.1 (sym c.row.ensures ∙ w.in_default.is))
]

pub returns-clause-led : goal.returns-clause-led
returns-clause-led g c = led_all c.loop-n.leads c.loop-n.n (omega arith) c.loop-n.invariant.1
