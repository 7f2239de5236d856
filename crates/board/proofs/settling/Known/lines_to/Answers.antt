use Rattle.std.proofs.Common.{sym, ◌∙◌}
use Rattle.board.specs.Held.{held}
use Rattle.board.proofs.Least.Gathering.{gathered_push, line_other, line_none}
use Rattle.board.proofs.settling.Known.lines_to.Goals as goal
use Rattle.board.proofs.settling.Known.lines_to.Goals.{in-Some+then-line-moment, in-Some+else-line-moment, in_default}

pub loop-number-preserved : goal.loop-number-preserved
loop-number-preserved g c = elim c.match-line.branch [
  | in-Some+then-line-moment w ↦ rw (w.found-is, w.push.ensures.items) (gathered_push c.loop-number.invariant)
  | in-Some+else-line-moment w ↦ rw w.found-is (line_other (held c.args.self.now.tables.now) c.loop-number.invariant w.in-Some.line (sym c.line.ensures ∙ w.in-Some.is) w.if-line-moment.false)
  | in_default w ↦ rw w.found-is (line_none (held c.args.self.now.tables.now) c.loop-number.invariant (sym c.line.ensures ∙ w.in_default.is))
]
