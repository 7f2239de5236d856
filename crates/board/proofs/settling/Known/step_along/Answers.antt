use Rattle.std.proofs.Common.{sym, ◌∙◌, arith}
use Rattle.board.specs.Held.{held}
use Rattle.board.proofs.Least.Knowing.{ready_of}
use Rattle.board.proofs.Least.Winning.{no_along_more, along_place, no_same_event, no_line_read, along_none, along_wins}
use Rattle.board.proofs.settling.Known.step_along.Goals as goal
use Rattle.board.proofs.settling.Known.step_along.Goals.{in-Some+then-line-r+in_default-step_from, in-Some+else-line-r, in_default}

pub loop-n-init : goal.loop-n-init
loop-n-init g c = λ i h. absurd (omega arith)

pub loop-n-preserved : goal.loop-n-preserved
loop-n-preserved g c = no_along_more g.K.Kind.meaning (held c.args.self.now.tables.now) c.args.self.now.log.now c.args.goal c.args.row c.args.lines.now c.loop-n.n c.loop-n.invariant (elim c.match-line.branch [
  | in-Some+then-line-r+in_default-step_from w ↦ w.in_default-step_from.ensures
  | in-Some+else-line-r w ↦ no_same_event g.met.K.Kind.lawful (ready_of c.args.self.now) c.args.goal c.requires.on c.args.row c.args.r c.requires.row c.requires.plain c.requires.timed c.args.lines.now c.requires.lines c.loop-n.n w.in-Some.line (sym c.line.ensures ∙ w.in-Some.is) w.if-line-r.false
  | in_default w ↦ no_line_read g.met.K.Kind.lawful (ready_of c.args.self.now) c.args.goal c.requires.on c.args.row c.args.r c.requires.row c.requires.plain c.requires.timed c.args.lines.now c.requires.lines c.loop-n.n (sym c.line.ensures ∙ w.in_default.is)
])

pub step_from-requires-clause-place : goal.step_from-requires-clause-place
step_from-requires-clause-place g c = along_place g.met.K.Kind.lawful (ready_of c.args.self.now) c.args.goal c.requires.on c.args.row c.args.r c.requires.row c.requires.plain c.requires.timed c.args.lines.now c.requires.lines c.loop-n.n c.in-Some.line (sym c.line.ensures ∙ c.in-Some.is)

pub returns-in-Some-step_from : goal.returns-in-Some-step_from
returns-in-Some-step_from g c = along_wins g.met.K.Kind.lawful (ready_of c.args.self.now) c.args.goal c.requires.on c.args.row c.args.r c.requires.row c.requires.plain c.requires.timed c.args.lines.now c.requires.lines c.loop-n.n c.in-Some-step_from.step c.loop-n-test.true c.loop-n.invariant c.in-Some-step_from.ensures

pub returns : goal.returns
returns g c = along_none g.met.K.Kind.lawful (ready_of c.args.self.now) c.args.goal c.requires.on c.args.row c.args.r c.requires.row c.requires.plain c.requires.timed c.args.lines.now c.requires.lines c.loop-n.n c.loop-n-test.false c.loop-n.invariant
