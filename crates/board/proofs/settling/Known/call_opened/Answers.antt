use Rattle.std.proofs.Common.{sym, ◌∙◌, arith}
use Rattle.board.specs.Held.{held}
use Rattle.board.proofs.Least.Knowing.{ready_of}
use Rattle.board.proofs.Least.Calling.{no_bracket, no_close, no_close_more, no_close_left, first_close}
use Rattle.board.proofs.settling.Known.call_opened.Goals as goal
use Rattle.board.proofs.settling.Known.call_opened.Goals.{in-Some+then-closes_to+in_default-call_by, in-Some+else-closes_to, in_default}

pub loop-w-init : goal.loop-w-init
loop-w-init g c = λ i h. absurd (omega arith)

pub loop-w-preserved : goal.loop-w-preserved
loop-w-preserved g c = no_close_more g.K.Kind.meaning (held c.args.self.now.tables.now) c.args.self.now.log.now c.args.goal c.args.o c.loop-w.w c.loop-w.invariant (elim c.match-row.branch [
  | in-Some+then-closes_to+in_default-call_by w ↦ w.in_default-call_by.ensures
  | in-Some+else-closes_to w ↦ no_bracket g.met.K.Kind.lawful (ready_of c.args.self.now) c.args.goal c.requires.on c.args.o c.args.a c.requires.row c.requires.opens c.loop-w.w w.in-Some.b (sym c.row.ensures ∙ w.in-Some.is) (sym w.closes_to.ensures ∙ w.if-closes_to.false)
  | in_default w ↦ no_close g.K.Kind.meaning (held c.args.self.now.tables.now) c.args.self.now.log.now c.args.goal c.args.o c.loop-w.w (sym c.row.ensures ∙ w.in_default.is)
])

pub returns-in-Some-call_by : goal.returns-in-Some-call_by
returns-in-Some-call_by g c = first_close g.K.Kind.meaning (held c.args.self.now.tables.now) c.args.self.now.log.now c.args.goal c.args.o c.loop-w.w c.in-Some-call_by.call c.loop-w.invariant c.in-Some-call_by.ensures

pub returns : goal.returns
returns g c = no_close_left g.K.Kind.meaning (held c.args.self.now.tables.now) c.args.self.now.log.now c.args.goal c.args.o c.loop-w.w (omega arith) c.loop-w.invariant
