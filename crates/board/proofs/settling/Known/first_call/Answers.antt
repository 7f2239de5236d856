use Rattle.std.proofs.Common.{sym, ap, ◌∙◌, arith}
use Rattle.board.specs.Held.{held}
use Rattle.board.specs.declared.row.Row.{Row}
use Rattle.board.proofs.Basics.Membership.{some_eq, none_some}
use Rattle.board.proofs.Least.Calling.{no_open, no_open_more, no_open_left, first_open}
use Rattle.board.proofs.settling.Known.first_call.Goals as goal
use Rattle.board.proofs.settling.Known.first_call.Goals.{in-Some+in-Open+in_default-call_opened, in-Some+in_default-kind, in_default}

pub loop-o-init : goal.loop-o-init
loop-o-init g c = λ i h. absurd (omega arith)

pub loop-o-preserved : goal.loop-o-preserved
loop-o-preserved g c = no_open_more g.K.Kind.meaning (held c.args.self.now.tables.now) c.args.self.now.log.now c.args.goal c.loop-o.o c.loop-o.invariant (elim c.match-row.branch [
  | in-Some+in-Open+in_default-call_opened w ↦ w.in_default-call_opened.ensures
  | in-Some+in_default-kind w ↦ no_open g.K.Kind.meaning (held c.args.self.now.tables.now) c.args.self.now.log.now c.args.goal c.loop-o.o (λ a e o. w.in_default-kind.not-Open (ap (λ (x : Row). x.kind) (some_eq _ _ _ (sym c.row.ensures ∙ w.in-Some.is) e) ∙ o))
  | in_default w ↦ no_open g.K.Kind.meaning (held c.args.self.now.tables.now) c.args.self.now.log.now c.args.goal c.loop-o.o (λ a e o. none_some _ a (sym c.row.ensures ∙ w.in_default.is) e)
])

pub returns-in-Some-call_opened : goal.returns-in-Some-call_opened
returns-in-Some-call_opened g c = first_open g.K.Kind.meaning (held c.args.self.now.tables.now) c.args.self.now.log.now c.args.goal c.loop-o.o c.in-Some-call_opened.call c.loop-o.invariant c.in-Some-call_opened.ensures

pub returns : goal.returns
returns g c = no_open_left g.K.Kind.meaning (held c.args.self.now.tables.now) c.args.self.now.log.now c.args.goal c.loop-o.o (omega arith) c.loop-o.invariant
