use Rattle.std.proofs.Common.{sym, ap, ◌∙◌}
use Rattle.board.specs.declared.row.Row.{Row}
use Rattle.board.specs.Held.{held}
use Rattle.board.proofs.Basics.Membership.{some_eq, none_some}
use Rattle.board.proofs.Least.Gathering.{picked_none, picked_skip, picked_push, picked_serve}
use Rattle.board.proofs.settling.Known.closers_of.Goals as goal
use Rattle.board.proofs.settling.Known.closers_of.Goals.{in-Some+then-close-bracket, in-Some+else-close-bracket, in_default}

pub loop-n-init : goal.loop-n-init
loop-n-init g c = rw c.new-found.ensures (picked_none (held c.args.self.now.tables.now) c.args.closers.now c.args.bracket)

pub loop-n-preserved : goal.loop-n-preserved
loop-n-preserved g c = elim c.match-row.branch [
  | in-Some+then-close-bracket w ↦ rw (w.found-is, w.push.ensures.items) (picked_push (held c.args.self.now.tables.now) c.args.closers.now c.args.bracket c.loop-n.n _ c.loop-n.invariant)
  | in-Some+else-close-bracket w ↦ rw w.found-is (picked_skip (held c.args.self.now.tables.now) c.args.closers.now c.args.bracket c.loop-n.n _ c.loop-n.invariant (λ r e f. w.if-close-bracket.false (ap (λ (x : Row). x.label) (some_eq _ _ _ (sym c.row.ensures ∙ w.in-Some.is) e) ∙ f)))
  | in_default w ↦ rw w.found-is (picked_skip (held c.args.self.now.tables.now) c.args.closers.now c.args.bracket c.loop-n.n _ c.loop-n.invariant (λ r e f. none_some _ r (sym c.row.ensures ∙ w.in_default.is) e))
]

pub returns : goal.returns
returns g c = picked_serve (held c.args.self.now.tables.now) c.args.closers.now c.args.bracket c.args.mode c.loop-n.n _ c.loop-n-test.false c.requires.serve c.loop-n.invariant
