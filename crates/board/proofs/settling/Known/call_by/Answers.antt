use Rattle.std.proofs.Common.{ℕ, None, subst}
use Rattle.board.specs.Held.{held}
use Rattle.board.specs.Winning.{Finds, IsCallAt}
use Rattle.board.proofs.Least.Knowing.{ready_of}
use Rattle.board.proofs.Least.Calling.{other_mode, same_moment, none_while_more, call_none_by, call_wins_by}
use Rattle.board.proofs.settling.Known.call_by.Goals as goal
use Rattle.board.proofs.settling.Known.call_by.Goals.{then-place-a+in_default, else-place-a}

pub loop-n-preserved : goal.loop-n-preserved
loop-n-preserved g c = none_while_more g.met.K.Kind.lawful (ready_of c.args.self.now) c.args.goal c.requires.on c.args.o c.args.a c.requires.rows.opening c.requires.rows.opens c.args.w c.args.tight.now c.loop-n.n c.loop-n.invariant (λ t h e. elim c.if-place-a.branch [
  | then-place-a+in_default w ↦ subst (λ (n : ℕ). Finds g.K.Kind.meaning (held c.args.self.now.tables.now) c.args.self.now.log.now c.args.goal (IsCallAt c.args.o c.args.w n) None) (same_moment g.met.K.Kind.lawful (ready_of c.args.self.now) c.args.goal c.requires.on c.args.o c.args.a c.requires.rows.opening c.requires.rows.opens c.args.tight.now c.loop-n.n c.place-place.result c.place-place.ensures.number c.place-place.ensures.moment t h e) w.in_default.ensures
  | else-place-a w ↦ absurd (other_mode g.met.K.Kind.lawful (ready_of c.args.self.now) c.args.goal c.requires.on c.args.o c.args.a c.requires.rows.opening c.requires.rows.opens c.args.tight.now c.loop-n.n c.place-place.result c.place-place.ensures.number c.place-place.ensures.moment w.if-place-a.false t h e)
])

pub returns-in-Some : goal.returns-in-Some
returns-in-Some g c = call_wins_by g.met.K.Kind.lawful (ready_of c.args.self.now) c.args.goal c.requires.on c.args.o c.args.a c.requires.rows.opening c.requires.rows.opens c.args.w c.args.b c.requires.rows c.args.tight.now c.requires.tight c.loop-n.n c.place-place.result c.in-Some.call c.loop-n-test.true c.place-place.ensures.number c.place-place.ensures.moment c.if-place-a.true c.loop-n.invariant c.in-Some.ensures

pub returns : goal.returns
returns g c = call_none_by g.met.K.Kind.lawful (ready_of c.args.self.now) c.args.goal c.requires.on c.args.o c.args.a c.requires.rows.opening c.requires.rows.opens c.args.w c.args.b c.requires.rows c.args.tight.now c.requires.tight c.loop-n.n c.loop-n-test.false c.loop-n.invariant
