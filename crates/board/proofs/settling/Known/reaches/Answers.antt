use Rattle.std.proofs.Common.{ℕ, None, get_or, sym, refl, ap, subst, ◌∙◌}
use Rattle.board.specs.Held.{held}
use Rattle.board.specs.Moves.{Place}
use Rattle.board.specs.Logs.{pair_of}
use Rattle.board.specs.Winning.{Finds, IsCallAt}
use Rattle.board.proofs.Least.Knowing.{ready_of}
use Rattle.board.proofs.Rounds.Diagonal.{place_eq}
use Rattle.board.proofs.Least.Bracketing.{place_unique}
use Rattle.board.proofs.Least.Calling.{other_mode, same_moment, none_while_more, none_reached, reaches_no_front}
use Rattle.board.proofs.settling.Known.reaches.Goals as goal
use Rattle.board.proofs.settling.Known.reaches.Goals.{then-place-a+in-Some+else-reaches_from, then-place-a+in_default, else-place-a}

pub reaches_from-requires-clause-front : goal.reaches_from-requires-clause-front
reaches_from-requires-clause-front g c = ap (λ (p : Place). get_or c.args.self.now.log.now.index (pair_of (held c.args.self.now.tables.now) c.args.goal.from p) None) (place_eq (c.args.a.from, c.place-place.result.1) c.place-place.result (sym c.if-place-a.true) refl) ∙ (sym (c.at.ensures ∙ ap (λ (p : ℕ). get_or c.args.self.now.log.now.index p None) c.pair.ensures) ∙ c.in-Some.is)

pub loop-n-preserved : goal.loop-n-preserved
loop-n-preserved g c = λ close. none_while_more g.met.K.Kind.lawful (ready_of c.args.self.now) c.args.goal c.requires.on c.args.o c.args.a c.requires.row c.requires.opens close c.args.tight.now c.loop-n.n (c.loop-n.invariant close) (λ t h e.
    elim c.if-place-a.branch [
      | then-place-a+in-Some+else-reaches_from w ↦ subst (λ (n : ℕ). Finds g.K.Kind.meaning (held c.args.self.now.tables.now) c.args.self.now.log.now c.args.goal (IsCallAt c.args.o close n) None) (same_moment g.met.K.Kind.lawful (ready_of c.args.self.now) c.args.goal c.requires.on c.args.o c.args.a c.requires.row c.requires.opens c.args.tight.now c.loop-n.n c.place-place.result c.place-place.ensures.number c.place-place.ensures.moment t h e) (w.reaches_from.ensures w.if-reaches_from.false close)
      | then-place-a+in_default w ↦ reaches_no_front g.met.K.Kind.lawful (ready_of c.args.self.now) c.args.goal c.requires.on c.args.o c.args.a c.requires.row c.requires.opens c.place-place.result (sym (w.at.ensures ∙ ap (λ (p : ℕ). get_or c.args.self.now.log.now.index p None) w.pair.ensures) ∙ w.in_default.is) close t (place_unique (held c.args.self.now.tables.now) c.place-place.result (c.args.a.from, t) c.place-place.ensures.moment h (c.place-place.ensures.number ∙ e))
      | else-place-a w ↦ absurd (other_mode g.met.K.Kind.lawful (ready_of c.args.self.now) c.args.goal c.requires.on c.args.o c.args.a c.requires.row c.requires.opens c.args.tight.now c.loop-n.n c.place-place.result c.place-place.ensures.number c.place-place.ensures.moment w.if-place-a.false t h e)
    ])

pub returns : goal.returns
returns g c = λ no. none_reached g.met.K.Kind.lawful (ready_of c.args.self.now) c.args.goal c.requires.on c.args.o c.args.a c.requires.row c.requires.opens c.args.tight.now c.requires.tight c.loop-n.n c.loop-n-test.false c.loop-n.invariant
