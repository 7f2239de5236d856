use Rattle.std.proofs.Common.{ℕ, get_or, refl, sym, ap, ◌∙◌}
use Rattle.board.proofs.Least.Awaiting.{first_keep, first_take}
use Rattle.board.proofs.settling.candidates.least_from.Goals as goal
use Rattle.board.proofs.settling.candidates.least_from.Goals.{then-not-no_dearer, else-not-no_dearer}

pub loop-s-preserved : goal.loop-s-preserved
loop-s-preserved g c =
    let m = g.K.Kind.meaning in
    let test = ap (λ (n : ℕ). m.no_dearer n (get_or c.args.waiting.now.least c.loop-s.s 0)) (sym c.loop-s.invariant.1) ∙ sym c.no_dearer.ensures in
    elim c.if-not-no_dearer.branch [
      | then-not-no_dearer w ↦ rw (w.found-is, w.cost-is) (first_take g.met.K.Kind.lawful c.args.waiting.now.least 64 c.requires.costs c.loop-s.s c.loop-s-test.true c.loop-s.found (test ∙ w.if-not-no_dearer.true) c.loop-s.invariant.0, refl)
      | else-not-no_dearer w ↦ rw (w.found-is, w.cost-is) (first_keep g.met.K.Kind.lawful c.args.waiting.now.least 64 c.requires.costs c.loop-s.s c.loop-s-test.true c.loop-s.found (test ∙ w.if-not-no_dearer.false) c.loop-s.invariant.0, c.loop-s.invariant.1)
    ]
