use Rattle.std.proofs.Common.{ap, ◌∙◌}
use Rattle.board.specs.ByNumber.{reading_of}
use Rattle.board.proofs.Questions.Scanning.{row_at, moments_none, moments_more, rows_none, rows_more, rows_all, reading_better, better_within}
use Rattle.board.proofs.settled.Settled.recorded.Goals as goal

pub loop-n-init : goal.loop-n-init
loop-n-init g c = (rows_none _ _ _, tt)

pub loop-moment-init : goal.loop-moment-init
loop-moment-init g c = (c.loop-n.invariant.0 ∙ moments_none _ _ _ _ _ _, c.loop-n.invariant.1)

pub reading_at-next-requires : goal.reading_at-next-requires
reading_at-next-requires g c =
    let x = c.args.self.now in
    ((x.tables.sound.sound_rows c.loop-n.n _ (row_at _ _ c.loop-n.n _ c.deref-row-items.ensures.0 c.loop-n-test.true)).from_in, c.loop-moment-test.true)

pub loop-moment-preserved : goal.loop-moment-preserved
loop-moment-preserved g c =
    let s = c.args.self.now in (
      moments_more _ _ _ _ _ _ _ _ _ _ c.loop-moment.invariant.0 c.reading_at-next.ensures.which (ap (reading_of s.log) c.better-best.ensures ∙ reading_better g.K.Kind.meaning s.log c.loop-moment.best c.reading_at-next.result),
      rw c.better-best.ensures (better_within g.K.Kind.meaning _ _ c.loop-moment.best c.reading_at-next.result c.loop-moment.invariant.1 c.reading_at-next.ensures.within),
    )

pub loop-n-preserved : goal.loop-n-preserved
loop-n-preserved g c =
    (rows_more _ _ _ _ _ _ _ _ c.deref-row-items.ensures.0 c.loop-n-test.true c.loop-moment.auto.moment-end c.loop-moment-test.false c.loop-moment.invariant.0, c.loop-moment.invariant.1)

pub returns-clause-which : goal.returns-clause-which
returns-clause-which g c =
    rows_all _ _ _ _ _ _ c.deref-row-items.ensures.0 c.loop-n.auto.n-end c.loop-n-test.false c.loop-n.invariant.0
