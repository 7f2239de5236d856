use Rattle.std.proofs.Common.{◌≡◌, ℕ, ap, ◌∙◌, arith}
use Rattle.board.specs.Held.{held}
use Rattle.board.specs.Settling.{begin, starts, places, diagonal}
use Rattle.board.specs.Logged.{records}
use Rattle.board.proofs.Rounds.Starting.{start_fresh}
use Rattle.board.proofs.settling.rounds.Settling.begin.Goals as goal

pub settle-requires-clause-fresh : goal.settle-requires-clause-fresh
settle-requires-clause-fresh g c = start_fresh c.loop-mode.mode c.loop-moment.moment c.loop-moment.invariant.0.ready c.loop-mode-test.true c.loop-moment-test.true c.loop-moment.invariant.1

pub returns-clause-reached : goal.returns-clause-reached
returns-clause-reached g c =
    let m = g.K.Kind.meaning in
    let t = c.args.tables.now in
    let z : c.loop-mode.mode ≡ t.modes = omega arith in
    let all : records c.loop-mode.self.log ≡ diagonal m (held t) = c.loop-mode.invariant.1 ∙ ap (λ (n : ℕ). starts m (places n t.moments)) z in
    (0, rw all begin)
