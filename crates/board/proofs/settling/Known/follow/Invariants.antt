use Rattle.board.specs.Lowering.{Among}
use Rattle.board.specs.Logs.{numbered}
use Rattle.board.specs.Minima.{FollowedBy}
use Rattle.board.specs.Minimizing.{WaitingLower}
use Rattle.board.proofs.settling.Known.follow.Given as goal

abbrev pub invariant-loop-q : goal.invariant-loop-q
invariant-loop-q g l = WaitingLower g.K.Kind.meaning l.self l.initial.waiting l.waiting (λ m c log. Among (FollowedBy m c l.links (numbered log l.i)) l.q)
