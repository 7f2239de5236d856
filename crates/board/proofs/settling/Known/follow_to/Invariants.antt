use Rattle.board.proofs.settling.Known.follow_to.Given as goal
use Rattle.board.specs.Lowering.{Among}
use Rattle.board.specs.Minima.{FollowedFrom}
use Rattle.board.specs.Minimizing.{WaitingLower}

abbrev pub invariant-loop-s : goal.invariant-loop-s
invariant-loop-s g l = WaitingLower g.K.Kind.meaning l.self l.initial.waiting l.waiting (λ m c log. Among (FollowedFrom m log l.r l.q l.cost) l.s)
