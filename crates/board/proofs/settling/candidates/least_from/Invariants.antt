use Rattle.std.proofs.Common.{◌≡◌}
use Rattle.board.specs.Winning.{LeastFrom}
use Rattle.board.proofs.Least.Awaiting.{limit}
use Rattle.board.proofs.settling.candidates.least_from.Given as goal

abbrev pub invariant-loop-s : goal.invariant-loop-s
invariant-loop-s g l = LeastFrom g.K.Kind.meaning l.waiting.least l.s l.found × (l.cost ≡ limit g.K.Kind.meaning l.waiting.least l.found)
