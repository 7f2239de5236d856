use Rattle.std.proofs.Common.{ℕ, ◌+◌, ◌*◌, ◌<◌, ◌≡◌, None, get_or}
use Rattle.costs.specs.Meaning.{NoDearer}
use Rattle.board.proofs.settling.candidates.least_pair.Given as goal

abbrev pub invariant-loop-q : goal.invariant-loop-q
invariant-loop-q g l = (q : ℕ) → q < l.q → get_or l.log.index (l.s * 64 + q) None ≡ None → NoDearer g.K.Kind.meaning (get_or l.waiting.costs (l.s * 64 + q) 0) (get_or l.waiting.least l.s 0) → ⊥
