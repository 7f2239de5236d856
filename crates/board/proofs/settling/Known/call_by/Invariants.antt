use Rattle.std.proofs.Common.{ℕ, ◌<◌, ◌≡◌, get_or, None}
use Rattle.board.specs.Held.{held}
use Rattle.board.specs.Moves.{place_number}
use Rattle.board.specs.Winning.{Finds, IsCallAt}
use Rattle.board.proofs.settling.Known.call_by.Given as goal

abbrev pub invariant-loop-n : goal.invariant-loop-n
invariant-loop-n g l = (i : ℕ) → i < l.n → (t : ℕ) → t < l.self.tables.now.moments → get_or l.tight i 0 ≡ place_number (held l.self.tables.now) (l.a.from, t) → Finds g.K.Kind.meaning (held l.self.tables.now) l.self.log.now l.goal (IsCallAt l.o l.w t) None
