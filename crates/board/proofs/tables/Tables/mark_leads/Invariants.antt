use Rattle.std.proofs.Common.{◌≡◌, ℕ, ◌<◌, length}
use Rattle.board.specs.Held.{held}
use Rattle.board.specs.Minima.{LedAt}
use Rattle.board.proofs.tables.Tables.mark_leads.Given as goal

abbrev pub invariant-loop-n : goal.invariant-loop-n
invariant-loop-n g l = (length l.leads ≡ 128) × ((i : ℕ) → i < l.n → LedAt g.K.Kind.meaning (held l.self) l.leads i)
