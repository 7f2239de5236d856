use Rattle.std.proofs.Common.{ℕ, ◌<◌, get_or}
use Rattle.board.specs.Held.{held}
use Rattle.board.specs.Minima.{StandsFor}
use Rattle.board.proofs.Least.Calling.{CallParts}
use Rattle.board.proofs.settling.Known.reaches_from.Given as goal

abbrev pub invariant-loop-n : goal.invariant-loop-n
invariant-loop-n g l = (k : ℕ) → k < l.n → (w : ℕ) (x : CallParts g.K.Kind.meaning (held l.self.tables.now) l.self.log.now l.goal l.o w l.moment) → StandsFor g.K.Kind.meaning (held l.self.tables.now) x.closes.by (get_or l.closers k 0) → ⊥
