use Rattle.std.proofs.Common.{◌≡◌, ◌++◌}
use Rattle.board.specs.Held.{held}
use Rattle.board.specs.Settling.{starts, places, moments_of}
use Rattle.board.specs.Logged.{records}
use Rattle.board.specs.Minima.{SettlingInvariant}
use Rattle.board.proofs.settling.rounds.Settling.begin.Given as goal

abbrev pub invariant-loop-mode : goal.invariant-loop-mode
invariant-loop-mode g l = SettlingInvariant g.K.Kind.meaning (held l.tables) l.self.log l.self.minima × (records l.self.log ≡ starts g.K.Kind.meaning (places l.mode l.tables.moments))

abbrev pub invariant-loop-moment : goal.invariant-loop-moment
invariant-loop-moment g l = SettlingInvariant g.K.Kind.meaning (held l.tables) l.self.log l.self.minima × (records l.self.log ≡ starts g.K.Kind.meaning (moments_of l.mode l.moment ++ places l.mode l.tables.moments))
