use Rattle.std.proofs.Common.{◌-◌}
use Rattle.board.specs.Held.{held}
use Rattle.board.specs.Logs.{Reached}
use Rattle.board.specs.Logged.{records}
use Rattle.board.specs.Minima.{SettlingInvariant}
use Rattle.board.proofs.settling.rounds.settled_log.Given as goal

abbrev pub invariant-rounds : goal.invariant-rounds
invariant-rounds g l = SettlingInvariant g.K.Kind.meaning (held l.tables) l.settling.log l.settling.minima × Reached g.K.Kind.meaning (held l.tables) (records l.settling.log)

abbrev pub decreases-rounds : goal.decreases-rounds
decreases-rounds g l = 4096 - l.settling.log.count
