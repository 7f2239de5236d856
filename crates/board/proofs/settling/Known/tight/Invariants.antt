use Rattle.board.specs.Held.{held}
use Rattle.board.specs.Winning.{Gathered, TightAt}
use Rattle.board.proofs.settling.Known.tight.Given as goal

abbrev pub invariant-loop-r : goal.invariant-loop-r
invariant-loop-r g l = Gathered (TightAt g.K.Kind.meaning (held l.self.tables.now) l.self.log.now l.goal) l.r l.found.items
