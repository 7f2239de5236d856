use Rattle.board.specs.Held.{held}
use Rattle.board.proofs.Least.Leads.{Stands}
use Rattle.board.proofs.tables.Tables.cheapest_like.Given as goal

abbrev pub invariant-loop-i : goal.invariant-loop-i
invariant-loop-i g l = Stands g.K.Kind.meaning (held l.self) l.r l.found l.cost
