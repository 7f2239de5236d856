use Rattle.board.specs.Held.{held}
use Rattle.board.specs.Lowering.{Lowered, Among}
use Rattle.board.specs.Minima.{PlainLink, PlainlyAt, PlainlyAlong}
use Rattle.board.proofs.tables.Tables.links_by.Given as goal

abbrev pub invariant-loop-moment : goal.invariant-loop-moment
invariant-loop-moment g l = Lowered g.K.Kind.meaning (PlainLink g.K.Kind.meaning (held l.self)) l.initial.links l.links (Among (PlainlyAt g.K.Kind.meaning (held l.self) l.row l.r) l.moment)

abbrev pub invariant-loop-number : goal.invariant-loop-number
invariant-loop-number g l = Lowered g.K.Kind.meaning (PlainLink g.K.Kind.meaning (held l.self)) l.initial.links l.links (Among (PlainlyAlong g.K.Kind.meaning (held l.self) l.row l.r) l.number)
