use Rattle.board.specs.Held.{held}
use Rattle.board.specs.Lowering.{Lowered, Among}
use Rattle.board.specs.Minima.{PlainLink, PlainlyBy}
use Rattle.board.proofs.tables.Tables.add_links.Given as goal

abbrev pub invariant-loop-row : goal.invariant-loop-row
invariant-loop-row g l = Lowered g.K.Kind.meaning (PlainLink g.K.Kind.meaning (held l.self)) l.initial.links l.links (Among (PlainlyBy g.K.Kind.meaning (held l.self)) l.row)
