use Rattle.board.specs.Lowering.{Among}
use Rattle.board.specs.Logs.{numbered}
use Rattle.board.specs.Minima.{BracketedIf}
use Rattle.board.specs.Minimizing.{LinkedOf, LinksLower}
use Rattle.board.proofs.settling.Known.bracket_on.Given as goal

abbrev pub invariant-loop-w : goal.invariant-loop-w
invariant-loop-w g l = LinkedOf g.K.Kind.meaning l.self l.links l.waiting × LinksLower g.K.Kind.meaning l.self l.initial.links l.links (λ m c log. Among (BracketedIf m c l.leads (numbered log l.j) l.o) l.w)
