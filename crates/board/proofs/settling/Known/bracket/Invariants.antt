use Rattle.board.specs.Lowering.{Among}
use Rattle.board.specs.Logs.{numbered}
use Rattle.board.specs.Minima.{BracketedOn}
use Rattle.board.specs.Minimizing.{LinkedOf, LinksLower}
use Rattle.board.proofs.settling.Known.bracket.Given as goal

abbrev pub invariant-loop-o : goal.invariant-loop-o
invariant-loop-o g l = LinkedOf g.K.Kind.meaning l.self l.links l.waiting × LinksLower g.K.Kind.meaning l.self l.initial.links l.links (λ m c log. Among (BracketedOn m c l.leads (numbered log l.j)) l.o)
