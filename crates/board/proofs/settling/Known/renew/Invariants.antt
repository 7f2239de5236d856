use Rattle.board.specs.Minima.{PlaceLeast}
use Rattle.board.proofs.settling.Known.renew.Given as goal

abbrev pub invariant-loop-q : goal.invariant-loop-q
invariant-loop-q g l = PlaceLeast g.K.Kind.meaning l.self.log.now l.waiting.costs l.s l.q l.least
