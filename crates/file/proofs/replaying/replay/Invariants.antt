use Rattle.std.proofs.Common.{take}
use Rattle.file.specs.Histories.{MadeBy}
use Rattle.file.proofs.replaying.replay.Given as goal

abbrev pub invariant-loop-call : goal.invariant-loop-call
invariant-loop-call g l = MadeBy g.K.Kind.meaning (take l.call-index l.calls) l.board
