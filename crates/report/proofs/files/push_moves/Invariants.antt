use Rattle.report.proofs.files.push_moves.Given as goal
use Rattle.std.proofs.Common.{take, string_bytes}
use Rattle.board.specs.Boards.{settled_content}
use Rattle.report.specs.Adding.{LinesAdded}

abbrev pub invariant-loop-v : goal.invariant-loop-v
invariant-loop-v g l = LinesAdded (settled_content l.settled) (take l.v-index l.moves) (string_bytes l.initial.out) (string_bytes l.out)
