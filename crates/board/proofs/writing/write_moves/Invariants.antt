use Rattle.board.proofs.writing.write_moves.Given as goal
use Rattle.std.proofs.Common.{◌≡◌, take}
use Rattle.board.specs.Spelled.{moves_at}
use Rattle.board.specs.Cursors.{Walks, remaining}
use Rattle.board.proofs.Questions.Unwinding.{written}

abbrev pub invariant-loop-k : goal.invariant-loop-k
invariant-loop-k g l = Walks l.log l.cursor × (remaining l.log l.cursor ≡ take l.k (moves_at l.log l.i)) × (l.out ≡ written g.F.MoveForm.form (moves_at l.log l.i) l.initial.out l.n l.k)
