-- What is left of the list gives what the whole does.
use Rattle.std.proofs.Common.{◌≡◌, drop}
use Rattle.board.specs.Held.{held}
use Rattle.board.specs.Checks.{checked_from, check_answer}
use Rattle.board.specs.Checkers.{progress_of}
use Rattle.board.proofs.tables.Tables.check.Given as goal

abbrev pub invariant-loop-index : goal.invariant-loop-index
invariant-loop-index g l =
    let m = g.K.Kind.meaning in
    checked_from m (held l.self) (progress_of l.checker) l.index (drop l.index l.moves) ≡ check_answer m (held l.self) l.moves
