-- What inner functions add to a text.
use Rattle.std.specs.Prelude.{◌≡◌, ℕ, List, ◌++◌}
use Rattle.board.specs.declared.row.Row.{Row}
use Rattle.board.specs.declared.moves.Move.{Move}
use Rattle.board.specs.Content.{Content}
use Rattle.board.specs.Moves.{IsMove}
use Rattle.report.specs.Least.{LinesOf}

-- the move is by a row that the content holds
pub record ByHeldRow (c : Content) (v : Move) : Type 0 where
  pub by : Row
  pub found : IsMove c v.row by

-- the lines of these moves are added to what stood there
pub record LinesAdded (c : Content) (vs : List Move) (old new : List ℕ) : Type 0 where
  pub text : List ℕ
  pub each : LinesOf c vs text
  pub added : new ≡ old ++ text
