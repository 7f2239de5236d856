-- The moves of a record.
use Rattle.std.specs.Prelude.{ℕ, List, slice_index_or}
use Rattle.board.specs.declared.moves.Move.{Move}
use Rattle.board.specs.Settling.{bare}
use Rattle.board.specs.declared.log.Log.{Log}
use Rattle.board.specs.Logs.{nth_record}

-- the moves of record i
abbrev pub moves_at : Log → ℕ → List Move
moves_at l i = (nth_record l i).moves

-- move k of record i
abbrev pub move_of : Log → ℕ → ℕ → Move
move_of l i k = slice_index_or (moves_at l i) k (bare 0)
