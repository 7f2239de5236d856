-- What a cursor has yet to give.
use Rattle.std.specs.Prelude.{◌≡◌, ℕ, ◌+◌, ◌<◌, List, [], ◌∷◌, ◌++◌, length, Some}
use Rattle.std.specs.List.{slice_get, flat_map}
use Rattle.board.specs.declared.cursor.Cursor.{Cursor}
use Rattle.board.specs.declared.cursor.Pending.{Pending}
use Rattle.board.specs.declared.log.Log.{Log}
use Rattle.board.specs.declared.moves.Move.{Move}
use Rattle.board.specs.Settling.{bare}
use Rattle.board.specs.Spelled.{moves_at}

-- the moves of a pending call as far as its inside: those of its front, and its open row
abbrev pub pending_moves : Log → Pending → List Move
pending_moves l p = moves_at l p.front ++ (bare p.row ∷ [])

-- the moves that the cursor has yet to give, in their order
abbrev pub remaining : Log → Cursor → List Move
remaining l c = flat_map (pending_moves l) c.stack.items ++ moves_at l c.at

-- The record being read, and the front of each pending call, has at least as many records of the log after it as there
-- are calls around it: so there are always fewer pending calls than records.
pub record Walks (l : Log) (c : Cursor) : Type 0 where
  pub room : c.at + length c.stack.items < l.count
  pub fronts : (j : ℕ) (p : Pending) → slice_get c.stack.items j ≡ Some p → p.front + j < l.count
