-- The commands of a script, and the calls on a board that they make.
use Rattle.std.specs.Prelude.{ℕ, List, Some, None, Option, vec_items}
use Rattle.std.specs.Borrow.{Bor}
use Rattle.costs.specs.declared.kind_name.KindName.{KindName}
use Rattle.board.specs.declared.row.Row.{Row}
use Rattle.board.specs.declared.row.Line.{Line}
use Rattle.file.specs.declared.call.Call.{Call}
use Rattle.file.specs.declared.call.Call.TheVariants as board
use Rattle.script.specs.declared.command.Command.{Command as VecCommand}
use Rattle.script.specs.declared.command.Command.TheVariants.{Kind, Size, AddRow, AddLine, RepriceRow, RepriceLine, ClearLines, Load, Settle, Reopen, Cost, Path, Between, Check}

-- A command, with lists in place of the code's vectors.
pub data Command : Type 0 where
  -- a new board of this kind
  kind : KindName → Command
  -- how many modes and moments
  size : ℕ → ℕ → Command
  row : Row → Command
  line : Line → Command
  -- the row's or the line's number, and its cost
  reprice_row : ℕ → ℕ → Command
  reprice_line : ℕ → ℕ → Command
  clear : Command
  -- a file's bytes
  load : List ℕ → Command
  settle : Command
  reopen : Command
  cost : Command
  -- the buffer's length
  path : ℕ → Command
  -- the numbers of two places
  between : ℕ → ℕ → Command
  -- a list of packed moves
  check : List ℕ → Command

-- the same of the code's command
abbrev pub command_of : VecCommand → Command
command_of (Kind k) = kind k
command_of (Size m t) = size m t
command_of (AddRow r) = row r
command_of (AddLine l) = line l
command_of (RepriceRow i c) = reprice_row i c
command_of (RepriceLine i c) = reprice_line i c
command_of ClearLines = clear
command_of (Load bs) = load (vec_items bs)
command_of Settle = settle
command_of Reopen = reopen
command_of Cost = cost
command_of (Path n) = path n
command_of (Between s q) = between s q
command_of (Check xs) = check (vec_items xs)

-- a reference to the list, at address 0
abbrev pub behind : {A : Type 0} → List A → Bor (List A)
behind xs = record { ref_ptr = (0, 0); now = xs }

-- the call on a board that a command makes; naming a kind makes none
abbrev pub on_board : Command → Option Call
on_board (kind k) = None
on_board (size m t) = Some (board.Size m t)
on_board (row r) = Some (board.AddRow r)
on_board (line l) = Some (board.AddLine l)
on_board (reprice_row i c) = Some (board.RepriceRow i c)
on_board (reprice_line i c) = Some (board.RepriceLine i c)
on_board clear = Some board.ClearLines
on_board (load bs) = Some (board.Load (behind bs))
on_board settle = Some board.Settle
on_board reopen = Some board.Reopen
on_board cost = Some board.Cost
on_board (path n) = Some board.Path
on_board (between s q) = Some (board.Between s q)
on_board (check xs) = Some (board.Check (behind xs))
