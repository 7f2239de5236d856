-- What a list of calls makes of a board, told by the calls' arguments alone.
use Rattle.std.specs.Prelude.{List}
use Rattle.std.specs.List.{fold}
use Rattle.costs.specs.Meaning.{Meaning}
use Rattle.board.specs.Content.{Content, new}
use Rattle.board.specs.Calls.{size_after, row_after, line_after, reprice_row_after, reprice_line_after, without_lines}
use Rattle.file.specs.declared.call.Call.{Call}
use Rattle.file.specs.declared.call.Call.TheVariants.{Size, AddRow, AddLine, RepriceRow, RepriceLine, ClearLines, Load, Settle, Reopen}
use Rattle.file.specs.Load.{load_after}

-- a board, draft or settled, with its content
pub data State : Type 0 where
  draft : Content → State
  settled : Content → State

-- What a call makes of a draft's content: size sets M and T, add puts a row or line last, reprice sets that number's
-- cost, clear drops all lines, and load takes the file's content, or a new board's where it is declined. A call that is
-- declined otherwise, or not one of these, leaves it.
abbrev pub edited : Meaning → Content → Call → Content
edited m c (Size modes moments) = size_after c modes moments
edited m c (AddRow r) = row_after m c r
edited m c (AddLine l) = line_after m c l
edited m c (RepriceRow i k) = reprice_row_after m c i k
edited m c (RepriceLine i k) = reprice_line_after m c i k
edited m c ClearLines = without_lines c
edited m c (Load bytes) = load_after m bytes.now
edited m c x = c

-- settle makes a draft a settled board, and all its other calls leave it a draft
abbrev pub on_draft : Meaning → Content → Call → State
on_draft m c Settle = settled c
on_draft m c x = draft (edited m c x)

-- reopen makes a settled board a draft, and no other call changes it
abbrev pub on_settled : Content → Call → State
on_settled c Reopen = draft c
on_settled c x = settled c

-- the state after one call
abbrev pub stepped : Meaning → State → Call → State
stepped m (draft c) x = on_draft m c x
stepped m (settled c) x = on_settled c x

-- the state after a list of calls, from a state on
abbrev pub state_from : Meaning → State → List Call → State
state_from m s xs = fold (stepped m) s xs

-- The state after a list of calls on a new board.
abbrev pub state_after : Meaning → List Call → State
state_after m calls = state_from m (draft new) calls
