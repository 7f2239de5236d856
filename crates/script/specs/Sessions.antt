-- What the values of the code that runs a script stand for.
use Rattle.costs.specs.declared.kind_name.KindName.TheVariants as name
use Rattle.file.specs.Histories.{state_of}
use Rattle.script.specs.Printing.{SessionState}
use Rattle.script.specs.declared.running.Session.{Session}
use Rattle.script.specs.declared.running.Session.TheVariants as session
use Rattle.script.specs.Commands.{command_of, behind}
use Rattle.script.specs.declared.running.Said.{Said}
use Rattle.script.specs.declared.running.Said.TheVariants.{Nothing, Command as SaidCommand, Unreadable as NotReadable}
use Rattle.script.specs.Script.{LineParsed, command, skip, unreadable}
use Rattle.file.specs.declared.call.Call.{Call}
use Rattle.file.specs.declared.call.Call.TheVariants as board

-- its kind and its state
abbrev pub session_state : Session → SessionState
session_state (session.Points b) = record { kind = name.Points; state = state_of b }
session_state (session.Severity b) = record { kind = name.Severity; state = state_of b }
session_state (session.Rank b) = record { kind = name.Rank; state = state_of b }

-- what the code took from a line, where memory sufficed
abbrev pub said : Said → LineParsed
said Nothing = skip
said NotReadable = unreadable
said (SaidCommand c) = command (command_of c)

-- a call on a board with the address of its bytes or moves set to 0, so that calls of the same contents are the same
abbrev pub without_address : Call → Call
without_address (board.Load bs) = board.Load (behind bs.now)
without_address (board.Check xs) = board.Check (behind xs.now)
without_address x = x
