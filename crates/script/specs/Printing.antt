-- What is printed of a script: each line with its answer.
use Rattle.std.specs.Prelude.{◌≡◌, ℕ, map, List, [], ◌∷◌, ◌++◌, replicate, Some, None, codes, Option}
use Rattle.std.specs.Char.{is_newline}
use Rattle.std.specs.List.{AllByRecursion, flat_map}
use Rattle.std.specs.Option.{option_map, option_map_or}
use Rattle.costs.specs.declared.kind_name.KindName.{KindName}
use Rattle.costs.specs.Meaning.{Meaning}
use Rattle.costs.specs.Names.{meaning_of}
use Rattle.board.specs.Content.{new}
use Rattle.file.specs.declared.call.Call.{Call}
use Rattle.file.specs.States.{State, draft, stepped, state_after}
use Rattle.file.specs.declared.call.Answer.TheVariants.{NotTaken}
use Rattle.file.specs.Answers.{step_answer, step_buffer}
use Rattle.file.specs.Histories.{defined_records}
use Rattle.words.specs.Pieces.{pieces_of}
use Rattle.script.specs.Commands.{Command, kind, path, on_board}
use Rattle.script.specs.Script.{LineParsed, skip, unreadable, command, script_part_of, line_parsed}
use Rattle.script.specs.Telling.{file_of, told_text}
use Rattle.script.specs.Written.{written_line, Fits}

-- the board that a script works on: its kind, and its state
pub record SessionState : Type 0 where
  pub kind : KindName
  pub state : State

-- the buffer beside a command: for path one of the length that it names, filled with aaaa
abbrev pub buffer_of : Command → List ℕ
buffer_of (path n) = replicate n 0xaaaa
buffer_of c = []

-- what is printed of a call's answer on a board in that state, and of what the call left of the buffer
abbrev pub answer_text : Meaning → State → Call → List ℕ → List ℕ
answer_text m s x buffer = told_text (step_answer m s (defined_records m s) x buffer) (file_of x) (step_buffer m s (defined_records m s) x buffer)

-- the same of a call that there may be, and the state after it; without one nothing is printed, and the state stays
abbrev pub made_text : Meaning → State → Option Call → List ℕ → List ℕ
made_text m s made buffer = option_map_or (λ x. answer_text m s x buffer) made []

abbrev pub made_state : Meaning → State → Option Call → State
made_state m s made = option_map_or (stepped m s) made s

-- what is printed of the answer to a command's call on the board that there is, and the board after it; where no kind was
-- named yet, the call is not taken
abbrev pub board_text : Option SessionState → Command → List ℕ
board_text session c = option_map_or (λ s. made_text (meaning_of s.kind) s.state (on_board c) (buffer_of c)) session (told_text NotTaken [] [])

abbrev pub board_after : Option SessionState → Command → Option SessionState
board_after session c = option_map (λ s. record { kind = s.kind; state = made_state (meaning_of s.kind) s.state (on_board c) }) session

-- What is printed behind any command, and the board after it: naming a kind begins a new board, and has no answer.
abbrev pub command_text : Option SessionState → Command → List ℕ
command_text s (kind k) = []
command_text s c = codes " -> " ++ board_text s c

abbrev pub command_after : Option SessionState → Command → Option SessionState
command_after s (kind k) = Some (record { kind = k; state = draft new })
command_after s c = board_after s c

-- what is printed of a line: its part before the arrow, the answer, and a newline; nothing where it is empty or a comment
abbrev pub line_text : Option SessionState → List ℕ → LineParsed → List ℕ
line_text s part skip = []
line_text s part unreadable = part ++ (codes " -> unreadable" ++ codes "\n")
line_text s part (command c) = part ++ (command_text s c ++ codes "\n")

-- the board after a line
abbrev pub after_line : Option SessionState → LineParsed → Option SessionState
after_line s skip = s
after_line s unreadable = s
after_line s (command c) = command_after s c

-- what is printed of lines, from a board on
abbrev pub printed_from : Option SessionState → List (List ℕ) → List ℕ
printed_from s [] = []
printed_from s (l ∷ ls) = line_text s (script_part_of l) (line_parsed l) ++ printed_from (after_line s (line_parsed l)) ls

-- What is printed of a script: of its lines, before any kind is named.
abbrev pub printed : List ℕ → List ℕ
printed bytes = printed_from None (pieces_of is_newline bytes)

-- these commands as a script, a line each
abbrev pub script_of : List Command → List ℕ
script_of cs = flat_map (λ c. written_line c ++ codes "\n") cs

-- a command's line with its answer behind the arrow
abbrev pub answered_line : Command → List ℕ → List ℕ
answered_line c answer = written_line c ++ (codes " -> " ++ (answer ++ codes "\n"))

-- The laws of what is printed.
pub record PrintsAnswers : Type 0 where
  -- a script of one line that names a kind is printed as it stands
  pub begins : (k : KindName) → printed (script_of (kind k ∷ [])) ≡ script_of (kind k ∷ [])
  -- After a kind was named and calls were made on its board, one command more, within its limits, prints one line more: the
  -- command, and the answer that its call has on the board that the calls before it make of a new one.
  pub one_more : (k : KindName) (before : List Command) (xs : List Call) (c : Command) (x : Call) → AllByRecursion Fits before → map on_board before ≡ map Some xs → Fits c → on_board c ≡ Some x → printed (script_of (kind k ∷ (before ++ (c ∷ [])))) ≡ printed (script_of (kind k ∷ before)) ++ answered_line c (answer_text (meaning_of k) (state_after (meaning_of k) xs) x (buffer_of c))
  -- naming a kind begins anew: what stands before it, and what stands from there on, are printed one as without the other
  pub anew : (k : KindName) (before rest : List ℕ) → printed (before ++ (codes "\n" ++ (written_line (kind k) ++ (codes "\n" ++ rest)))) ≡ printed before ++ printed (written_line (kind k) ++ (codes "\n" ++ rest))
