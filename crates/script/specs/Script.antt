-- What a line of a script says.
use Rattle.std.specs.Prelude.{ℕ, Bool, cond, List, [], ◌∷◌, Some, None, Ok, Err, codes, Option, Result, ◌==◌, slice_index}
use Rattle.std.specs.Option.{option_map_or}
use Rattle.words.specs.Pieces.{spacing, pieces_of}
use Rattle.words.specs.Splits.{split_of}
use Rattle.words.specs.Trims.{trimmed_of}
use Rattle.script.specs.Commands.{Command, clear, settle, reopen, cost, command_of}
use Rattle.script.specs.Names.{name_of}
use Rattle.script.specs.Forms.{alone_command, kind_command, size_command, row_command, line_command, reprice_row_command, reprice_line_command, load_command, path_command, between_command}
use Rattle.script.specs.Repeats.{check_command}
use Rattle.script.specs.declared.name.Name.{Name}
use Rattle.script.specs.declared.name.Name.TheVariants.{Kind, Size, Row, Line, RepriceRow, RepriceLine, Clear, Load, Settle, Reopen, Cost, Path, Between, Check}
use Rattle.script.specs.declared.command.Command.{Command as VecCommand}
use Rattle.script.specs.declared.error.ParseError.{ParseError}
use Rattle.script.specs.declared.error.ParseError.TheVariants.{Unreadable, OutOfMemory}

-- What a line says.
pub data LineParsed : Type 0 where
  -- nothing: it is empty or a comment
  skip : LineParsed
  -- it cannot be read
  unreadable : LineParsed
  command : Command → LineParsed

-- what stands before the first arrow, or all of the line
abbrev pub before_split : List ℕ → Option (List ℕ × List ℕ) → List ℕ
before_split line parts = option_map_or (λ p. p.0) parts line

-- the part of a line that is the script: what stands before the first arrow, without spacing at its ends
abbrev pub script_part_of : List ℕ → List ℕ
script_part_of line = trimmed_of spacing (before_split line (split_of (codes " -> ") line))

-- the command of that name with the words after it
abbrev pub command_named : Name → List (List ℕ) → Option Command
command_named Kind ws = kind_command ws
command_named Size ws = size_command ws
command_named Row ws = row_command ws
command_named Line ws = line_command ws
command_named RepriceRow ws = reprice_row_command ws
command_named RepriceLine ws = reprice_line_command ws
command_named Clear ws = alone_command clear ws
command_named Load ws = load_command ws
command_named Settle ws = alone_command settle ws
command_named Reopen ws = alone_command reopen ws
command_named Cost ws = alone_command cost ws
command_named Path ws = path_command ws
command_named Between ws = between_command ws
command_named Check ws = check_command ws

abbrev pub command_parsed : Option Command → LineParsed
command_parsed c = option_map_or command c unreadable

abbrev pub name_parsed : Option Name → List (List ℕ) → LineParsed
name_parsed name ws = option_map_or (λ n. command_parsed (command_named n ws)) name unreadable

-- a word that begins a comment: its first byte is '#'
abbrev pub is_comment : List ℕ → Bool
is_comment w = slice_index w 0 == 35

-- what a line of these words says
abbrev pub words_parsed : List (List ℕ) → LineParsed
words_parsed [] = skip
words_parsed (w ∷ ws) = cond (is_comment w) skip (name_parsed (name_of w) ws)

-- what a line says
abbrev pub line_parsed : List ℕ → LineParsed
line_parsed line = words_parsed (pieces_of spacing (script_part_of line))

-- what the code's answer stands for; nothing where memory did not suffice
abbrev pub parsed_of : Result (Option VecCommand) ParseError → Option LineParsed
parsed_of (Ok None) = Some skip
parsed_of (Ok (Some c)) = Some (command (command_of c))
parsed_of (Err Unreadable) = Some unreadable
parsed_of (Err OutOfMemory) = None
