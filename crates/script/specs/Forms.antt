-- The forms of commands: what the words after a command's name say.
use Rattle.std.specs.Prelude.{ℕ, List, [], ◌∷◌, Some, None, Option, slice_index}
use Rattle.std.specs.Option.{option_map, option_and_then}
use Rattle.words.specs.Numbers.{u8_max, u32_max, numbers_of}
use Rattle.words.specs.Hex.{bytes_of}
use Rattle.costs.specs.Names.{kind_by_letter}
use Rattle.board.specs.Rows.{kind_of_number}
use Rattle.script.specs.Commands.{Command, kind, size, row, line, reprice_row, reprice_line, load, path, between}

-- the largest length of a buffer or of a list of moves
abbrev pub longest_list : ℕ
longest_list = 1048576

-- the limits of two numbers of 32 bits, of a row's numbers and of a line's
abbrev pub two_wide : List ℕ
two_wide = u32_max ∷ u32_max ∷ []

abbrev pub row_number_limits : List ℕ
row_number_limits = u8_max ∷ u8_max ∷ u8_max ∷ u8_max ∷ u8_max ∷ u32_max ∷ []

abbrev pub line_number_limits : List ℕ
line_number_limits = u8_max ∷ u8_max ∷ u8_max ∷ u32_max ∷ []

-- a command with no words after its name
abbrev pub alone_command : Command → List (List ℕ) → Option Command
alone_command c [] = Some c
alone_command c (w ∷ ws) = None

-- kind LETTER
abbrev pub kind_word : List ℕ → Option Command
kind_word [] = None
kind_word (l ∷ []) = option_map kind (kind_by_letter l)
kind_word (l ∷ m ∷ ls) = None

abbrev pub kind_command : List (List ℕ) → Option Command
kind_command [] = None
kind_command (w ∷ []) = kind_word w
kind_command (w ∷ v ∷ ws) = None

-- a command with two numbers of 32 bits
abbrev pub two_numbers_command : (ℕ → ℕ → Command) → List (List ℕ) → Option Command
two_numbers_command make ws = option_map (λ ns. make (slice_index ns 0) (slice_index ns 1)) (numbers_of two_wide ws)

-- size MODES MOMENTS
abbrev pub size_command : List (List ℕ) → Option Command
size_command ws = two_numbers_command size ws

-- row KIND FROM TO LABEL ACTION COST
abbrev pub row_from : List ℕ → Option Command
row_from ns =
    option_map
    (λ k. row record {
      kind = k;
      from = slice_index ns 1;
      to = slice_index ns 2;
      label = slice_index ns 3;
      action = slice_index ns 4;
      cost = slice_index ns 5;
    })
    (kind_of_number (slice_index ns 0))

abbrev pub row_command : List (List ℕ) → Option Command
row_command ws = option_and_then row_from (numbers_of row_number_limits ws)

-- line FROM TO EVENT COST
abbrev pub line_from : List ℕ → Command
line_from ns = line record { from = slice_index ns 0; to = slice_index ns 1; event = slice_index ns 2; cost = slice_index ns 3 }

abbrev pub line_command : List (List ℕ) → Option Command
line_command ws = option_map line_from (numbers_of line_number_limits ws)

-- reprice-row I COST, and reprice-line I COST
abbrev pub reprice_row_command : List (List ℕ) → Option Command
reprice_row_command ws = two_numbers_command reprice_row ws

abbrev pub reprice_line_command : List (List ℕ) → Option Command
reprice_line_command ws = two_numbers_command reprice_line ws

-- load HEX; no word is an empty file
abbrev pub file_word : List (List ℕ) → Option (List ℕ)
file_word [] = Some []
file_word (w ∷ []) = Some w
file_word (w ∷ v ∷ ws) = None

abbrev pub file_command : Option (List ℕ) → Option Command
file_command word = option_and_then (λ w. option_map load (bytes_of w)) word

abbrev pub load_command : List (List ℕ) → Option Command
load_command ws = file_command (file_word ws)

-- path LENGTH
abbrev pub path_command : List (List ℕ) → Option Command
path_command ws = option_map (λ ns. path (slice_index ns 0)) (numbers_of (longest_list ∷ []) ws)

-- between S Q
abbrev pub between_command : List (List ℕ) → Option Command
between_command ws = two_numbers_command between ws
