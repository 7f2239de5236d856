-- Commands as lines: how each is written, and that it reads back.
use Rattle.std.specs.Prelude.{◌≡◌, ℕ, ◌^◌, ◌<◌, ◌≤◌, List, [], ◌∷◌, ◌++◌, map, length, codes, decimal}
use Rattle.std.specs.List.{flat_map, AllByRecursion}
use Rattle.costs.specs.Names.{letter_of}
use Rattle.board.specs.declared.row.Row.{Row}
use Rattle.board.specs.declared.row.Line.{Line}
use Rattle.board.specs.Rows.{kind_number}
use Rattle.words.specs.Hex.{written_bytes, written_u16}
use Rattle.words.specs.Numbers.{Within}
use Rattle.script.specs.Commands.{Command, kind, size, row, line, reprice_row, reprice_line, clear, load, settle, reopen, cost, path, between, check}
use Rattle.script.specs.Forms.{longest_list, two_wide, row_number_limits, line_number_limits}
use Rattle.script.specs.Script.{command, script_part_of, line_parsed}

-- words, a space before each
abbrev pub spaced : List (List ℕ) → List ℕ
spaced ws = flat_map (λ w. 32 ∷ w) ws

-- the word of a file's bytes, where there are some
abbrev pub file_words : List ℕ → List (List ℕ)
file_words [] = []
file_words (b ∷ bs) = written_bytes (b ∷ bs) ∷ []

-- the numbers of a row and of a line, in their order
abbrev pub row_numbers : Row → List ℕ
row_numbers r = kind_number r.kind ∷ r.from ∷ r.to ∷ r.label ∷ r.action ∷ r.cost ∷ []

abbrev pub line_numbers : Line → List ℕ
line_numbers l = l.from ∷ l.to ∷ l.event ∷ l.cost ∷ []

-- the name of a command
abbrev pub name_word : Command → List ℕ
name_word (kind k) = codes "kind"
name_word (size m t) = codes "size"
name_word (row r) = codes "row"
name_word (line l) = codes "line"
name_word (reprice_row i c) = codes "reprice-row"
name_word (reprice_line i c) = codes "reprice-line"
name_word clear = codes "clear"
name_word (load bs) = codes "load"
name_word settle = codes "settle"
name_word reopen = codes "reopen"
name_word cost = codes "cost"
name_word (path n) = codes "path"
name_word (between s q) = codes "between"
name_word (check ms) = codes "check"

-- the words after the name
abbrev pub words_after : Command → List (List ℕ)
words_after (kind k) = (letter_of k ∷ []) ∷ []
words_after (size m t) = map decimal (m ∷ t ∷ [])
words_after (row r) = map decimal (row_numbers r)
words_after (line l) = map decimal (line_numbers l)
words_after (reprice_row i c) = map decimal (i ∷ c ∷ [])
words_after (reprice_line i c) = map decimal (i ∷ c ∷ [])
words_after clear = []
words_after (load bs) = file_words bs
words_after settle = []
words_after reopen = []
words_after cost = []
words_after (path n) = map decimal (n ∷ [])
words_after (between s q) = map decimal (s ∷ q ∷ [])
words_after (check ms) = map written_u16 ms

-- a command as a line
abbrev pub written_line : Command → List ℕ
written_line c = name_word c ++ spaced (words_after c)

-- the numbers of a command are within their limits
abbrev pub Fits : Command → Type 0
Fits (kind k) = Unit {0}
Fits (size m t) = Within two_wide (m ∷ t ∷ [])
Fits (row r) = Within row_number_limits (row_numbers r)
Fits (line l) = Within line_number_limits (line_numbers l)
Fits (reprice_row i c) = Within two_wide (i ∷ c ∷ [])
Fits (reprice_line i c) = Within two_wide (i ∷ c ∷ [])
Fits clear = Unit {0}
Fits (load bs) = AllByRecursion (λ b. b < 2 ^ 8) bs
Fits settle = Unit {0}
Fits reopen = Unit {0}
Fits cost = Unit {0}
Fits (path n) = n ≤ longest_list
Fits (between s q) = Within two_wide (s ∷ q ∷ [])
Fits (check ms) = AllByRecursion (λ m. m < 2 ^ 16) ms × (length ms ≤ longest_list)

-- The laws of a command's line.
pub record CommandsReadBack : Type 0 where
  -- a command within its limits, written as a line, reads back as that command, alone and with any answer behind an arrow
  pub alone : (c : Command) → Fits c → line_parsed (written_line c) ≡ command c
  pub answered : (c : Command) → Fits c → (answer : List ℕ) → line_parsed (written_line c ++ (codes " -> " ++ answer)) ≡ command c
  -- a line that says a command, however it is spelled, says it again as it is printed: its part before the arrow, and any answer
  pub again : (line answer : List ℕ) (c : Command) → line_parsed line ≡ command c → line_parsed (script_part_of line ++ (codes " -> " ++ answer)) ≡ command c
