-- What `least` prints of a file: the text that a relation allows, by what load answers and which reading is the recorded one.
use Rattle.std.specs.Prelude.{◌≡◌, ℕ, ◌<◌, ◌≤◌, ◌↔◌, cond, ◌==◌, List, [], ◌∷◌, ◌++◌, length, take, Ok, Err, codes, decimal, Option, slice_index_or}
use Rattle.std.specs.Option.{option_map_or}
use Rattle.std.proofs.Math.Utf8.{encode}
use Rattle.std.specs.Io.KnownBytes.{Appends}
use Rattle.costs.specs.Meaning.{Meaning}
use Rattle.costs.specs.Kinds.{points, severity, rank}
use Rattle.board.specs.declared.row.Row.{Row}
use Rattle.board.specs.declared.moves.Move.{Move}
use Rattle.board.specs.declared.refusal.Refusal.{Refusal}
use Rattle.board.specs.declared.refusal.Refusal.TheVariants.{NoReading, TooLong}
use Rattle.board.specs.Refusals.{refusal_text}
use Rattle.board.specs.Content.{Content}
use Rattle.board.specs.Moves.{IsMove}
use Rattle.board.specs.Settling.{RecordedReading}
use Rattle.board.specs.Computing.{settled_log}
use Rattle.board.specs.Promises.{NoReadingBelowWorst}
use Rattle.file.specs.declared.refusal.LoadFault.{LoadFault}
use Rattle.file.specs.Refusals.{load_fault_text}
use Rattle.file.specs.Parts.{PartRead}
use Rattle.file.specs.Laws.{telling_bytes}
use Rattle.file.specs.Load.{load_answer, load_after}

-- the kind whose letter this is, and points under any other
abbrev pub meaning_under : ℕ → Meaning
meaning_under letter = cond (letter == severity.letter) severity (cond (letter == rank.letter) rank points)

-- the line of a declined load: `bad`, number, layer and place
abbrev pub bad_line : LoadFault → List ℕ
bad_line e = load_fault_text e ++ codes "\n"

-- the line of a declined question: `no` and the refusal's number
abbrev pub no_line : Refusal → List ℕ
no_line e = refusal_text e ++ codes "\n"

-- the first line: letter, cost and number of moves
abbrev pub cost_line : ℕ → ℕ → ℕ → List ℕ
cost_line letter cost moves = encode letter ++ (codes " " ++ (decimal cost ++ (codes " " ++ (decimal moves ++ codes "\n"))))

-- a move's line in digits, or `-`
abbrev pub line_column : Option ℕ → List ℕ
line_column line = option_map_or decimal line (codes "-")

-- the line of a move by that row: the row's number, the move's line or `-`, and the row's action
abbrev pub move_line : Move → Row → List ℕ
move_line v r = decimal v.row ++ (codes " " ++ (line_column v.line ++ (codes " " ++ (decimal r.action ++ codes "\n"))))

-- The lines of these moves on a content, each by the row that it names.
pub data LinesOf (c : Content) : List Move → List ℕ → Type 0 where
  none : LinesOf c [] []
  one_more : {v : Move} {r : Row} {vs : List Move} {text : List ℕ} → IsMove c v.row r → LinesOf c vs text → LinesOf c (v ∷ vs) (move_line v r ++ text)

-- the most moves of a reading that is printed
abbrev pub most_moves : ℕ
most_moves = 4096

-- What is printed of a settled content: a line of the recorded reading's cost and number of moves, and one line for each of its
-- moves; 12 alone where it has too many moves, and 11 alone where no reading is below the worst.
pub data SettledText (m : Meaning) (c : Content) : List ℕ → Type 0 where
  reading : {k : ℕ} {vs : List Move} {text : List ℕ} → RecordedReading m c (settled_log m c) k vs → length vs ≤ most_moves → LinesOf c vs text → SettledText m c (cost_line m.letter k (length vs) ++ text)
  too_long : {k : ℕ} {vs : List Move} → RecordedReading m c (settled_log m c) k vs → most_moves < length vs → SettledText m c (no_line TooLong)
  no_reading : NoReadingBelowWorst m c → SettledText m c (no_line NoReading)

-- What is printed of a file under a kind: of one that loads what it leaves settled, and of one that does not the fault.
pub data FileText (m : Meaning) (bytes : List ℕ) : List ℕ → Type 0 where
  loaded : {note : PartRead} {text : List ℕ} → load_answer m bytes ≡ Ok note → SettledText m (load_after m bytes) text → FileText m bytes text
  declined : {fault : LoadFault} → load_answer m bytes ≡ Err fault → FileText m bytes (bad_line fault)

-- It is this text, and no other.
pub record Prints (m : Meaning) (bytes text : List ℕ) : Type 0 where
  pub is : FileText m bytes text
  pub only : (other : List ℕ) → FileText m bytes other → other ≡ text

-- each file has one
abbrev pub PrintsSome : Meaning → List ℕ → Type 0
PrintsSome m bytes = (text : List ℕ) × Prints m bytes text

-- What `least` prints: the file under the kind of its first byte's letter; an empty one under points (80 is P).
abbrev pub LeastPrints : List ℕ → List ℕ → Type 0
LeastPrints bytes text = Prints (meaning_under (slice_index_or bytes 0 80)) bytes text

-- of each file it prints some text
abbrev pub LeastPrintsSome : List ℕ → Type 0
LeastPrintsSome bytes = PrintsSome (meaning_under (slice_index_or bytes 0 80)) bytes

-- What it prints of these bytes, and nothing else, is added to what was written.
pub record LeastWritten (bytes : List ℕ) (old new : Option (List ℕ)) : Type 0 where
  pub text : List ℕ
  pub printed : LeastPrints bytes text
  pub added : Appends old new text

-- The limit of what the program `least` reads never shows: what is printed of a file's first bytes, so many as tell a load, is
-- what is printed of all of it.
abbrev pub LimitNeverShows : Type 0
LimitNeverShows = (bytes text : List ℕ) → LeastPrints (take telling_bytes bytes) text ↔ LeastPrints bytes text
