-- Records of rows and lines, handed to the board one after the other.
use Rattle.std.specs.Prelude.{ℕ, zero, suc, ◌+◌, cond, List, length, drop, Ok, Err, Option, Result, nat_lt}
use Rattle.std.specs.Option.{option_map_or}
use Rattle.std.specs.Result.{result_map_both}
use Rattle.costs.specs.Meaning.{Meaning}
use Rattle.board.specs.declared.refusal.Refusal.{Refusal}
use Rattle.board.specs.declared.row.Row.{Row}
use Rattle.board.specs.declared.row.Line.{Line}
use Rattle.board.specs.Content.{Content}
use Rattle.board.specs.Calls.{row_refusal, row_after, line_refusal, line_after, line_at_cost}
use Rattle.file.specs.declared.refusal.FileRefusal.{FileRefusal}
use Rattle.file.specs.declared.refusal.FileRefusal.TheVariants.{CutShort, Board}
use Rattle.file.specs.declared.refusal.LoadFault.{LoadFault}
use Rattle.file.specs.Trust.{trusted}
use Rattle.file.specs.Fields.{word8, row_read, line_read}
use Rattle.file.specs.Parts.{fault_at}

-- what follows an answer, unless it is a refusal
abbrev pub go_on : {X Y E : Type 0} → Result X E → (X → Result Y E) → Result Y E
go_on (Ok x) next = next x
go_on (Err e) next = Err e

-- a refusal in the part at that place
abbrev pub at_place : {X : Type 0} → Result X FileRefusal → ℕ → Result X LoadFault
at_place r place = result_map_both (λ x. x) (λ e. fault_at e place) r

-- what a call of the board leaves, or its refusal
abbrev pub called : Option Refusal → Content → Result Content FileRefusal
called o after = option_map_or (λ e. Err (Board e)) o (Ok after)

-- the board with the row added, or the board's refusal
unfoldable pub row_added : Meaning → Content → Row → Result Content FileRefusal
row_added m c r = called (row_refusal m c r) (row_after m c r)

-- the board with the line added, or the board's refusal
unfoldable pub line_added : Meaning → Content → Line → Result Content FileRefusal
line_added m c l = called (line_refusal m c l) (line_after m c l)

-- the line with its cost as trust has it
abbrev pub trusted_line : Meaning → ℕ → Line → Line
trusted_line m trust l = line_at_cost (trusted m trust l.cost) l

-- a record that is read, and then put on the board: the file's refusal comes before the board's
abbrev pub record_added : {A : Type 0} → (ℕ → Result A FileRefusal) → (Content → A → Result Content FileRefusal) → Content → ℕ → Result Content FileRefusal
record_added read add c w = go_on (read w) (add c)

-- the row that a record is, put on the board
abbrev pub row_record : Meaning → Content → ℕ → Result Content FileRefusal
row_record m = record_added row_read (row_added m)

-- the line that a record is, put on the board at its cost as trust has it
abbrev pub line_record : Meaning → ℕ → Content → ℕ → Result Content FileRefusal
line_record m trust = record_added line_read (λ c l. line_added m c (trusted_line m trust l))

-- the record at the front of bs, unless they end before it does (20)
abbrev pub record_next : (Content → ℕ → Result Content FileRefusal) → List ℕ → Content → Result Content FileRefusal
record_next add bs c = cond (nat_lt (length bs) 8) (Err CutShort) (add c (word8 bs))

-- n records from the front of bs, which stands at that place, each put on the board by `add`
unfoldable pub records_added : (Content → ℕ → Result Content FileRefusal) → ℕ → List ℕ → ℕ → Content → Result Content LoadFault
records_added add zero bs place c = Ok c
records_added add (suc n) bs place c = go_on (at_place (record_next add bs c) place) (records_added add n (drop 8 bs) (place + 8))
