-- What is printed of a call's answer.
use Rattle.std.specs.Prelude.{ℕ, cond, List, [], ◌++◌, length, Ok, Err, codes, decimal, Result, nat_le}
use Rattle.std.specs.List.{flat_map}
use Rattle.board.specs.Refusals.{refusal_text, fault_text}
use Rattle.file.specs.Refusals.{load_fault_text}
use Rattle.file.specs.declared.call.Call.{Call}
use Rattle.file.specs.declared.call.Call.TheVariants.{Load}
use Rattle.file.specs.declared.call.NoteSpan.{NoteSpan}
use Rattle.file.specs.declared.call.Answer.{Answer}
use Rattle.file.specs.declared.call.Answer.TheVariants.{NotTaken, Sized, Added, Repriced, Cleared, Loaded, Settled, Cost, Path, Between, Checked, Reopened}
use Rattle.file.specs.Answers.{bytes_at}
use Rattle.words.specs.Hex.{written_bytes, written_u16}

-- what was answered, or why it was refused
abbrev pub result_text : {T E X : Type 0} → (T → X) → (E → X) → Result T E → X
result_text value refusal (Ok x) = value x
result_text value refusal (Err e) = refusal e

-- a cost and a number of moves
abbrev pub cost_text : ℕ × ℕ → List ℕ
cost_text p = decimal p.0 ++ (codes " " ++ decimal p.1)

-- the bytes of the file that a call loads; another call has none
abbrev pub file_of : Call → List ℕ
file_of (Load file) = file.now
file_of x = []

-- a note: its place and its bytes, as they stand in the file
abbrev pub note_text : List ℕ → NoteSpan → List ℕ
note_text file n = codes "note " ++ (decimal n.place ++ (codes " " ++ written_bytes (bytes_at n file)))

-- the longest buffer that is printed
abbrev pub shown : ℕ
shown = 40

-- a number of a buffer
abbrev pub spaced_number : ℕ → List ℕ
spaced_number n = codes " " ++ written_u16 n

-- a whole buffer, where it is not too long to be printed
abbrev pub buffer_text : List ℕ → List ℕ
buffer_text buffer = cond (nat_le (length buffer) shown) (flat_map spaced_number buffer) []

-- What is printed of the answer of a call with that file, and of what it left of the buffer beside it.
abbrev pub told_text : Answer → List ℕ → List ℕ → List ℕ
told_text NotTaken file buffer = codes "not taken"
told_text (Sized r) file buffer = result_text (λ u. codes "ok") refusal_text r
told_text (Added r) file buffer = result_text decimal refusal_text r
told_text (Repriced r) file buffer = result_text (λ u. codes "ok") refusal_text r
told_text (Cleared n) file buffer = decimal n
told_text (Loaded r) file buffer = result_text (note_text file) load_fault_text r
told_text Settled file buffer = codes "ok"
told_text (Cost r) file buffer = result_text cost_text refusal_text r
told_text (Path r) file buffer = result_text decimal refusal_text r ++ buffer_text buffer
told_text (Between r) file buffer = result_text decimal refusal_text r
told_text (Checked r) file buffer = result_text decimal fault_text r
told_text Reopened file buffer = codes "ok"
