-- What each call answers, and what it leaves of the buffer.
use Rattle.std.specs.Prelude.{◌≡◌, ℕ, List, [], ◌∷◌, take, drop, length, Some, None, Ok, Option, Result}
use Rattle.std.specs.Option.{option_map}
use Rattle.std.specs.Result.{result_err, result_map_both}
use Rattle.costs.specs.Meaning.{Meaning}
use Rattle.board.specs.declared.check.Fault.{Fault}
use Rattle.board.specs.Refusals.{number, answer}
use Rattle.board.specs.Content.{Content}
use Rattle.board.specs.Calls.{size_refusal, row_refusal, line_refusal, reprice_refusal}
use Rattle.board.specs.Checks.{check_answer}
use Rattle.board.specs.Settling.{In, Record}
use Rattle.board.specs.Questions.{cost_answer, path_answer, path_after, between_answer}
use Rattle.file.specs.declared.call.Call.{Call}
use Rattle.file.specs.declared.call.Call.TheVariants.{Size, AddRow, AddLine, RepriceRow, RepriceLine, ClearLines, Load, Settle, Cost, Path, Between, Check, Reopen}
use Rattle.file.specs.declared.call.Answer.{Answer}
use Rattle.file.specs.declared.call.Answer.TheVariants as gives
use Rattle.file.specs.declared.call.NoteSpan.{NoteSpan}
use Rattle.file.specs.declared.refusal.LoadFault.{LoadFault}
use Rattle.file.specs.Parts.{PartRead}
use Rattle.file.specs.Refusals.{file_number}
use Rattle.file.specs.Load.{load_answer}
use Rattle.file.specs.States.{State, draft, settled}

-- where a note stands in its file, and how many bytes it has
abbrev pub span : PartRead → NoteSpan
span p = record { place = p.place; length = length p.bytes }

-- the same of a load's answer
abbrev pub spanned : Result PartRead LoadFault → Result NoteSpan LoadFault
spanned r = result_map_both span (λ e. e) r

-- what stands in a file at that place, so many bytes long
abbrev pub bytes_at : NoteSpan → List ℕ → List ℕ
bytes_at n file = take n.length (drop n.place file)

-- An answered note is the file's: what stands in the call's file at the answered place, so many bytes long, is the note.
abbrev pub NoteStands : Meaning → Call → Answer → Type 0
NoteStands m (Load file) (gives.Loaded (Ok n)) = load_answer m file.now ≡ Ok (record { bytes = bytes_at n file.now; place = n.place })
NoteStands m x a = Unit {0}

-- a draft's answers, but to settle; it does not take the questions, nor reopen
abbrev pub draft_answer : Meaning → Content → Call → Answer
draft_answer m c (Size modes moments) = gives.Sized (answer (size_refusal c modes moments) tt)
draft_answer m c (AddRow r) = gives.Added (answer (row_refusal m c r) (length c.rows))
draft_answer m c (AddLine l) = gives.Added (answer (line_refusal m c l) (length c.lines))
draft_answer m c (RepriceRow i k) = gives.Repriced (answer (reprice_refusal m c.rows i k) tt)
draft_answer m c (RepriceLine i k) = gives.Repriced (answer (reprice_refusal m c.lines i k) tt)
draft_answer m c ClearLines = gives.Cleared (length c.lines)
draft_answer m c (Load bytes) = gives.Loaded (spanned (load_answer m bytes.now))
draft_answer m c x = gives.NotTaken

-- a settled board's answers, but to reopen, from its content and its records; of other calls it takes the questions alone
abbrev pub settled_answer : Meaning → Content → List Record → Call → List ℕ → Answer
settled_answer m c log Cost buffer = gives.Cost (cost_answer m c log)
settled_answer m c log Path buffer = gives.Path (path_answer m c log buffer)
settled_answer m c log (Between s q) buffer = gives.Between (between_answer c log s q)
settled_answer m c log (Check moves) buffer = gives.Checked (check_answer m c moves.now)
settled_answer m c log x buffer = gives.NotTaken

-- path writes into the buffer, and no other question does
abbrev pub settled_buffer : Meaning → Content → List Record → Call → List ℕ → List ℕ
settled_buffer m c log Path buffer = path_after m c log buffer
settled_buffer m c log x buffer = buffer

-- settling and reopening answer that they are done
abbrev pub step_answer_draft : Meaning → Content → Call → Answer
step_answer_draft m c Settle = gives.Settled
step_answer_draft m c x = draft_answer m c x

abbrev pub step_answer_settled : Meaning → Content → List Record → Call → List ℕ → Answer
step_answer_settled m c log Reopen buffer = gives.Reopened
step_answer_settled m c log x buffer = settled_answer m c log x buffer

-- What a call answers on a board in that state, with those records where it is settled, and what it leaves of the buffer.
abbrev pub step_answer : Meaning → State → List Record → Call → List ℕ → Answer
step_answer m (draft c) log x buffer = step_answer_draft m c x
step_answer m (settled c) log x buffer = step_answer_settled m c log x buffer

abbrev pub step_buffer : Meaning → State → List Record → Call → List ℕ → List ℕ
step_buffer m (draft c) log x buffer = buffer
step_buffer m (settled c) log x buffer = settled_buffer m c log x buffer

-- the number of the error, where there is one
abbrev pub error_number : {X E : Type 0} → (E → ℕ) → Result X E → Option ℕ
error_number f r = option_map f (result_err r)

-- The number of the refusal that an answer holds, if it holds one.
abbrev pub refused_with : Answer → Option ℕ
refused_with (gives.Sized r) = error_number number r
refused_with (gives.Added r) = error_number number r
refused_with (gives.Repriced r) = error_number number r
refused_with (gives.Loaded r) = error_number (λ (f : LoadFault). file_number f.refusal) r
refused_with (gives.Cost r) = error_number number r
refused_with (gives.Path r) = error_number number r
refused_with (gives.Between r) = error_number number r
refused_with (gives.Checked r) = error_number (λ (f : Fault). number f.refusal) r
refused_with a = None

-- The numbers of the refusals that each call can give; settle, reopen and clear give none.
abbrev pub can_give : Call → List ℕ
can_give (Size modes moments) = 1 ∷ 2 ∷ []
can_give (AddRow r) = 3 ∷ 4 ∷ 5 ∷ 10 ∷ []
can_give (AddLine l) = 6 ∷ 7 ∷ 8 ∷ 10 ∷ []
can_give (RepriceRow i k) = 9 ∷ 10 ∷ []
can_give (RepriceLine i k) = 9 ∷ 10 ∷ []
can_give ClearLines = []
can_give (Load file) = 2 ∷ 3 ∷ 4 ∷ 5 ∷ 6 ∷ 7 ∷ 8 ∷ 10 ∷ 20 ∷ 21 ∷ 22 ∷ 23 ∷ 24 ∷ []
can_give Settle = []
can_give Cost = 11 ∷ []
can_give Path = 11 ∷ 12 ∷ []
can_give (Between s q) = 13 ∷ 14 ∷ []
can_give (Check moves) = 15 ∷ 16 ∷ 17 ∷ 18 ∷ 19 ∷ []
can_give Reopen = []

-- Whatever the state, the records and the buffer: if the answer holds a refusal, its number is one that the call can give.
abbrev pub GivesItsNumbers : Type 0
GivesItsNumbers = (m : Meaning) (s : State) (log : List Record) (x : Call) (buffer : List ℕ) (n : ℕ) → refused_with (step_answer m s log x buffer) ≡ Some n → In n (can_give x)
