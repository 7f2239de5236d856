-- What a load answers and leaves, for every list of bytes.
use Rattle.std.specs.Prelude.{ℕ, Bool, cond, ◌&&◌, List, [], length, drop, Ok, Err, Result, ◌==◌, nat_le, nat_lt}
use Rattle.std.specs.Result.{result_map_both}
use Rattle.costs.specs.Meaning.{Meaning}
use Rattle.board.specs.Content.{Content, new}
use Rattle.board.specs.Calls.{size_refusal, size_after}
use Rattle.file.specs.declared.fields.Header.{Header}
use Rattle.file.specs.declared.refusal.FileRefusal.{FileRefusal}
use Rattle.file.specs.declared.refusal.FileRefusal.TheVariants.{CutShort, WrongSection}
use Rattle.file.specs.declared.refusal.LoadFault.{LoadFault}
use Rattle.file.specs.Fields.{word4, header_read, head_code}
use Rattle.file.specs.Parts.{PartRead, fault_at}
use Rattle.file.specs.Sections.{rows_code, lines_code, note_code, SectionRead, next_section, past}
use Rattle.file.specs.Records.{go_on, at_place, called, row_record, line_record, records_added}

-- a board's content and the note beside it
pub record Loaded : Type 0 where
  pub content : Content
  pub note : PartRead

-- this content and this note
abbrev pub loaded_as : Content → PartRead → Loaded
loaded_as c n = record { content = c; note = n }

-- the same note beside this content
abbrev pub with_content : Loaded → Content → Result Loaded LoadFault
with_content x c = Ok (loaded_as c x.note)

-- the same content beside this note
abbrev pub with_note : Loaded → PartRead → Result Loaded LoadFault
with_note x n = Ok (loaded_as x.content n)

-- a note that the file holds whole; 20 where it is cut short
abbrev pub note_taken : SectionRead → Loaded → Result Loaded LoadFault
note_taken f x = cond (nat_lt (length f.part.bytes) f.count) (Err (fault_at CutShort f.part.place)) (with_note x f.part)

-- one section: rows and lines go to the board, a note is kept
abbrev pub section_added : Meaning → ℕ → SectionRead → Loaded → Result Loaded LoadFault
section_added m trust f x =
    cond (f.code == rows_code) (go_on (records_added (row_record m) f.count f.part.bytes f.part.place x.content) (with_content x))
    (cond (f.code == lines_code) (go_on (records_added (line_record m trust) f.count f.part.bytes f.part.place x.content) (with_content x))
    (note_taken f x))

-- the head of a section of that code comes next
abbrev pub comes : ℕ → PartRead → Bool
comes code p = nat_le 2 (length p.bytes) && head_code p.bytes == code

-- the section of that code where it comes next, and then what follows
abbrev pub in_turn : Meaning → ℕ → ℕ → (PartRead → Loaded → Result Loaded LoadFault) → PartRead → Loaded → Result Loaded LoadFault
in_turn m trust code next p x = cond (comes code p) (go_on (section_added m trust (next_section p) x) (next (past p))) (next p x)

-- The file's end: one byte more is a section head cut short (20), and any head is one that may not come (24).
unfoldable pub at_end : PartRead → Loaded → Result Loaded LoadFault
at_end p x =
    cond (length p.bytes == 0) (Ok x)
    (cond (nat_lt (length p.bytes) 2) (Err (fault_at CutShort p.place)) (Err (fault_at WrongSection p.place)))

-- The sections: rows, lines, note, each at most once and in this order. After the lines a note may come, and then nothing;
unfoldable pub from_note : Meaning → ℕ → PartRead → Loaded → Result Loaded LoadFault
from_note m trust = in_turn m trust note_code at_end

-- after the rows lines may come, and then what may come after them;
unfoldable pub from_lines : Meaning → ℕ → PartRead → Loaded → Result Loaded LoadFault
from_lines m trust = in_turn m trust lines_code (from_note m trust)

-- at first rows may come, and then what may come after them
unfoldable pub from_rows : Meaning → ℕ → PartRead → Loaded → Result Loaded LoadFault
from_rows m trust = in_turn m trust rows_code (from_lines m trust)

-- the board sized as the header says, or the board's refusal
unfoldable pub sized : Header → Content → Result Content FileRefusal
sized h c = called (size_refusal c h.modes h.moments) (size_after c h.modes h.moments)

-- without a note the file ends in an empty one
abbrev pub no_note : List ℕ → PartRead
no_note bs = record { bytes = []; place = length bs }

-- what stands behind the header
abbrev pub after_header : List ℕ → PartRead
after_header bs = record { bytes = drop 4 bs; place = 4 }

-- what a header makes of a board: its content, and the trust of the lines that follow
pub record Opened : Type 0 where
  pub content : Content
  pub trust : ℕ

-- the header's part: 20 below 4 bytes, then what the header itself gives, then the size
abbrev pub opened : Meaning → List ℕ → Content → Result Opened FileRefusal
opened m bs c =
    cond (nat_lt (length bs) 4) (Err CutShort)
    (go_on (header_read m (word4 bs)) (λ h. go_on (sized h c) (λ d. Ok (record { content = d; trust = h.trust }))))

-- the header's part, whose place is 0, and then the sections
abbrev pub filled : Meaning → List ℕ → Content → Result Loaded LoadFault
filled m bs c =
    go_on (at_place (opened m bs c) 0) (λ o. from_rows m o.trust (after_header bs) (loaded_as o.content (no_note bs)))

-- what the file is read as on a new board
abbrev pub loaded : Meaning → List ℕ → Result Loaded LoadFault
loaded m bs = filled m bs new

-- the note, or the fault
abbrev pub note_answer : Result Loaded LoadFault → Result PartRead LoadFault
note_answer r = result_map_both (λ (x : Loaded). x.note) (λ e. e) r

-- the content that was read, or a new board's
abbrev pub content_left : Result Loaded LoadFault → Content
content_left (Ok x) = x.content
content_left (Err e) = new

-- What a load answers: the note, or the fault.
abbrev pub load_answer : Meaning → List ℕ → Result PartRead LoadFault
load_answer m bs = note_answer (loaded m bs)

-- The content it leaves: what the file says, or a new board's where it is declined.
abbrev pub load_after : Meaning → List ℕ → Content
load_after m bs = content_left (loaded m bs)
