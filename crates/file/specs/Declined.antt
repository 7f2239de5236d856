-- Why a load is declined, told from the layout: what the file describes before the part at fault, and the rule that this part
-- breaks.
use Rattle.std.specs.Prelude.{◌≡◌, ℕ, ◌<◌, Bool, false, cond, not, ◌||◌, ◌↔◌, List, [], ◌∷◌, ◌++◌, length, Some, None, Err, Option, Result, ◌==◌, nat_lt}
use Rattle.std.specs.Option.{option_map}
use Rattle.costs.specs.Meaning.{Meaning}
use Rattle.board.specs.declared.refusal.Refusal.{Refusal}
use Rattle.board.specs.declared.row.Row.{Row}
use Rattle.board.specs.declared.row.Line.{Line}
use Rattle.board.specs.Content.{Content, new}
use Rattle.board.specs.Calls.{size_refusal, row_refusal, line_refusal}
use Rattle.file.specs.declared.refusal.FileRefusal.{FileRefusal}
use Rattle.file.specs.declared.refusal.FileRefusal.TheVariants.{CutShort, WrongLetter, NotZero, WrongTrust, WrongSection, Board}
use Rattle.file.specs.declared.refusal.LoadFault.{LoadFault}
use Rattle.file.specs.Fields.{field, word4, word8, header_fields, head_code, row_fields, line_fields}
use Rattle.file.specs.Parts.{PartRead}
use Rattle.file.specs.Sections.{rows_code, lines_code, note_code}
use Rattle.file.specs.Records.{trusted_line}
use Rattle.file.specs.Layout.{Description, held_in, row_bytes, line_bytes, one_byte, section_begun, section_written, header_written, written, Count, KeepsLimits, content_of}

-- The part that is due, and what the file describes before it.
pub data Due : Type 0 where
  -- the header, before all
  at_header : Due
  -- the head of a section, behind the header and the sections described
  at_head : Description → Due
  -- a row of a section whose head counts so many, behind the header, that head and the rows described
  at_row : Description → ℕ → Due
  -- a line of a section whose head counts so many, behind the header, the section of rows, that head and the lines described
  at_line : Description → ℕ → Due
  -- the bytes of a note whose head counts so many, behind the header, the sections described and that head
  at_note : Description → ℕ → Due

-- the bytes before it
abbrev pub before : Due → List ℕ
before at_header = []
before (at_head d) = written d
before (at_row d n) = header_written d ++ section_begun rows_code row_bytes n (held_in d.rows)
before (at_line d n) = header_written d ++ (section_written rows_code row_bytes d.rows ++ section_begun lines_code line_bytes n (held_in d.lines))
before (at_note d n) = written d ++ section_begun note_code one_byte n []

-- What is described before it keeps the limits, has no section that comes after, and in a section fewer than it counts.
abbrev pub KeepsLimitsBefore : Meaning → Due → Type 0
KeepsLimitsBefore m at_header = Unit {0}
KeepsLimitsBefore m (at_head d) = KeepsLimits m d
KeepsLimitsBefore m (at_row d n) = KeepsLimits m d × (d.lines ≡ None) × (d.note ≡ None) × (length (held_in d.rows) < n) × Count n
KeepsLimitsBefore m (at_line d n) = KeepsLimits m d × (d.note ≡ None) × (length (held_in d.lines) < n) × Count n
KeepsLimitsBefore m (at_note d n) = KeepsLimits m d × (d.note ≡ None) × Count n

-- the board's refusal, as one of the file's
abbrev pub by_board : Option Refusal → Option FileRefusal
by_board e = option_map Board e

-- the first of a part's own rules that is broken, and if none is, what the board declines
abbrev pub first_broken : List (Bool × FileRefusal) → Option Refusal → Option FileRefusal
first_broken [] board = by_board board
first_broken (r ∷ rs) board = cond r.0 (Some r.1) (first_broken rs board)

-- A header: cut short (20); the letter is not the kind's (21); a zero bit is 1 (22); trust is not 16 where it does not scale
-- (23); then the board's, for the size (2).
abbrev pub header_refusal : Meaning → List ℕ → Option FileRefusal
header_refusal m bs =
    first_broken
    ((nat_lt (length bs) 4, CutShort)
    ∷ (not (field (word4 bs) 24 8 == m.letter), WrongLetter)
    ∷ (not (field (word4 bs) 8 2 == 0), NotZero)
    ∷ (not (m.scaled || field (word4 bs) 0 8 == 16), WrongTrust)
    ∷ [])
    (size_refusal new (header_fields (word4 bs)).modes (header_fields (word4 bs)).moments)

-- which codes a section may have behind these sections: each comes at most once, rows before lines before the note
abbrev pub may_follow : Option (List Row) → Option (List Line) → Option (List ℕ) → ℕ → Bool
may_follow rows lines (Some bs) code = false
may_follow rows (Some ls) None code = code == note_code
may_follow (Some rs) None None code = code == lines_code || code == note_code
may_follow None None None code = code == rows_code || (code == lines_code || code == note_code)

-- A section's head, unless the file ends: cut short (20); a section that may not come here (24).
abbrev pub head_refusal : Description → List ℕ → Option FileRefusal
head_refusal d bs =
    cond (length bs == 0) None
    (first_broken ((nat_lt (length bs) 2, CutShort) ∷ (not (may_follow d.rows d.lines d.note (head_code bs)), WrongSection) ∷ []) None)

-- A row: cut short (20); a zero bit is 1 (22); then the board's, for adding it (3, 4, 5, 10).
abbrev pub row_part_refusal : Meaning → Content → List ℕ → Option FileRefusal
row_part_refusal m c bs =
    first_broken ((nat_lt (length bs) 8, CutShort) ∷ (not (field (word8 bs) 32 2 == 0), NotZero) ∷ []) (row_refusal m c (row_fields (word8 bs)))

-- A line: cut short (20); a zero bit is 1 (22); then the board's, for adding it at its cost as trust has it (6, 7, 8, 10).
abbrev pub line_part_refusal : Meaning → ℕ → Content → List ℕ → Option FileRefusal
line_part_refusal m trust c bs =
    first_broken ((nat_lt (length bs) 8, CutShort) ∷ (not (field (word8 bs) 32 12 == 0), NotZero) ∷ []) (line_refusal m c (trusted_line m trust (line_fields (word8 bs))))

-- A note's bytes: cut short (20).
abbrev pub note_refusal : ℕ → List ℕ → Option FileRefusal
note_refusal n bs = first_broken ((nat_lt (length bs) n, CutShort) ∷ []) None

-- the first rule that is broken by the part that is due, which bs begins with
abbrev pub part_refusal : Meaning → Due → List ℕ → Option FileRefusal
part_refusal m at_header bs = header_refusal m bs
part_refusal m (at_head d) bs = head_refusal d bs
part_refusal m (at_row d n) bs = row_part_refusal m (content_of m d) bs
part_refusal m (at_line d n) bs = line_part_refusal m d.trust (content_of m d) bs
part_refusal m (at_note d n) bs = note_refusal n bs

-- The bytes up to the fault's place are described, within the limits as far as they go (a section's head may count more than may
-- come), and the part there breaks the fault's rule.
pub record Declined (m : Meaning) (bytes : List ℕ) (f : LoadFault) : Type 0 where
  pub due : Due
  pub keeps : KeepsLimitsBefore m due
  pub rest : List ℕ
  pub laid_out : before due ++ rest ≡ bytes
  pub place : f.place ≡ length (before due)
  pub broken : part_refusal m due rest ≡ Some f.refusal

-- A load declines, with a fault, exactly the files that break that rule at that place, and none before it.
abbrev pub DeclinesExactly : Meaning → List ℕ → Result PartRead LoadFault → Type 0
DeclinesExactly m bytes answer = (f : LoadFault) → (answer ≡ Err f) ↔ Declined m bytes f
