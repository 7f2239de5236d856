-- The layout of a file: what a file describes, how that is written in bytes, and the limits that it keeps.
use Rattle.std.specs.Prelude.{◌≡◌, ℕ, zero, suc, ◌+◌, ◌-◌, ◌*◌, ◌/◌, ◌%◌, ◌^◌, ◌<◌, ◌≤◌, true, false, ◌↔◌, List, [], ◌∷◌, ◌++◌, map, length, Ok, Option, Result}
use Rattle.std.specs.List.{flat_map, AllByRecursion, fold}
use Rattle.std.specs.Option.{unwrap_or, option_map_or}
use Rattle.costs.specs.Meaning.{Meaning, Cost}
use Rattle.board.specs.Bounds.{most_places, most_rows, most_lines}
use Rattle.board.specs.declared.row.Row.{Row}
use Rattle.board.specs.declared.row.Line.{Line}
use Rattle.board.specs.Rows.{kind_number, formed}
use Rattle.board.specs.Content.{Content}
use Rattle.file.specs.declared.refusal.LoadFault.{LoadFault}
use Rattle.file.specs.Trust.{trusted}
use Rattle.file.specs.Parts.{PartRead}
use Rattle.file.specs.Sections.{rows_code, lines_code, note_code}
use Rattle.file.specs.Records.{trusted_line}

-- What a file describes. A section may be absent; one with a count of 0 is there and holds nothing.
pub record Description : Type 0 where
  pub letter : ℕ
  pub modes : ℕ
  pub moments : ℕ
  pub trust : ℕ
  pub rows : Option (List Row)
  pub lines : Option (List Line)
  pub note : Option (List ℕ)

-- what a section holds; an absent one nothing
abbrev pub held_in : {A : Type 0} → Option (List A) → List A
held_in o = unwrap_or o []

-- a number, and the width in bits of the field it is put into
abbrev pub Field : Type 0
Field = ℕ × ℕ

-- the fields as one number, the first the most significant, with w in front
abbrev pub word_onto : ℕ → List Field → ℕ
word_onto w fs = fold (λ w f. w * 2 ^ f.1 + f.0) w fs

abbrev pub word : List Field → ℕ
word fs = word_onto 0 fs

-- a number as n bytes, the first the most significant
abbrev pub in_bytes : ℕ → ℕ → List ℕ
in_bytes zero w = []
in_bytes (suc n) w = in_bytes n (w / 256) ++ (w % 256 ∷ [])

-- the fields of a header, a section head, a row and a line
abbrev pub header_word : ℕ → ℕ → ℕ → ℕ → ℕ
header_word letter modes moments trust = word ((letter, 8) ∷ (modes, 7) ∷ (moments, 7) ∷ (0, 2) ∷ (trust, 8) ∷ [])

abbrev pub head_word : ℕ → ℕ → ℕ
head_word code count = word ((code, 4) ∷ (count, 12) ∷ [])

abbrev pub row_word : Row → ℕ
row_word r =
    word ((kind_number r.kind, 2) ∷ (r.from, 6) ∷ (r.to, 6) ∷ (r.label, 8) ∷ (r.action, 8) ∷ (0, 2) ∷ (r.cost, 32) ∷ [])

abbrev pub line_word : Line → ℕ
line_word l = word ((l.from, 6) ∷ (l.to, 6) ∷ (l.event, 8) ∷ (0, 12) ∷ (l.cost, 32) ∷ [])

-- the bytes of a row, of a line and of a byte of the note
abbrev pub row_bytes : Row → List ℕ
row_bytes r = in_bytes 8 (row_word r)

abbrev pub line_bytes : Line → List ℕ
line_bytes l = in_bytes 8 (line_word l)

abbrev pub one_byte : ℕ → List ℕ
one_byte b = b ∷ []

-- what stands of a section that counts n: its head, with its code and its count, and what has come so far, one after the other
abbrev pub section_begun : {A : Type 0} → ℕ → (A → List ℕ) → ℕ → List A → List ℕ
section_begun code f n xs = in_bytes 2 (head_word code n) ++ flat_map f xs

-- a section: all that it counts has come; an absent one has no head
abbrev pub section_written : {A : Type 0} → ℕ → (A → List ℕ) → Option (List A) → List ℕ
section_written code f o = option_map_or (λ xs. section_begun code f (length xs) xs) o []

-- the sections in their order
abbrev pub sections_written : Option (List Row) → Option (List Line) → Option (List ℕ) → List ℕ
sections_written rows lines note =
    section_written rows_code row_bytes rows ++ (section_written lines_code line_bytes lines ++ section_written note_code one_byte note)

-- the header
abbrev pub header_written : Description → List ℕ
header_written d = in_bytes 4 (header_word d.letter d.modes d.moments d.trust)

-- The bytes of a file: the header, then the sections.
abbrev pub written : Description → List ℕ
written d = header_written d ++ sections_written d.rows d.lines d.note

-- a number that so many bits hold
abbrev pub InBits : ℕ → ℕ → Type 0
InBits bits n = n < 2 ^ bits

-- a number that is a byte
abbrev pub Byte : ℕ → Type 0
Byte b = InBits 8 b

-- a number that the count of a section's head holds, up to 4,095
abbrev pub Count : ℕ → Type 0
Count n = InBits 12 n

-- The limits of a row on a board of so many modes.
pub record RowLimits (m : Meaning) (modes : ℕ) (r : Row) : Type 0 where
  pub from_in : r.from < modes
  pub to_in : r.to < modes
  pub well_formed : formed r.kind r ≡ true
  pub price : Cost m r.cost
  -- each fits its field
  pub from_fits : InBits 6 r.from
  pub to_fits : InBits 6 r.to
  pub label_fits : Byte r.label
  pub action_fits : Byte r.action
  pub cost_fits : InBits 32 r.cost

-- The limits of a line on a board of so many moments, under that trust.
pub record LineLimits (m : Meaning) (moments trust : ℕ) (l : Line) : Type 0 where
  pub from_in : l.from < moments
  pub to_in : l.to < moments
  pub some_event : 0 < l.event
  pub price : Cost m (trusted m trust l.cost)
  -- each fits its field
  pub from_fits : InBits 6 l.from
  pub to_fits : InBits 6 l.to
  pub event_fits : Byte l.event
  pub cost_fits : InBits 32 l.cost

-- The limits of a file of the kind m.
pub record KeepsLimits (m : Meaning) (d : Description) : Type 0 where
  -- the header: the kind's letter, 1 to 64 places, trust 16 where it does not scale; each fits its field
  pub own_letter : d.letter ≡ m.letter
  pub letter_fits : Byte d.letter
  pub some_place : 0 < d.modes * d.moments
  pub few_places : d.modes * d.moments ≤ most_places
  pub modes_fit : InBits 7 d.modes
  pub moments_fit : InBits 7 d.moments
  pub plain_trust : m.scaled ≡ false → d.trust ≡ 16
  pub trust_fits : Byte d.trust
  -- at most 128 rows and 128 lines, which fits a count of 12 bits, each within its limits
  pub few_rows : length (held_in d.rows) ≤ most_rows
  pub rows_keep : AllByRecursion (RowLimits m d.modes) (held_in d.rows)
  pub few_lines : length (held_in d.lines) ≤ most_lines
  pub lines_keep : AllByRecursion (LineLimits m d.moments d.trust) (held_in d.lines)
  -- a note of at most 4,095 bytes
  pub note_fits : Count (length (held_in d.note))
  pub note_bytes : AllByRecursion Byte (held_in d.note)

-- the most bytes of a file within its limits: a header of 4, a head of 2 and 128 times 8 of rows, as many of lines, and a
-- head of 2 and 4,095 of a note
abbrev pub longest_file : ℕ
longest_file = 6153

-- the board's content that a file describes: the costs of its lines as trust has them
abbrev pub content_of : Meaning → Description → Content
content_of m d =
    record {
      modes = d.modes;
      moments = d.moments;
      rows = held_in d.rows;
      lines = map (trusted_line m d.trust) (held_in d.lines);
    }

-- the note of a file of so many bytes, which ends it; without one an empty part at the file's end
abbrev pub note_at_end : Option (List ℕ) → ℕ → PartRead
note_at_end note size = option_map_or (λ bs. record { bytes = bs; place = size - length bs }) note (record { bytes = []; place = size })

abbrev pub note_of : Description → PartRead
note_of d = note_at_end d.note (length (written d))

-- A description whose bytes these are, that keeps the limits, and whose content and note these are.
pub record Described (m : Meaning) (bytes : List ℕ) (c : Content) (n : PartRead) : Type 0 where
  pub description : Description
  pub laid_out : written description ≡ bytes
  pub keeps : KeepsLimits m description
  pub holds : c ≡ content_of m description
  pub notes : n ≡ note_of description

-- A load accepts, with a content and a note, exactly the files that are a description within the limits with that
-- content and that note.
abbrev pub LoadsExactly : Meaning → List ℕ → Result PartRead LoadFault → Content → Type 0
LoadsExactly m bytes answer after = (c : Content) (n : PartRead) → ((answer ≡ Ok n) × (after ≡ c)) ↔ Described m bytes c n
