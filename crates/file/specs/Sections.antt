-- The sections of a file.
use Rattle.std.specs.Prelude.{ℕ, ◌+◌, ◌-◌, ◌*◌, min, cond, List, length, take, drop, ◌==◌}
use Rattle.file.specs.Fields.{head_code, head_count}
use Rattle.file.specs.Parts.{PartRead}

-- the codes of the sections
abbrev pub rows_code : ℕ
rows_code = 1

abbrev pub lines_code : ℕ
lines_code = 2

abbrev pub note_code : ℕ
note_code = 3

-- how many bytes a section has: eight for a row or a line, one for each of a note
abbrev pub section_size : ℕ → ℕ → ℕ
section_size code count = cond (code == note_code) count (8 * count)

-- a section: its code, its part of the file, and its count
pub record SectionRead : Type 0 where
  pub code : ℕ
  pub part : PartRead
  pub count : ℕ

-- how many bytes the section has whose head comes next
abbrev pub head_size : List ℕ → ℕ
head_size bs = section_size (head_code bs) (head_count bs)

-- the section whose head comes next: its part is after the head so many bytes, or as many as the file has left
abbrev pub next_section : PartRead → SectionRead
next_section p =
    record {
      code = head_code p.bytes;
      part = record { bytes = take (head_size p.bytes) (drop 2 p.bytes); place = p.place + 2 };
      count = head_count p.bytes;
    }

-- what is left after it
abbrev pub past : PartRead → PartRead
past p =
    record {
      bytes = drop (head_size p.bytes) (drop 2 p.bytes);
      place = p.place + 2 + min (head_size p.bytes) (length p.bytes - 2);
    }
