-- Bit fields, most significant first, as they are read from a file's bytes.
use Rattle.std.specs.Prelude.{ℕ, ◌+◌, ◌*◌, ◌/◌, ◌%◌, ◌^◌, cond, ◌||◌, List, Ok, Err, Result, ◌==◌, slice_index}
use Rattle.costs.specs.Meaning.{Meaning}
use Rattle.board.specs.declared.row.Row.{Row}
use Rattle.board.specs.declared.row.Line.{Line}
use Rattle.board.specs.Rows.{kind_of_bits}
use Rattle.file.specs.declared.fields.Header.{Header}
use Rattle.file.specs.declared.refusal.FileRefusal.{FileRefusal}
use Rattle.file.specs.declared.refusal.FileRefusal.TheVariants.{WrongLetter, NotZero, WrongTrust}

-- the field of `width` bits that has `below` bits after it
abbrev pub field : ℕ → ℕ → ℕ → ℕ
field word below width = word / 2 ^ below % 2 ^ width

-- the first 2 bytes of a list as one number, the first the most significant
abbrev pub word2 : List ℕ → ℕ
word2 bs = slice_index bs 0 * 256 + slice_index bs 1

-- the first 4
abbrev pub word4 : List ℕ → ℕ
word4 bs = ((slice_index bs 0 * 256 + slice_index bs 1) * 256 + slice_index bs 2) * 256 + slice_index bs 3

-- the first 8
abbrev pub word8 : List ℕ → ℕ
word8 bs = word4 bs * 4294967296 + (((slice_index bs 4 * 256 + slice_index bs 5) * 256 + slice_index bs 6) * 256 + slice_index bs 7)

-- A header: the letter, M, T, two zero bits, trust.
abbrev pub header_fields : ℕ → Header
header_fields w = record { modes = field w 17 7; moments = field w 10 7; trust = field w 0 8 }

-- what a header of the kind says, or why it is none: first the letter (21), then the zero bits (22), then trust (23)
abbrev pub header_read : Meaning → ℕ → Result Header FileRefusal
header_read m w =
    cond (field w 24 8 == m.letter)
    (cond (field w 8 2 == 0) (cond (m.scaled || field w 0 8 == 16) (Ok (header_fields w)) (Err WrongTrust)) (Err NotZero))
    (Err WrongLetter)

-- A section head: its code,
abbrev pub head_code : List ℕ → ℕ
head_code bs = field (word2 bs) 12 4

-- and its count
abbrev pub head_count : List ℕ → ℕ
head_count bs = field (word2 bs) 0 12

-- A row: its kind, from, to, label, action, two zero bits, cost.
abbrev pub row_fields : ℕ → Row
row_fields w =
    record { kind = kind_of_bits (field w 62 2); from = field w 56 6; to = field w 50 6; label = field w 42 8; action = field w 34 8; cost = field w 0 32 }

-- the row, or 22 where a zero bit is 1
abbrev pub row_read : ℕ → Result Row FileRefusal
row_read w = cond (field w 32 2 == 0) (Ok (row_fields w)) (Err NotZero)

-- A line: from, to, event, twelve zero bits, cost.
abbrev pub line_fields : ℕ → Line
line_fields w = record { from = field w 58 6; to = field w 52 6; event = field w 44 8; cost = field w 0 32 }

-- the line, or 22 where a zero bit is 1
abbrev pub line_read : ℕ → Result Line FileRefusal
line_read w = cond (field w 32 12 == 0) (Ok (line_fields w)) (Err NotZero)
