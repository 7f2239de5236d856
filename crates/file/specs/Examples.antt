-- Worked examples of the layout, of trust and of a load.
use Rattle.std.specs.Prelude.{◌≡◌, ℕ, List, [], ◌∷◌, Some, None, Ok, Err}
use Rattle.std.specs.List.{slice_get}
use Rattle.costs.specs.Kinds.{points, severity}
use Rattle.board.specs.declared.row.RowKind.TheVariants.{Plain, End}
use Rattle.board.specs.declared.row.Row.{Row}
use Rattle.board.specs.Examples.{row, flight}
use Rattle.file.specs.declared.refusal.FileRefusal.TheVariants.{CutShort, WrongLetter, WrongSection}
use Rattle.file.specs.Trust.{trusted}
use Rattle.file.specs.Fields.{header_read, row_read}
use Rattle.file.specs.Parts.{fault_at}
use Rattle.file.specs.Load.{loaded, load_answer}
use Rattle.file.specs.Layout.{Description, header_word, row_word, written}

-- an end row at mode 0
abbrev pub end_row : Row
end_row = row End 0 0 0 0 0

-- row 1 of the worked flight: plain, from mode 1 to mode 1, of event 1, action 7 and cost 4
abbrev pub plain_row : Row
plain_row = row Plain 1 1 1 7 4

-- one mode, one moment, an end row, no section of lines, and the note 'hi'
abbrev pub small : Description
small = record { letter = 80; modes = 1; moments = 1; trust = 16; rows = Some (end_row ∷ []); lines = None; note = Some (104 ∷ 105 ∷ []) }

-- its bytes: the header, a head of code 1 and count 1, the row, a head of code 3 and count 2, the note
abbrev pub small_bytes : List ℕ
small_bytes = 80 ∷ 2 ∷ 4 ∷ 16 ∷ 16 ∷ 1 ∷ 192 ∷ 0 ∷ 0 ∷ 0 ∷ 0 ∷ 0 ∷ 0 ∷ 0 ∷ 48 ∷ 2 ∷ 104 ∷ 105 ∷ []

pub record LayoutExamples : Type 0 where
  -- points, three modes, three moments, trust 16
  pub header_written : header_word 80 3 3 16 ≡ 0x50060C10
  pub header_taken : header_read points 0x50060C10 ≡ Ok (record { modes = 3; moments = 3; trust = 16 })
  -- row 1 of the flight, which is written as this word, and read from it
  pub row_held : slice_get flight.rows 1 ≡ Some plain_row
  pub row_written : row_word plain_row ≡ 0x0104041C00000004
  pub row_taken : row_read 0x0104041C00000004 ≡ Ok plain_row
  -- 5 under trust 8 is 2 and a half, which becomes 3; under trust 0 it is 0, and the worst is the worst
  pub halves_up : trusted points 8 5 ≡ 3
  pub no_trust : trusted points 0 5 ≡ 0
  pub worst_stays : trusted points 0 4294967295 ≡ 4294967295
  pub above_is_worst : trusted points 17 4294967294 ≡ 4294967295
  -- trust does not scale severity
  pub unscaled : trusted severity 8 5 ≡ 5
  -- a whole file, the same under another kind, and no file at all
  pub small_written : written small ≡ small_bytes
  pub small_loaded : loaded points small_bytes ≡ Ok (record { content = record { modes = 1; moments = 1; rows = end_row ∷ []; lines = [] }; note = record { bytes = 104 ∷ 105 ∷ []; place = 16 } })
  pub other_kind : load_answer severity small_bytes ≡ Err (fault_at WrongLetter 0)
  pub nothing : load_answer points [] ≡ Err (fault_at CutShort 0)
  -- a header and one byte more; two bytes more that are no section's head
  pub one_more : load_answer points (80 ∷ 2 ∷ 4 ∷ 16 ∷ 255 ∷ []) ≡ Err (fault_at CutShort 4)
  pub no_section : load_answer points (80 ∷ 2 ∷ 4 ∷ 16 ∷ 255 ∷ 0 ∷ []) ≡ Err (fault_at WrongSection 4)
