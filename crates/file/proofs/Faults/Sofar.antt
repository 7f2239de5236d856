-- What a file describes so far, section by section.
use Rattle.std.proofs.Common.{◌≡◌, ℕ, ◌+◌, ◌*◌, ◌≤◌, List, [], ◌++◌, length, drop, Some, None, Option, Result, refl, ap, ◌∙◌, append_assoc, append-nil, arith, length-append}
use Rattle.std.specs.List.{AllByRecursion}
use Rattle.costs.specs.Meaning.{Meaning}
use Rattle.board.specs.declared.row.Row.{Row}
use Rattle.board.specs.declared.row.Line.{Line}
use Rattle.board.specs.Content.{Content}
use Rattle.file.specs.declared.refusal.LoadFault.{LoadFault}
use Rattle.file.specs.Fields.{head_code, head_count}
use Rattle.file.specs.Parts.{PartRead}
use Rattle.file.specs.Sections.{rows_code, lines_code, note_code, next_section}
use Rattle.file.specs.Records.{go_on, row_record, line_record, records_added}
use Rattle.file.specs.Load.{Loaded, with_content, section_added}
use Rattle.file.specs.Layout.{Description, row_bytes, line_bytes, one_byte, section_written, header_written, written, Byte, RowLimits, LineLimits, KeepsLimits, Count}
use Rattle.file.proofs.Faults.Stops.{records_front}
use Rattle.file.proofs.Loads.Tails.{rows_section, lines_section}

-- the header of d, and these sections
abbrev pub described : Description → Option (List Row) → Option (List Line) → Option (List ℕ) → Description
described d rows lines note =
    record { letter = d.letter; modes = d.modes; moments = d.moments; trust = d.trust; rows = rows; lines = lines; note = note }

-- one section more within the limits
pub keeps_rows : {m : Meaning} (d : Description) (rs : List Row) → KeepsLimits m (described d None None None) → length rs ≤ 128 → AllByRecursion (RowLimits m d.modes) rs → KeepsLimits m (described d (Some rs) None None)
keeps_rows d rs k few keep =
    record {
      own_letter = k.own_letter;
      letter_fits = k.letter_fits;
      some_place = k.some_place;
      few_places = k.few_places;
      modes_fit = k.modes_fit;
      moments_fit = k.moments_fit;
      plain_trust = k.plain_trust;
      trust_fits = k.trust_fits;
      few_rows = few;
      rows_keep = keep;
      few_lines = k.few_lines;
      lines_keep = k.lines_keep;
      note_fits = k.note_fits;
      note_bytes = k.note_bytes;
    }

pub keeps_lines : {m : Meaning} (d : Description) (rows : Option (List Row)) (ls : List Line) → KeepsLimits m (described d rows None None) → length ls ≤ 128 → AllByRecursion (LineLimits m d.moments d.trust) ls → KeepsLimits m (described d rows (Some ls) None)
keeps_lines d rows ls k few keep =
    record {
      own_letter = k.own_letter;
      letter_fits = k.letter_fits;
      some_place = k.some_place;
      few_places = k.few_places;
      modes_fit = k.modes_fit;
      moments_fit = k.moments_fit;
      plain_trust = k.plain_trust;
      trust_fits = k.trust_fits;
      few_rows = k.few_rows;
      rows_keep = k.rows_keep;
      few_lines = few;
      lines_keep = keep;
      note_fits = k.note_fits;
      note_bytes = k.note_bytes;
    }

pub keeps_note : {m : Meaning} (d : Description) (rows : Option (List Row)) (lines : Option (List Line)) (bs : List ℕ) → KeepsLimits m (described d rows lines None) → Count (length bs) → AllByRecursion Byte bs → KeepsLimits m (described d rows lines (Some bs))
keeps_note d rows lines bs k few each =
    record {
      own_letter = k.own_letter;
      letter_fits = k.letter_fits;
      some_place = k.some_place;
      few_places = k.few_places;
      modes_fit = k.modes_fit;
      moments_fit = k.moments_fit;
      plain_trust = k.plain_trust;
      trust_fits = k.trust_fits;
      few_rows = k.few_rows;
      rows_keep = k.rows_keep;
      few_lines = k.few_lines;
      lines_keep = k.lines_keep;
      note_fits = few;
      note_bytes = each;
    }

-- the sections of a description, with something behind them
abbrev pub sections_on : Option (List Row) → Option (List Line) → Option (List ℕ) → List ℕ → List ℕ
sections_on rows lines note rest =
    section_written rows_code row_bytes rows ++ (section_written lines_code line_bytes lines ++ (section_written note_code one_byte note ++ rest))

three_on : (a b c rest : List ℕ) → (a ++ (b ++ c)) ++ rest ≡ a ++ (b ++ (c ++ rest))
three_on a b c rest = append_assoc a (b ++ c) rest ∙ ap (λ (ys : List ℕ). a ++ ys) (append_assoc b c rest)

pub written_on : (d : Description) (rows : Option (List Row)) (lines : Option (List Line)) (note : Option (List ℕ)) (rest : List ℕ) → written (described d rows lines note) ++ rest ≡ header_written d ++ sections_on rows lines note rest
written_on d rows lines note rest =
    ap (λ (ys : List ℕ). header_written d ++ ys) (three_on (section_written rows_code row_bytes rows) (section_written lines_code line_bytes lines) (section_written note_code one_byte note) rest)

-- a description and the head of a note, with something behind them
begun_three : (a b c rest : List ℕ) → ((a ++ (b ++ [])) ++ c) ++ rest ≡ a ++ (b ++ (c ++ rest))
begun_three a b c rest =
    ap (λ (ys : List ℕ). ((a ++ ys) ++ c) ++ rest) (append-nil b) ∙ (append_assoc (a ++ b) c rest ∙ append_assoc a b (c ++ rest))

pub note_begun_on : (d : Description) (rows : Option (List Row)) (lines : Option (List Line)) (head rest : List ℕ) → (written (described d rows lines None) ++ head) ++ rest ≡ header_written d ++ (section_written rows_code row_bytes rows ++ (section_written lines_code line_bytes lines ++ (head ++ rest)))
note_begun_on d rows lines head rest =
    ap (λ (ys : List ℕ). header_written d ++ ys) (begun_three (section_written rows_code row_bytes rows) (section_written lines_code line_bytes lines) head rest)

-- where something ends
pub place_of : (front rest bs : List ℕ) (place : ℕ) → front ++ rest ≡ bs → place + length rest ≡ length bs → place ≡ length front
place_of front rest bs place laid ends = omega (arith, length-append front rest, ap length laid)

-- what a section of rows or of lines makes of a content
module _ (m : Meaning) (trust : ℕ) (p : PartRead) (x : Loaded) (c : Content) (same : x.content ≡ c) where
  pub rows_added : head_code p.bytes ≡ rows_code → section_added m trust (next_section p) x ≡ go_on (records_added (row_record m) (head_count p.bytes) (drop 2 p.bytes) (p.place + 2) c) (with_content x)
  rows_added h =
      rows_section m trust p x h
      ∙ ap (λ (o : Result Content LoadFault). go_on o (with_content x)) (records_front (row_record m) (head_count p.bytes) (8 * head_count p.bytes) (drop 2 p.bytes) (p.place + 2) x.content refl ∙ ap (records_added (row_record m) (head_count p.bytes) (drop 2 p.bytes) (p.place + 2)) same)

  pub lines_added : head_code p.bytes ≡ lines_code → section_added m trust (next_section p) x ≡ go_on (records_added (line_record m trust) (head_count p.bytes) (drop 2 p.bytes) (p.place + 2) c) (with_content x)
  lines_added h =
      lines_section m trust p x h
      ∙ ap (λ (o : Result Content LoadFault). go_on o (with_content x)) (records_front (line_record m trust) (head_count p.bytes) (8 * head_count p.bytes) (drop 2 p.bytes) (p.place + 2) x.content refl ∙ ap (records_added (line_record m trust) (head_count p.bytes) (drop 2 p.bytes) (p.place + 2)) same)
