-- A file that loads has at most 6,153 bytes.
use Rattle.std.proofs.Common.{◌≡◌, ℕ, ◌≤◌, List, ◌++◌, length, Some, None, Ok, Err, Option, Result, IfOk, refl, ap, subst, arith, length-append}
use Rattle.costs.specs.Meaning.{Meaning}
use Rattle.board.specs.Content.{Content}
use Rattle.file.specs.declared.part.Part.{Part}
use Rattle.file.specs.declared.refusal.LoadFault.{LoadFault}
use Rattle.file.specs.Parts.{part_read, answered}
use Rattle.file.specs.Sections.{rows_code, lines_code, note_code}
use Rattle.file.specs.Layout.{Description, held_in, row_bytes, line_bytes, one_byte, section_written, written, KeepsLimits, LoadsExactly, longest_file, Count}
use Rattle.file.proofs.Loads.Tails.{each_length, bytes_written}

-- a section of at most 128 rows or lines, each of eight bytes
records_length : {A : Type 0} (code : ℕ) (f : A → List ℕ) → ((x : A) → length (f x) ≡ 8) → (o : Option (List A)) → length (held_in o) ≤ 128 → length (section_written code f o) ≤ 1026
records_length code f h None few = omega arith
records_length code f h (Some xs) few = omega (arith, each_length f h xs)

-- a note of at most 4,095 bytes
note_length : (o : Option (List ℕ)) → Count (length (held_in o)) → length (section_written note_code one_byte o) ≤ 4097
note_length None few = omega arith
note_length (Some bs) few = omega (arith, ap length (bytes_written bs))

written_length : (m : Meaning) (d : Description) → KeepsLimits m d → length (written d) ≤ longest_file
written_length m d k =
    let rows = section_written rows_code row_bytes d.rows in
    let lines = section_written lines_code line_bytes d.lines in
    let note = section_written note_code one_byte d.note in
    let a = records_length rows_code row_bytes (λ r. refl) d.rows k.few_rows in
    let b = records_length lines_code line_bytes (λ l. refl) d.lines k.few_lines in
    let c = note_length d.note k.note_fits in
    omega (arith, length-append rows (lines ++ note), length-append lines note)

pub no_longer : (m : Meaning) (bs : List ℕ) (r : Result Part LoadFault) (after : Content) → LoadsExactly m bs (answered r) after → IfOk r (λ p. length bs ≤ longest_file)
no_longer m bs (Ok p) after exact =
    let d = (exact after (part_read p)).0 (refl, refl) in
    subst (λ (ys : List ℕ). length ys ≤ longest_file) d.laid_out (written_length m d.description d.keeps)
no_longer m bs (Err e) after exact = tt
