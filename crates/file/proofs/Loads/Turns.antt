-- One section more.
use Rattle.std.proofs.Common.{◌≡◌, ℕ, ◌<◌, ◌≤◌, true, false, ◌⊎◌, length, Some, None, Ok, Err, Result, refl, ◌∙◌, inl, inr, arith}
use Rattle.std.proofs.lemmas.List.{length-drop}
use Rattle.std.proofs.lemmas.Bool.Decides.{nat_tests}
use Rattle.costs.specs.Meaning.{Meaning}
use Rattle.file.specs.declared.refusal.LoadFault.{LoadFault}
use Rattle.file.specs.declared.reader.Stage.{Stage}
use Rattle.file.specs.declared.reader.Stage.TheVariants as stage
use Rattle.file.specs.Fields.{head_code}
use Rattle.file.specs.Parts.{PartRead}
use Rattle.file.specs.Sections.{SectionRead, next_section, past}
use Rattle.file.specs.Readers.{ReadSoFar, next_answer, next_after, may_come, following}
use Rattle.file.specs.Records.{go_on}
use Rattle.file.specs.Load.{Loaded, section_added, comes, in_turn, at_end, from_note, from_lines, from_rows}
use Rattle.file.specs.Fillings.{from_stage}

-- what an answered section says
pub record Came (r : ReadSoFar) (f : SectionRead) : Type 0 where
  pub long : 2 ≤ length r.left.bytes
  pub ordered : may_come r.stage (head_code r.left.bytes) ≡ true
  pub is : f ≡ next_section r.left
  pub on : next_after r ≡ record { left = past r.left; stage = following (head_code r.left.bytes) }

pub came : (r : ReadSoFar) (f : SectionRead) → next_answer r ≡ Ok (Some f) → Came r f
came r f e = record { long = grind (arith, nat_tests); ordered = grind (arith, nat_tests); is = grind (arith, nat_tests); on = grind (arith, nat_tests) }

pub came_less : (r : ReadSoFar) (f : SectionRead) → Came r f → length (next_after r).left.bytes < length r.left.bytes
came_less r f h = let l = h.long in rw h.on (simp length-drop (omega arith))

-- which codes may come
rows_codes : (k : ℕ) → may_come stage.Rows k ≡ true → (k ≡ 1) ⊎ ((k ≡ 2) ⊎ (k ≡ 3))
rows_codes k h = grind (arith, nat_tests)

lines_codes : (k : ℕ) → may_come stage.Lines k ≡ true → (k ≡ 2) ⊎ (k ≡ 3)
lines_codes k h = grind (arith, nat_tests)

note_codes : (k : ℕ) → may_come stage.Note k ≡ true → k ≡ 3
note_codes k h = grind (arith, nat_tests)

end_codes : (k : ℕ) → may_come stage.End k ≡ true → ⊥
end_codes k h = grind (arith, nat_tests)

-- no section comes next, or none that may
Stuck : Stage → PartRead → Type 0
Stuck s p = (length p.bytes < 2) ⊎ (may_come s (head_code p.bytes) ≡ false)

module _ (m : Meaning) (trust : ℕ) (p : PartRead) (x : Loaded) where
  -- the section of that code comes next, or not
  turn_taken : (code : ℕ) (next : PartRead → Loaded → Result Loaded LoadFault) → 2 ≤ length p.bytes → head_code p.bytes ≡ code → in_turn m trust code next p x ≡ go_on (section_added m trust (next_section p) x) (next (past p))
  turn_taken code next long e = let t : comes code p ≡ true = grind (arith, nat_tests) in rw t

  turn_passed : (code : ℕ) (next : PartRead → Loaded → Result Loaded LoadFault) → (length p.bytes < 2) ⊎ (head_code p.bytes ≡ code → ⊥) → in_turn m trust code next p x ≡ next p x
  turn_passed code next h = let t : comes code p ≡ false = grind (arith, nat_tests) in rw t

  -- in each stage the sections that may not come are passed over
  pub passes_note : (length p.bytes < 2) ⊎ (head_code p.bytes ≡ 3 → ⊥) → from_note m trust p x ≡ at_end p x
  unfolding from_note
  passes_note h = turn_passed 3 at_end h

  pub passes_lines : (length p.bytes < 2) ⊎ (head_code p.bytes ≡ 2 → ⊥) → from_lines m trust p x ≡ from_note m trust p x
  unfolding from_lines
  passes_lines h = turn_passed 2 (from_note m trust) h

  pub passes_rows : (length p.bytes < 2) ⊎ (head_code p.bytes ≡ 1 → ⊥) → from_rows m trust p x ≡ from_lines m trust p x
  unfolding from_rows
  passes_rows h = turn_passed 1 (from_lines m trust) h

  pub takes_note : 2 ≤ length p.bytes → head_code p.bytes ≡ 3 → from_note m trust p x ≡ go_on (section_added m trust (next_section p) x) (at_end (past p))
  unfolding from_note
  takes_note long e = turn_taken 3 at_end long e

  pub takes_lines : 2 ≤ length p.bytes → head_code p.bytes ≡ 2 → from_lines m trust p x ≡ go_on (section_added m trust (next_section p) x) (from_note m trust (past p))
  unfolding from_lines
  takes_lines long e = turn_taken 2 (from_note m trust) long e

  pub takes_rows : 2 ≤ length p.bytes → head_code p.bytes ≡ 1 → from_rows m trust p x ≡ go_on (section_added m trust (next_section p) x) (from_lines m trust (past p))
  unfolding from_rows
  takes_rows long e = turn_taken 1 (from_lines m trust) long e

  -- where none may come, the file has to end
  stage_stuck : (s : Stage) → Stuck s p → from_stage m trust s p x ≡ at_end p x
  unfolding Stuck
  stage_stuck stage.Rows h = passes_rows (grind (arith, nat_tests)) ∙ (passes_lines (grind (arith, nat_tests)) ∙ passes_note (grind (arith, nat_tests)))
  stage_stuck stage.Lines h = passes_lines (grind (arith, nat_tests)) ∙ passes_note (grind (arith, nat_tests))
  stage_stuck stage.Note h = passes_note (grind (arith, nat_tests))
  stage_stuck stage.End h = refl

  -- where one may come, it is taken
  taken : (s : Stage) (k : ℕ) → 2 ≤ length p.bytes → head_code p.bytes ≡ k → may_come s k ≡ true → from_stage m trust s p x ≡ go_on (section_added m trust (next_section p) x) (from_stage m trust (following k) (past p))
  taken stage.Rows k long e h =
      elim (rows_codes k h) [
        | inl is ↦ rw is (takes_rows long (e ∙ is))
        | inr others ↦ elim others [
          | inl is ↦ rw is (passes_rows (inr (λ z. omega arith)) ∙ takes_lines long (e ∙ is))
          | inr is ↦ rw is (passes_rows (inr (λ z. omega arith)) ∙ (passes_lines (inr (λ z. omega arith)) ∙ takes_note long (e ∙ is)))
        ]
      ]
  taken stage.Lines k long e h =
      elim (lines_codes k h) [
        | inl is ↦ rw is (takes_lines long (e ∙ is))
        | inr is ↦ rw is (passes_lines (inr (λ z. omega arith)) ∙ takes_note long (e ∙ is))
      ]
  taken stage.Note k long e h = let is = note_codes k h in rw is (takes_note long (e ∙ is))
  taken stage.End k long e h = absurd (end_codes k h)

-- the answers of a reader: the end, a refusal, a section
module _ (m : Meaning) (trust : ℕ) (r : ReadSoFar) (x : Loaded) where
  pub reader_end : next_answer r ≡ Ok None → from_stage m trust r.stage r.left x ≡ Ok x
  unfolding at_end Stuck
  reader_end e = let z : length r.left.bytes ≡ 0 = grind (arith, nat_tests) in stage_stuck m trust r.left x r.stage (inl (omega arith)) ∙ rw z

  pub reader_refused : (f : LoadFault) → next_answer r ≡ Err f → from_stage m trust r.stage r.left x ≡ Err f
  unfolding at_end Stuck
  reader_refused f e = let h : Stuck r.stage r.left = grind (arith, nat_tests) in stage_stuck m trust r.left x r.stage h ∙ grind (arith, nat_tests)

  pub reader_more : (f : SectionRead) → next_answer r ≡ Ok (Some f) → from_stage m trust r.stage r.left x ≡ go_on (section_added m trust f x) (from_stage m trust (next_after r).stage (next_after r).left)
  reader_more f e = let h = came r f e in rw (h.on, h.is) (taken m trust r.left x r.stage _ h.long refl h.ordered)
