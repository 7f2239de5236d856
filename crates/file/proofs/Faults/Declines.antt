-- Where a load is declined, the file is described up to the fault's place, and the part there breaks the fault's rule.
use Rattle.std.proofs.Common.{◌≡◌, ℕ, ◌+◌, ◌*◌, ◌<◌, ◌≤◌, Bool, true, false, ◌||◌, eqb, ltb, ◌⊎◌, List, ◌++◌, length, take, drop, Some, None, Ok, Err, Option, Result, sym, refl, ap, ◌∙◌, inl, inr, append_assoc, arith, length-append}
use Rattle.std.proofs.lemmas.List.{length-take, length-drop}
use Rattle.std.proofs.lemmas.Bool.{eqb-true, true≢false, lt-ltb, cases_lt}
use Rattle.std.specs.List.{flat_map, AllByRecursion}
use Rattle.costs.specs.Meaning.{Meaning}
use Rattle.board.specs.declared.row.Row.{Row}
use Rattle.board.specs.declared.row.Line.{Line}
use Rattle.board.specs.Content.{Content}
use Rattle.board.specs.Calls.{row_after}
use Rattle.file.specs.declared.reader.Stage.{Stage}
use Rattle.file.specs.declared.reader.Stage.TheVariants as stage
use Rattle.file.specs.declared.refusal.FileRefusal.TheVariants.{CutShort}
use Rattle.file.specs.declared.refusal.LoadFault.{LoadFault}
use Rattle.file.specs.Fields.{word2, head_code, head_count}
use Rattle.file.specs.Parts.{PartRead, fault_at}
use Rattle.file.specs.Sections.{rows_code, lines_code, note_code, next_section, past}
use Rattle.file.specs.Readers.{may_come}
use Rattle.file.specs.Records.{go_on, row_record, line_record, record_next, records_added}
use Rattle.file.specs.Load.{Loaded, loaded_as, with_content, section_added, at_end, from_note, from_lines, from_rows}
use Rattle.file.specs.Layout.{Description, in_bytes, head_word, row_word, line_word, row_bytes, line_bytes, one_byte, section_begun, section_written, header_written, written, Byte, KeepsLimits, content_of}
use Rattle.file.specs.Declined.{at_head, at_row, at_line, at_note, before, may_follow, row_part_refusal, line_part_refusal, Declined}
use Rattle.file.proofs.Loads.Bytes.{each_take, each_drop}
use Rattle.file.proofs.Loads.Words.{RowFits, row_word_fits, LineFits, line_word_fits, count_below}
use Rattle.file.proofs.Loads.Turns.{passes_note, passes_lines, passes_rows, takes_note, takes_lines, takes_rows}
use Rattle.file.proofs.Loads.Limits.{TakesRow, TakesLine, line_put, row_forth, row_back, line_forth, line_back, rows_limited, lines_limited, rows_back, lines_back}
use Rattle.file.proofs.Loads.Heads.{next_or_not, past_ends, laid_head, laid_section}
use Rattle.file.proofs.Loads.Tails.{each_length, bytes_written, note_section, past_records, past_note}
use Rattle.file.proofs.Loads.Beyond.{note_kept}
use Rattle.file.proofs.Faults.Stops.{stops}
use Rattle.file.proofs.Faults.Rules.{refused_with, row_rules, line_rules, head_stops}
use Rattle.file.proofs.Faults.Sofar.{described, keeps_rows, keeps_lines, keeps_note, sections_on, written_on, note_begun_on, place_of, rows_added, lines_added}

-- no section of that code comes next
abbrev NotNext : ℕ → PartRead → Type 0
NotNext code p = (length p.bytes < 2) ⊎ (head_code p.bytes ≡ code → ⊥)

-- The file is described as far as p, with the content that x has.
pub record DescribedUpTo (m : Meaning) (bs : List ℕ) (d : Description) (rows : Option (List Row)) (lines : Option (List Line)) (note : Option (List ℕ)) (p : PartRead) (x : Loaded) : Type 0 where
  pub keeps : KeepsLimits m (described d rows lines note)
  pub laid : header_written d ++ sections_on rows lines note p.bytes ≡ bs
  pub ends : p.place + length p.bytes ≡ length bs
  pub content : x.content ≡ content_of m (described d rows lines note)
  pub bytes : AllByRecursion Byte p.bytes

-- what may follow these sections is what may come at that stage
pub Passed : Stage → Option (List Row) → Option (List Line) → Option (List ℕ) → PartRead → Type 0
Passed s rows lines note p = 2 ≤ length p.bytes → may_follow rows lines note (head_code p.bytes) ≡ true → may_come s (head_code p.bytes) ≡ true

not_true : (b : Bool) → (b ≡ true → ⊥) → b ≡ false
not_true true h = absurd (h refl)
not_true false h = refl

or_right : (a b : Bool) → (a ≡ true → ⊥) → (a || b) ≡ true → b ≡ true
or_right true b h e = absurd (h refl)
or_right false b h e = e

-- a code that does not come next
other_code : (code : ℕ) (p : PartRead) → NotNext code p → 2 ≤ length p.bytes → eqb (head_code p.bytes) code ≡ true → ⊥
other_code code p (inl short) long e = omega arith
other_code code p (inr other) long e = other (eqb-true (head_code p.bytes) code e)

module _ (rows : Option (List Row)) (lines : Option (List Line)) (note : Option (List ℕ)) (p : PartRead) where
  passed_rows : NotNext 1 p → Passed stage.Rows rows lines note p → Passed stage.Lines rows lines note p
  unfolding Passed
  passed_rows other h long e = or_right (eqb (head_code p.bytes) 1) _ (other_code 1 p other long) (h long e)

  passed_lines : NotNext 2 p → Passed stage.Lines rows lines note p → Passed stage.Note rows lines note p
  unfolding Passed
  passed_lines other h long e = or_right (eqb (head_code p.bytes) 2) _ (other_code 2 p other long) (h long e)

  passed_note : NotNext 3 p → Passed stage.Note rows lines note p → Passed stage.End rows lines note p
  unfolding Passed
  passed_note other h long e = absurd (other_code 3 p other long (h long e))

module _ (m : Meaning) (bs : List ℕ) (d : Description) where
  -- no section may come
  head_declined : (rows : Option (List Row)) (lines : Option (List Line)) (note : Option (List ℕ)) (p : PartRead) (x : Loaded) (f : LoadFault) → DescribedUpTo m bs d rows lines note p x → Passed stage.End rows lines note p → at_end p x ≡ Err f → Declined m bs f
  unfolding Passed
  head_declined rows lines note p x f r passed h =
      let whole = described d rows lines note in
      let t = head_stops whole p x f h (λ long. not_true (may_follow rows lines note (head_code p.bytes)) (λ e. true≢false (sym (passed long e)))) in
      let laid : written whole ++ p.bytes ≡ bs = written_on d rows lines note p.bytes ∙ r.laid in
      record {
        due = at_head whole;
        keeps = r.keeps;
        rest = p.bytes;
        laid_out = laid;
        place = t.0 ∙ place_of (written whole) p.bytes bs p.place laid r.ends;
        broken = t.1;
      }

  module _ (rows : Option (List Row)) (lines : Option (List Line)) where
    -- the note is cut short
    note_cut : (p : PartRead) (x : Loaded) (f : LoadFault) → DescribedUpTo m bs d rows lines None p x → 2 ≤ length p.bytes → head_code p.bytes ≡ note_code → length (drop 2 p.bytes) < head_count p.bytes → go_on (section_added m d.trust (next_section p) x) (at_end (past p)) ≡ Err f → Declined m bs f
    note_cut p x f r long is short h =
        let n = head_count p.bytes in
        let rest = drop 2 p.bytes in
        let cut = lt-ltb (length (take n rest)) n (omega (arith, length-take n rest)) in
        let added : section_added m d.trust (next_section p) x ≡ Err (fault_at CutShort (p.place + 2)) = note_section m d.trust p x is ∙ rw cut in
        let fault : f ≡ fault_at CutShort (p.place + 2) = cc (sym (ap (λ (o : Result Loaded LoadFault). go_on o (at_end (past p))) added) ∙ h) in
        let whole = described d rows lines None in
        let due = at_note whole n in
        let split = laid_head p.bytes note_code n long r.bytes is refl in
        let laid : before due ++ rest ≡ bs =
        note_begun_on d rows lines (in_bytes 2 (head_word note_code n)) rest ∙ (ap (λ (ys : List ℕ). header_written d ++ (section_written rows_code row_bytes rows ++ (section_written lines_code line_bytes lines ++ ys))) (sym split) ∙ r.laid) in
        let ends : p.place + 2 + length rest ≡ length bs = omega (arith, r.ends, length-drop 2 p.bytes) in
        let broken : ltb (length rest) n ≡ true = lt-ltb (length rest) n short in
        record {
          due = due;
          keeps = (r.keeps, refl, count_below (word2 p.bytes));
          rest = rest;
          laid_out = laid;
          place = ap (λ (z : LoadFault). z.place) fault ∙ place_of (before due) rest bs (p.place + 2) laid ends;
          broken = rw broken (ap (λ (z : LoadFault). Some z.refusal) (sym fault));
        }

    -- the note is whole, and something follows it
    note_whole : (p : PartRead) (x : Loaded) (f : LoadFault) → DescribedUpTo m bs d rows lines None p x → 2 ≤ length p.bytes → head_code p.bytes ≡ note_code → head_count p.bytes ≤ length (drop 2 p.bytes) → go_on (section_added m d.trust (next_section p) x) (at_end (past p)) ≡ Err f → Declined m bs f
    unfolding Passed
    note_whole p x f r long is whole h =
        let n = head_count p.bytes in
        let front = take n (drop 2 p.bytes) in
        let y = loaded_as x.content (next_section p).part in
        let added = note_kept m d.trust p x is (omega (arith, length-drop 2 p.bytes)) in
        let size : length front ≡ n = omega (arith, length-take n (drop 2 p.bytes)) in
        let rest = (past p).bytes in
        let split : p.bytes ≡ section_begun note_code one_byte (length front) front ++ rest =
        laid_section p.bytes note_code (length front) n front long r.bytes is size refl
        ∙ (ap (λ (ys : List ℕ). in_bytes 2 (head_word note_code (length front)) ++ (front ++ ys)) (sym (past_note m d.trust p x is))
        ∙ ap (λ (ys : List ℕ). in_bytes 2 (head_word note_code (length front)) ++ (ys ++ rest)) (sym (bytes_written front))) in
        let each = each_drop 2 p.bytes r.bytes in
        head_declined rows lines (Some front) (past p) y f
        (record {
          keeps = keeps_note d rows lines front r.keeps (omega (arith, count_below (word2 p.bytes))) (each_take n (drop 2 p.bytes) each);
          laid = ap (λ (ys : List ℕ). header_written d ++ (section_written rows_code row_bytes rows ++ (section_written lines_code line_bytes lines ++ ys))) (sym split) ∙ r.laid;
          ends = past_ends p long ∙ r.ends;
          content = r.content;
          bytes = each_drop _ (drop 2 p.bytes) each;
        })
        (λ l e. absurd (true≢false (sym e)))
        (sym (ap (λ (o : Result Loaded LoadFault). go_on o (at_end (past p))) added) ∙ h)

    note_stops : (p : PartRead) (x : Loaded) (f : LoadFault) → DescribedUpTo m bs d rows lines None p x → Passed stage.Note rows lines None p → from_note m d.trust p x ≡ Err f → Declined m bs f
    note_stops p x f r passed h =
        elim (next_or_not note_code p.bytes) [
          | inl next ↦ elim (cases_lt (length (drop 2 p.bytes)) (head_count p.bytes)) [
            | inl short ↦ note_cut p x f r next.0 next.1 short (sym (takes_note m d.trust p x next.0 next.1) ∙ h)
            | inr whole ↦ note_whole p x f r next.0 next.1 whole (sym (takes_note m d.trust p x next.0 next.1) ∙ h)
          ]
          | inr other ↦ head_declined rows lines None p x f r (passed_note rows lines None p other passed) (sym (passes_note m d.trust p x other) ∙ h)
        ]

  -- lines come next, and stop among themselves
  lines_cut : (rows : Option (List Row)) (p : PartRead) (x : Loaded) (f : LoadFault) → DescribedUpTo m bs d rows None None p x → 2 ≤ length p.bytes → head_code p.bytes ≡ lines_code → records_added (line_record m d.trust) (head_count p.bytes) (drop 2 p.bytes) (p.place + 2) (content_of m (described d rows None None)) ≡ Err f → Declined m bs f
  lines_cut rows p x f r long is e =
      let n = head_count p.bytes in
      let c = content_of m (described d rows None None) in
      let each = each_drop 2 p.bytes r.bytes in
      let s = stops (line_record m d.trust) line_word LineFits (TakesLine m d.trust) (line_put m d.trust) line_word_fits (line_forth m d.trust) (line_back m d.trust) n (drop 2 p.bytes) (p.place + 2) c f each e in
      let ls = s.entries in
      let k = lines_limited m d.trust ls c s.content (omega arith) s.run in
      let whole = described d rows (Some ls) None in
      let due = at_line whole n in
      let split : p.bytes ≡ section_begun lines_code line_bytes n ls ++ s.rest =
      laid_head p.bytes lines_code n long r.bytes is refl ∙ ap (λ (ys : List ℕ). in_bytes 2 (head_word lines_code n) ++ ys) s.laid in
      let laid : before due ++ s.rest ≡ bs =
      ap (λ (ys : List ℕ). header_written d ++ ys) (append_assoc (section_written rows_code row_bytes rows) (section_begun lines_code line_bytes n ls) s.rest)
      ∙ (ap (λ (ys : List ℕ). header_written d ++ (section_written rows_code row_bytes rows ++ ys)) (sym split) ∙ r.laid) in
      let ends : p.place + 2 + 8 * length ls + length s.rest ≡ length bs = omega (arith, r.ends, ap length split, length-append (flat_map line_bytes ls) s.rest, each_length line_bytes (λ l. refl) ls) in
      let broken = refused_with (line_part_refusal m d.trust (content_of m whole) s.rest) _ s.refusal (sym (line_rules m d.trust (content_of m whole) s.rest) ∙ (ap (λ (z : Content). record_next (line_record m d.trust) s.rest z) (sym k.2) ∙ s.broken)) in
      record {
        due = due;
        keeps = (keeps_lines d rows ls r.keeps (omega (arith, k.0)) k.1, refl, s.more, count_below (word2 p.bytes));
        rest = s.rest;
        laid_out = laid;
        place = ap (λ (z : LoadFault). z.place) s.is ∙ place_of (before due) s.rest bs (p.place + 2 + 8 * length ls) laid ends;
        broken = broken ∙ ap (λ (z : LoadFault). Some z.refusal) (sym s.is);
      }

  -- lines are whole, and something behind them is refused
  lines_whole : (rows : Option (List Row)) (p : PartRead) (x : Loaded) (f : LoadFault) (c : Content) → DescribedUpTo m bs d rows None None p x → 2 ≤ length p.bytes → head_code p.bytes ≡ lines_code → records_added (line_record m d.trust) (head_count p.bytes) (drop 2 p.bytes) (p.place + 2) (content_of m (described d rows None None)) ≡ Ok c → from_note m d.trust (past p) (loaded_as c x.note) ≡ Err f → Declined m bs f
  unfolding Passed
  lines_whole rows p x f c r long is e h =
      let n = head_count p.bytes in
      let each = each_drop 2 p.bytes r.bytes in
      let t = lines_back m d.trust n (drop 2 p.bytes) (p.place + 2) (content_of m (described d rows None None)) c each (omega arith) e in
      let ls = t.lines in
      let split : p.bytes ≡ section_begun lines_code line_bytes (length ls) ls ++ (past p).bytes =
      laid_head p.bytes lines_code (length ls) long r.bytes is t.count
      ∙ ap (λ (ys : List ℕ). in_bytes 2 (head_word lines_code (length ls)) ++ ys) (t.laid ∙ ap (λ (ys : List ℕ). flat_map line_bytes ls ++ ys) (sym (past_records m d.trust p x lines_code is refl))) in
      note_stops rows (Some ls) (past p) (loaded_as c x.note) f
      (record {
        keeps = keeps_lines d rows ls r.keeps (omega (arith, t.few)) t.keep;
        laid = ap (λ (ys : List ℕ). header_written d ++ (section_written rows_code row_bytes rows ++ ys)) (sym split) ∙ r.laid;
        ends = past_ends p long ∙ r.ends;
        content = t.after;
        bytes = each_drop _ (drop 2 p.bytes) each;
      })
      (λ l k. k)
      h

  lines_by : (rows : Option (List Row)) (p : PartRead) (x : Loaded) (f : LoadFault) (o : Result Content LoadFault) → DescribedUpTo m bs d rows None None p x → 2 ≤ length p.bytes → head_code p.bytes ≡ lines_code → records_added (line_record m d.trust) (head_count p.bytes) (drop 2 p.bytes) (p.place + 2) (content_of m (described d rows None None)) ≡ o → go_on (go_on o (with_content x)) (from_note m d.trust (past p)) ≡ Err f → Declined m bs f
  lines_by rows p x f (Err g) r long is e h = let same : g ≡ f = cc in lines_cut rows p x f r long is (e ∙ ap (λ (z : LoadFault). Err z) same)
  lines_by rows p x f (Ok c) r long is e h = lines_whole rows p x f c r long is e h

  lines_stops : (rows : Option (List Row)) (p : PartRead) (x : Loaded) (f : LoadFault) → DescribedUpTo m bs d rows None None p x → Passed stage.Lines rows None None p → from_lines m d.trust p x ≡ Err f → Declined m bs f
  lines_stops rows p x f r passed h =
      elim (next_or_not lines_code p.bytes) [
        | inl next ↦
            let added = lines_added m d.trust p x (content_of m (described d rows None None)) r.content next.1 in
            lines_by rows p x f _ r next.0 next.1 refl (sym (ap (λ (o : Result Loaded LoadFault). go_on o (from_note m d.trust (past p))) added) ∙ (sym (takes_lines m d.trust p x next.0 next.1) ∙ h))
        | inr other ↦ note_stops rows None p x f r (passed_lines rows None None p other passed) (sym (passes_lines m d.trust p x other) ∙ h)
      ]

  -- the same of rows
  rows_cut : (p : PartRead) (x : Loaded) (f : LoadFault) → DescribedUpTo m bs d None None None p x → 2 ≤ length p.bytes → head_code p.bytes ≡ rows_code → records_added (row_record m) (head_count p.bytes) (drop 2 p.bytes) (p.place + 2) (content_of m (described d None None None)) ≡ Err f → Declined m bs f
  rows_cut p x f r long is e =
      let n = head_count p.bytes in
      let c = content_of m (described d None None None) in
      let each = each_drop 2 p.bytes r.bytes in
      let s = stops (row_record m) row_word RowFits (TakesRow m) (row_after m) row_word_fits (row_forth m d.trust) (row_back m d.trust) n (drop 2 p.bytes) (p.place + 2) c f each e in
      let rs = s.entries in
      let k = rows_limited m d.trust rs c s.content (omega arith) s.run in
      let whole = described d (Some rs) None None in
      let due = at_row whole n in
      let split : p.bytes ≡ section_begun rows_code row_bytes n rs ++ s.rest =
      laid_head p.bytes rows_code n long r.bytes is refl ∙ ap (λ (ys : List ℕ). in_bytes 2 (head_word rows_code n) ++ ys) s.laid in
      let laid : before due ++ s.rest ≡ bs = ap (λ (ys : List ℕ). header_written d ++ ys) (sym split) ∙ r.laid in
      let ends : p.place + 2 + 8 * length rs + length s.rest ≡ length bs = omega (arith, r.ends, ap length split, length-append (flat_map row_bytes rs) s.rest, each_length row_bytes (λ r. refl) rs) in
      let broken = refused_with (row_part_refusal m (content_of m whole) s.rest) _ s.refusal (sym (row_rules m (content_of m whole) s.rest) ∙ (ap (λ (z : Content). record_next (row_record m) s.rest z) (sym k.2) ∙ s.broken)) in
      record {
        due = due;
        keeps = (keeps_rows d rs r.keeps (omega (arith, k.0)) k.1, refl, refl, s.more, count_below (word2 p.bytes));
        rest = s.rest;
        laid_out = laid;
        place = ap (λ (z : LoadFault). z.place) s.is ∙ place_of (before due) s.rest bs (p.place + 2 + 8 * length rs) laid ends;
        broken = broken ∙ ap (λ (z : LoadFault). Some z.refusal) (sym s.is);
      }

  rows_whole : (p : PartRead) (x : Loaded) (f : LoadFault) (c : Content) → DescribedUpTo m bs d None None None p x → 2 ≤ length p.bytes → head_code p.bytes ≡ rows_code → records_added (row_record m) (head_count p.bytes) (drop 2 p.bytes) (p.place + 2) (content_of m (described d None None None)) ≡ Ok c → from_lines m d.trust (past p) (loaded_as c x.note) ≡ Err f → Declined m bs f
  unfolding Passed
  rows_whole p x f c r long is e h =
      let n = head_count p.bytes in
      let each = each_drop 2 p.bytes r.bytes in
      let t = rows_back m d.trust n (drop 2 p.bytes) (p.place + 2) (content_of m (described d None None None)) c each (omega arith) e in
      let rs = t.rows in
      let split : p.bytes ≡ section_begun rows_code row_bytes (length rs) rs ++ (past p).bytes =
      laid_head p.bytes rows_code (length rs) long r.bytes is t.count
      ∙ ap (λ (ys : List ℕ). in_bytes 2 (head_word rows_code (length rs)) ++ ys) (t.laid ∙ ap (λ (ys : List ℕ). flat_map row_bytes rs ++ ys) (sym (past_records m d.trust p x rows_code is refl))) in
      lines_stops (Some rs) (past p) (loaded_as c x.note) f
      (record {
        keeps = keeps_rows d rs r.keeps (omega (arith, t.few)) t.keep;
        laid = ap (λ (ys : List ℕ). header_written d ++ ys) (sym split) ∙ r.laid;
        ends = past_ends p long ∙ r.ends;
        content = t.after;
        bytes = each_drop _ (drop 2 p.bytes) each;
      })
      (λ l k. k)
      h

  rows_by : (p : PartRead) (x : Loaded) (f : LoadFault) (o : Result Content LoadFault) → DescribedUpTo m bs d None None None p x → 2 ≤ length p.bytes → head_code p.bytes ≡ rows_code → records_added (row_record m) (head_count p.bytes) (drop 2 p.bytes) (p.place + 2) (content_of m (described d None None None)) ≡ o → go_on (go_on o (with_content x)) (from_lines m d.trust (past p)) ≡ Err f → Declined m bs f
  rows_by p x f (Err g) r long is e h = let same : g ≡ f = cc in rows_cut p x f r long is (e ∙ ap (λ (z : LoadFault). Err z) same)
  rows_by p x f (Ok c) r long is e h = rows_whole p x f c r long is e h

  pub rows_stops : (p : PartRead) (x : Loaded) (f : LoadFault) → DescribedUpTo m bs d None None None p x → from_rows m d.trust p x ≡ Err f → Declined m bs f
  unfolding Passed
  rows_stops p x f r h =
      elim (next_or_not rows_code p.bytes) [
        | inl next ↦
            let added = rows_added m d.trust p x (content_of m (described d None None None)) r.content next.1 in
            rows_by p x f _ r next.0 next.1 refl (sym (ap (λ (o : Result Loaded LoadFault). go_on o (from_lines m d.trust (past p))) added) ∙ (sym (takes_rows m d.trust p x next.0 next.1) ∙ h))
        | inr other ↦ lines_stops None p x f r (passed_rows None None None p other (λ l k. k)) (sym (passes_rows m d.trust p x other) ∙ h)
      ]
