-- A load is declined, with a fault, exactly where the file is described up to the fault's place and the part there breaks the
-- fault's rule.
use Rattle.std.proofs.Common.{◌≡◌, ℕ, ◌+◌, ◌-◌, ◌*◌, ◌<◌, ◌≤◌, Bool, true, false, cond, ltb, ◌⊎◌, List, [], ◌++◌, length, get_or, take, drop, Some, None, Ok, Err, Option, Result, sym, refl, ap, ◌∙◌, subst, inl, inr, append_assoc, arith, length-append}
use Rattle.std.proofs.lemmas.List.{length-take, length-drop}
use Rattle.std.proofs.lemmas.Bool.{true≢false, ltb-true, lt-ltb}
use Rattle.std.specs.List.{flat_map, AllByRecursion}
use Rattle.costs.specs.Meaning.{Meaning}
use Rattle.board.specs.declared.row.Row.{Row}
use Rattle.board.specs.declared.row.Line.{Line}
use Rattle.board.specs.Content.{Content, new}
use Rattle.board.specs.Calls.{row_after, with_size}
use Rattle.file.specs.declared.refusal.FileRefusal.{FileRefusal}
use Rattle.file.specs.declared.refusal.FileRefusal.TheVariants.{CutShort}
use Rattle.file.specs.declared.refusal.LoadFault.{LoadFault}
use Rattle.file.specs.Fields.{word4, header_fields, head_code, head_count}
use Rattle.file.specs.Parts.{PartRead, fault_at}
use Rattle.file.specs.Sections.{rows_code, lines_code, note_code, next_section, past}
use Rattle.file.specs.Records.{go_on, at_place, row_record, line_record, record_next, records_added}
use Rattle.file.specs.Load.{Opened, opened, Loaded, loaded_as, with_content, section_added, at_end, from_note, from_lines, from_rows, after_header, no_note, loaded, note_answer, load_answer}
use Rattle.file.specs.Layout.{Description, held_in, in_bytes, head_word, row_word, line_word, row_bytes, line_bytes, one_byte, section_begun, section_written, header_written, written, Byte, RowLimits, LineLimits, KeepsLimits, content_of, Count}
use Rattle.file.specs.Declined.{Due, at_header, at_head, at_row, at_line, at_note, before, KeepsLimitsBefore, header_refusal, may_follow, head_refusal, row_part_refusal, line_part_refusal, note_refusal, part_refusal, Declined, DeclinesExactly}
use Rattle.file.proofs.Loads.Bytes.{bytes_word4, word4_fits, each_byte, each_drop}
use Rattle.file.proofs.Loads.Words.{RowFits, row_word_fits, LineFits, line_word_fits, HeaderWas, header_read_word}
use Rattle.file.proofs.Loads.Turns.{passes_note, passes_lines, passes_rows, takes_note, takes_lines, takes_rows}
use Rattle.file.proofs.Loads.Limits.{TakesRow, TakesLine, line_put, with_rows, with_lines, row_forth, row_back, line_forth, line_back, limited_rows, limited_lines}
use Rattle.file.proofs.Loads.Heads.{past_ends, HeadAt, head_at}
use Rattle.file.proofs.Loads.Tails.{each_length, bytes_written, note_section, adds_note, adds_lines, adds_rows, note_rest, records_rest, not_next}
use Rattle.file.proofs.Faults.Stops.{records_past, records_stop}
use Rattle.file.proofs.Faults.Rules.{refused, refused_with, row_refused, line_refused, opened_new, header_rules, head_refused, head_other}
use Rattle.file.proofs.Faults.Sofar.{described, written_on, note_begun_on, rows_added, lines_added}
use Rattle.file.proofs.Loads.Exactly.{OpenedNew, opened_was, header_accepted}
use Rattle.file.proofs.Faults.Declines.{rows_stops}

-- From the fault to what is described.
module _ (m : Meaning) (bs : List ℕ) (each : AllByRecursion Byte bs) where
  -- a header that was read describes itself
  header_reached : (o : Opened) (w : OpenedNew m bs o) → HeaderWas m (word4 bs) w.header → (f : LoadFault) → from_rows m w.header.trust (after_header bs) (loaded_as (with_size new w.header.modes w.header.moments) (no_note bs)) ≡ Err f → Declined m bs f
  header_reached o w was f h =
      let d : Description = record { letter = m.letter; modes = w.header.modes; moments = w.header.moments; trust = w.header.trust; rows = None; lines = None; note = None } in
      let long = w.long in
      rows_stops m bs d (after_header bs) (loaded_as (with_size new w.header.modes w.header.moments) (no_note bs)) f
      (record {
        keeps = record {
          own_letter = refl;
          letter_fits = was.letter_fits;
          some_place = w.size.some_place;
          few_places = w.size.few_places;
          modes_fit = was.modes_fit;
          moments_fit = was.moments_fit;
          plain_trust = was.plain_trust;
          trust_fits = was.trust_fits;
          few_rows = omega arith;
          rows_keep = tt;
          few_lines = omega arith;
          lines_keep = tt;
          note_fits = omega arith;
          note_bytes = tt;
        };
        laid = ap (λ (v : ℕ). in_bytes 4 v ++ drop 4 bs) was.is ∙ sym (bytes_word4 bs w.long each);
        ends = simp length-drop (omega arith);
        content = refl;
        bytes = each_drop 4 bs each;
      })
      h

  -- what the header made of a new board
  declined_by : (f : LoadFault) (o : Result Opened FileRefusal) → opened m bs new ≡ o → go_on (at_place o 0) (λ (z : Opened). from_rows m z.trust (after_header bs) (loaded_as z.content (no_note bs))) ≡ Err f → Declined m bs f
  declined_by f (Err r) is h =
      let e : f ≡ fault_at r 0 = cc in
      record {
        due = at_header;
        keeps = tt;
        rest = bs;
        laid_out = refl;
        place = ap (λ (z : LoadFault). z.place) e;
        broken = refused_with (header_refusal m bs) (opened_new (header_fields (word4 bs))) r (sym (header_rules m bs) ∙ is) ∙ ap (λ (z : LoadFault). Some z.refusal) (sym e);
      }
  declined_by f (Ok o) is h =
      let w = opened_was m bs o is in
      let on = λ (z : Opened). from_rows m z.trust (after_header bs) (loaded_as z.content (no_note bs)) in
      header_reached o w (header_read_word m (word4 bs) w.header (word4_fits bs each) w.read) f (subst (λ (z : Opened). on z ≡ Err f) (sym w.is) h)

  pub declined_as : (f : LoadFault) → loaded m bs ≡ Err f → Declined m bs f
  declined_as f h = declined_by f (opened m bs new) refl h

-- From what is described to the fault.

-- no section of that code begins there
abbrev Other : ℕ → List ℕ → Type 0
Other k bs = (length bs < 2) ⊎ (head_code bs ≡ k → ⊥)

-- behind a head that may not come
other_head : (rows : Option (List Row)) (lines : Option (List Line)) (bytes : Option (List ℕ)) (k : ℕ) (bs : List ℕ) → (ltb (length bs) 2 ≡ true) ⊎ (may_follow rows lines bytes (head_code bs) ≡ false) → may_follow rows lines bytes k ≡ true → Other k bs
other_head rows lines bytes k bs (inl short) may = inl (ltb-true (length bs) 2 short)
other_head rows lines bytes k bs (inr other) may = inr (λ e. true≢false (sym may ∙ (ap (may_follow rows lines bytes) (sym e) ∙ other)))

rows_may : (rows : Option (List Row)) (lines : Option (List Line)) (bytes : Option (List ℕ)) → rows ≡ None → lines ≡ None → bytes ≡ None → may_follow rows lines bytes 1 ≡ true
rows_may rows lines bytes r l n = rw (r, l, n) refl

lines_may : (rows : Option (List Row)) (lines : Option (List Line)) (bytes : Option (List ℕ)) → lines ≡ None → bytes ≡ None → may_follow rows lines bytes 2 ≡ true
lines_may None lines bytes l n = rw (l, n) refl
lines_may (Some rs) lines bytes l n = rw (l, n) refl

note_may : (rows : Option (List Row)) (lines : Option (List Line)) (bytes : Option (List ℕ)) → bytes ≡ None → may_follow rows lines bytes 3 ≡ true
note_may None None bytes n = rw n refl
note_may (Some rs) None bytes n = rw n refl
note_may None (Some ls) bytes n = rw n refl
note_may (Some rs) (Some ls) bytes n = rw n refl

-- a section that is begun
begins : (bs : List ℕ) (code n : ℕ) (rest : List ℕ) → code < 16 → Count n → bs ≡ in_bytes 2 (head_word code n) ++ rest → HeadAt bs code n 0 [] rest
begins bs code n rest small few laid = head_at bs code n 0 [] rest small few refl laid

other_begins : (k code n : ℕ) (rest : List ℕ) → code < 16 → Count n → (code ≡ k → ⊥) → Other k (in_bytes 2 (head_word code n) ++ rest)
other_begins k code n rest small few other =
    let a = begins (in_bytes 2 (head_word code n) ++ rest) code n rest small few refl in
    inr (λ e. other (sym a.its_code ∙ e))

module _ (m : Meaning) (d : Description) where
  -- what is left behind the sections that are described
  go_rows : (rows : Option (List Row)) (p : PartRead) (n : PartRead) (rest : List ℕ) (after : ℕ) → length (held_in rows) ≤ 128 → AllByRecursion (RowLimits m d.modes) (held_in rows) → p.bytes ≡ section_written rows_code row_bytes rows ++ rest → p.place + length p.bytes ≡ after + length rest → (rows ≡ None → Other rows_code rest) → from_rows m d.trust p (loaded_as (content_of m (described d None None None)) n) ≡ from_lines m d.trust (record { bytes = rest; place = after }) (loaded_as (content_of m (described d rows None None)) n)
  go_rows None p n rest after few keep laid ends other =
      let x = loaded_as (content_of m (described d None None None)) n in
      let e : p.place ≡ after = omega (arith, ap length laid) in
      passes_rows m d.trust p x (subst (Other rows_code) (sym laid) (other refl)) ∙ (λ i. from_lines m d.trust (record { bytes = laid i; place = e i }) x)
  go_rows (Some rs) p n rest after few keep laid ends other =
      let x = loaded_as (content_of m (described d None None None)) n in
      let a = head_at p.bytes rows_code (length rs) (8 * length rs) (flat_map row_bytes rs) rest (omega arith) (omega arith) (each_length row_bytes (λ r. refl) rs) laid in
      let b = records_rest m d.trust p x rows_code (length rs) (flat_map row_bytes rs) rest refl a in
      let e : (past p).place ≡ after = omega (arith, past_ends p a.long, ap length b) in
      takes_rows m d.trust p x a.long a.its_code
      ∙ (ap (λ (o : Result Loaded LoadFault). go_on o (from_lines m d.trust (past p))) (adds_rows m d.trust p x rs rest (omega arith) keep a)
      ∙ (λ i. from_lines m d.trust (record { bytes = b i; place = e i }) (loaded_as (content_of m (described d (Some rs) None None)) n)))

  go_lines : (rows : Option (List Row)) (lines : Option (List Line)) (p : PartRead) (n : PartRead) (rest : List ℕ) (after : ℕ) → length (held_in lines) ≤ 128 → AllByRecursion (LineLimits m d.moments d.trust) (held_in lines) → p.bytes ≡ section_written lines_code line_bytes lines ++ rest → p.place + length p.bytes ≡ after + length rest → (lines ≡ None → Other lines_code rest) → from_lines m d.trust p (loaded_as (content_of m (described d rows None None)) n) ≡ from_note m d.trust (record { bytes = rest; place = after }) (loaded_as (content_of m (described d rows lines None)) n)
  go_lines rows None p n rest after few keep laid ends other =
      let x = loaded_as (content_of m (described d rows None None)) n in
      let e : p.place ≡ after = omega (arith, ap length laid) in
      passes_lines m d.trust p x (subst (Other lines_code) (sym laid) (other refl)) ∙ (λ i. from_note m d.trust (record { bytes = laid i; place = e i }) x)
  go_lines rows (Some ls) p n rest after few keep laid ends other =
      let x = loaded_as (content_of m (described d rows None None)) n in
      let a = head_at p.bytes lines_code (length ls) (8 * length ls) (flat_map line_bytes ls) rest (omega arith) (omega arith) (each_length line_bytes (λ l. refl) ls) laid in
      let b = records_rest m d.trust p x lines_code (length ls) (flat_map line_bytes ls) rest refl a in
      let e : (past p).place ≡ after = omega (arith, past_ends p a.long, ap length b) in
      takes_lines m d.trust p x a.long a.its_code
      ∙ (ap (λ (o : Result Loaded LoadFault). go_on o (from_note m d.trust (past p))) (adds_lines m d.trust p x ls rest (omega arith) keep a)
      ∙ (λ i. from_note m d.trust (record { bytes = b i; place = e i }) (loaded_as (content_of m (described d rows (Some ls) None)) n)))

  go_note : (note : Option (List ℕ)) (c : Content) (p : PartRead) (n : PartRead) (rest : List ℕ) (after : ℕ) → Count (length (held_in note)) → p.bytes ≡ section_written note_code one_byte note ++ rest → p.place + length p.bytes ≡ after + length rest → (note ≡ None → Other note_code rest) → (k : PartRead) × (from_note m d.trust p (loaded_as c n) ≡ at_end (record { bytes = rest; place = after }) (loaded_as c k))
  go_note None c p n rest after few laid ends other =
      let e : p.place ≡ after = omega (arith, ap length laid) in
      (n, passes_note m d.trust p (loaded_as c n) (subst (Other note_code) (sym laid) (other refl)) ∙ (λ i. at_end (record { bytes = laid i; place = e i }) (loaded_as c n)))
  go_note (Some bs) c p n rest after few laid ends other =
      let x = loaded_as c n in
      let k : PartRead = record { bytes = bs; place = p.place + 2 } in
      let split = laid ∙ ap (λ (ys : List ℕ). in_bytes 2 (head_word note_code (length bs)) ++ (ys ++ rest)) (bytes_written bs) in
      let a = head_at p.bytes note_code (length bs) (length bs) bs rest (omega arith) few refl split in
      let b = note_rest m d.trust p x (length bs) bs rest a in
      let e : (past p).place ≡ after = omega (arith, past_ends p a.long, ap length b) in (
        k,
        takes_note m d.trust p x a.long a.its_code
            ∙ (ap (λ (o : Result Loaded LoadFault). go_on o (at_end (past p))) (adds_note m d.trust p x bs rest a)
            ∙ (λ i. at_end (record { bytes = b i; place = e i }) (loaded_as c k))),
      )

-- so many bytes of a note are cut short
note_short : (short : Bool) (r : FileRefusal) → cond short (Some CutShort) None ≡ Some r → (short ≡ true) × (CutShort ≡ r)
note_short true r h = (refl, cc)
note_short false r h = absurd cc

module _ (m : Meaning) (d : Description) (k : KeepsLimits m d) where
  -- behind the header
  start : (tail : List ℕ) → (n : PartRead) × (loaded m (header_written d ++ tail) ≡ from_rows m d.trust (record { bytes = tail; place = 4 }) (loaded_as (content_of m (described d None None None)) n))
  start tail = (no_note (header_written d ++ tail), header_accepted m d tail k)

  -- behind the rows
  past_rows : (tail : List ℕ) → (d.rows ≡ None → Other rows_code tail) → (n : PartRead) × (loaded m (header_written d ++ (section_written rows_code row_bytes d.rows ++ tail)) ≡ from_lines m d.trust (record { bytes = tail; place = 4 + length (section_written rows_code row_bytes d.rows) }) (loaded_as (content_of m (described d d.rows None None)) n))
  past_rows tail other =
      let front = section_written rows_code row_bytes d.rows in
      let s = start (front ++ tail) in
      (s.0, s.1 ∙ go_rows m d d.rows (record { bytes = front ++ tail; place = 4 }) s.0 tail (4 + length front) k.few_rows k.rows_keep refl (omega (arith, length-append front tail)) other)

  -- behind the lines
  past_lines : (tail : List ℕ) → (d.rows ≡ None → Other rows_code (section_written lines_code line_bytes d.lines ++ tail)) → (d.lines ≡ None → Other lines_code tail) → (n : PartRead) × (loaded m (header_written d ++ (section_written rows_code row_bytes d.rows ++ (section_written lines_code line_bytes d.lines ++ tail))) ≡ from_note m d.trust (record { bytes = tail; place = 4 + length (section_written rows_code row_bytes d.rows) + length (section_written lines_code line_bytes d.lines) }) (loaded_as (content_of m (described d d.rows d.lines None)) n))
  past_lines tail other_rows other_lines =
      let front = section_written lines_code line_bytes d.lines in
      let place = 4 + length (section_written rows_code row_bytes d.rows) in
      let s = past_rows (front ++ tail) other_rows in
      (s.0, s.1 ∙ go_lines m d d.rows d.lines (record { bytes = front ++ tail; place = place }) s.0 tail (place + length front) k.few_lines k.lines_keep refl (omega (arith, length-append front tail)) other_lines)

  -- a head that may not come
  at_head_refused : (rest : List ℕ) (r : FileRefusal) → head_refusal d rest ≡ Some r → loaded m (written d ++ rest) ≡ Err (fault_at r (length (written d)))
  at_head_refused rest r h =
      let rows = section_written rows_code row_bytes d.rows in
      let lines = section_written lines_code line_bytes d.lines in
      let note = section_written note_code one_byte d.note in
      let o = head_other d rest r h in
      let behind_note : d.note ≡ None → Other note_code rest = λ n. other_head d.rows d.lines d.note 3 rest o (note_may d.rows d.lines d.note n) in
      let behind_lines : d.lines ≡ None → Other lines_code (note ++ rest) =
      λ l. not_next 2 note_code one_byte d.note (note ++ rest) rest (omega arith) (λ e. omega arith) k.note_fits refl (λ n. other_head d.rows d.lines d.note 2 rest o (lines_may d.rows d.lines d.note l n)) in
      let behind_rows : d.rows ≡ None → Other rows_code (lines ++ (note ++ rest)) =
      λ q. not_next 1 lines_code line_bytes d.lines (lines ++ (note ++ rest)) (note ++ rest) (omega arith) (λ e. omega arith) (omega (arith, k.few_lines)) refl
      (λ l. not_next 1 note_code one_byte d.note (note ++ rest) rest (omega arith) (λ e. omega arith) k.note_fits refl (λ n. other_head d.rows d.lines d.note 1 rest o (rows_may d.rows d.lines d.note q l n))) in
      let s = past_lines (note ++ rest) behind_rows behind_lines in
      let place = 4 + length rows + length lines in
      let g = go_note m d d.note (content_of m (described d d.rows d.lines None)) (record { bytes = note ++ rest; place = place }) s.0 rest (place + length note) k.note_fits refl (omega (arith, length-append note rest)) behind_note in
      let end : place + length note ≡ length (written d) = omega (arith, length-append rows (lines ++ note), length-append lines note) in
      ap (loaded m) (written_on d d.rows d.lines d.note rest)
      ∙ (s.1 ∙ (g.1 ∙ (head_refused d (record { bytes = rest; place = place + length note }) (loaded_as (content_of m (described d d.rows d.lines None)) g.0) r h ∙ ap (λ (z : ℕ). Err (fault_at r z)) end)))

  -- a note that is cut short
  at_note_refused : (n : ℕ) (rest : List ℕ) (r : FileRefusal) → d.note ≡ None → Count n → note_refusal n rest ≡ Some r → loaded m ((written d ++ section_begun note_code one_byte n []) ++ rest) ≡ Err (fault_at r (length (written d ++ section_begun note_code one_byte n [])))
  at_note_refused n rest r none few h =
      let rows = section_written rows_code row_bytes d.rows in
      let lines = section_written lines_code line_bytes d.lines in
      let head = in_bytes 2 (head_word note_code n) in
      let tail = head ++ rest in
      let place = 4 + length rows + length lines in
      let t = note_short (ltb (length rest) n) r h in
      let s = past_lines tail
      (λ q. not_next 1 lines_code line_bytes d.lines (lines ++ tail) tail (omega arith) (λ e. omega arith) (omega (arith, k.few_lines)) refl (λ l. other_begins 1 note_code n rest (omega arith) few (λ e. omega arith)))
      (λ l. other_begins 2 note_code n rest (omega arith) few (λ e. omega arith)) in
      let p : PartRead = record { bytes = tail; place = place } in
      let x = loaded_as (content_of m (described d d.rows d.lines None)) s.0 in
      let a = begins tail note_code n rest (omega arith) few refl in
      let short = ltb-true (length rest) n t.0 in
      let cut : ltb (length (take (head_count tail) rest)) (head_count tail) ≡ true = lt-ltb (length (take (head_count tail) rest)) (head_count tail) (omega (arith, a.its_count, length-take (head_count tail) rest)) in
      let added : section_added m d.trust (next_section p) x ≡ Err (fault_at CutShort (place + 2)) = note_section m d.trust p x a.its_code ∙ rw cut in
      let front = written d ++ section_begun note_code one_byte n [] in
      let same : written d ≡ written (described d d.rows d.lines None) = ap (λ (o : Option (List ℕ)). written (described d d.rows d.lines o)) none in
      let laid : front ++ rest ≡ header_written d ++ (rows ++ (lines ++ tail)) = ap (λ (ys : List ℕ). (ys ++ head) ++ rest) same ∙ note_begun_on d d.rows d.lines head rest in
      let end : place + 2 ≡ length front = omega (arith, length-append front rest, ap length laid, length-append rows (lines ++ tail), length-append lines tail) in
      ap (loaded m) laid
      ∙ (s.1 ∙ (takes_note m d.trust p x a.long a.its_code ∙ (ap (λ (o : Result Loaded LoadFault). go_on o (at_end (past p))) added ∙ (λ i. Err (fault_at (t.1 i) (end i))))))

  -- a line that is refused
  at_line_refused : (n : ℕ) (rest : List ℕ) (r : FileRefusal) → length (held_in d.lines) < n → Count n → line_part_refusal m d.trust (content_of m d) rest ≡ Some r → loaded m ((header_written d ++ (section_written rows_code row_bytes d.rows ++ section_begun lines_code line_bytes n (held_in d.lines))) ++ rest) ≡ Err (fault_at r (length (header_written d ++ (section_written rows_code row_bytes d.rows ++ section_begun lines_code line_bytes n (held_in d.lines)))))
  at_line_refused n rest r more few h =
      let ls = held_in d.lines in
      let rows = section_written rows_code row_bytes d.rows in
      let begun = section_begun lines_code line_bytes n ls in
      let body = flat_map line_bytes ls ++ rest in
      let tail = in_bytes 2 (head_word lines_code n) ++ body in
      let place = 4 + length rows in
      let s = past_rows tail (λ q. other_begins 1 lines_code n body (omega arith) few (λ e. omega arith)) in
      let p : PartRead = record { bytes = tail; place = place } in
      let c = content_of m (described d d.rows None None) in
      let x = loaded_as c s.0 in
      let a = begins tail lines_code n body (omega arith) few refl in
      let after = place + 2 + 8 * length ls in
      let run = limited_lines m d.trust ls c (omega (arith, k.few_lines)) k.lines_keep in
      let left = n - length ls in
      let next : record_next (line_record m d.trust) rest (content_of m d) ≡ Err r = line_refused m d.trust (content_of m d) rest r h in
      let stop : records_added (line_record m d.trust) n body (place + 2) c ≡ Err (fault_at r after) =
      records_past (line_record m d.trust) line_word LineFits (TakesLine m d.trust) (line_put m d.trust) line_word_fits (line_forth m d.trust) (line_back m d.trust) ls n left rest (place + 2) after c (with_lines m d.trust c ls) (omega arith) refl run
      ∙ records_stop (line_record m d.trust) left (left - 1) rest after (content_of m d) r (omega arith) next in
      let counted : records_added (line_record m d.trust) (head_count tail) body (place + 2) c ≡ Err (fault_at r after) = ap (λ (j : ℕ). records_added (line_record m d.trust) j body (place + 2) c) a.its_count ∙ stop in
      let front = header_written d ++ (rows ++ begun) in
      let end : after ≡ length front = omega (arith, length-append rows begun, each_length line_bytes (λ l. refl) ls) in
      ap (λ (ys : List ℕ). loaded m (header_written d ++ ys)) (append_assoc rows begun rest)
      ∙ (s.1 ∙ (takes_lines m d.trust p x a.long a.its_code
      ∙ (ap (λ (o : Result Loaded LoadFault). go_on o (from_note m d.trust (past p))) (lines_added m d.trust p x c refl a.its_code)
      ∙ (ap (λ (o : Result Content LoadFault). go_on (go_on o (with_content x)) (from_note m d.trust (past p))) counted ∙ ap (λ (z : ℕ). Err (fault_at r z)) end))))

  -- a row that is refused
  at_row_refused : (n : ℕ) (rest : List ℕ) (r : FileRefusal) → d.lines ≡ None → length (held_in d.rows) < n → Count n → row_part_refusal m (content_of m d) rest ≡ Some r → loaded m ((header_written d ++ section_begun rows_code row_bytes n (held_in d.rows)) ++ rest) ≡ Err (fault_at r (length (header_written d ++ section_begun rows_code row_bytes n (held_in d.rows))))
  at_row_refused n rest r none more few h =
      let rs = held_in d.rows in
      let begun = section_begun rows_code row_bytes n rs in
      let body = flat_map row_bytes rs ++ rest in
      let tail = in_bytes 2 (head_word rows_code n) ++ body in
      let s = start tail in
      let p : PartRead = record { bytes = tail; place = 4 } in
      let c = content_of m (described d None None None) in
      let x = loaded_as c s.0 in
      let a = begins tail rows_code n body (omega arith) few refl in
      let after = 6 + 8 * length rs in
      let run = limited_rows m d.trust rs c (omega (arith, k.few_rows)) k.rows_keep in
      let left = n - length rs in
      let same : content_of m d ≡ with_rows c rs = ap (λ (o : Option (List Line)). content_of m (described d d.rows o None)) none in
      let next : record_next (row_record m) rest (with_rows c rs) ≡ Err r = ap (λ (z : Content). record_next (row_record m) rest z) (sym same) ∙ row_refused m (content_of m d) rest r h in
      let stop : records_added (row_record m) n body 6 c ≡ Err (fault_at r after) =
      records_past (row_record m) row_word RowFits (TakesRow m) (row_after m) row_word_fits (row_forth m d.trust) (row_back m d.trust) rs n left rest 6 after c (with_rows c rs) (omega arith) refl run
      ∙ records_stop (row_record m) left (left - 1) rest after (with_rows c rs) r (omega arith) next in
      let counted : records_added (row_record m) (head_count tail) body 6 c ≡ Err (fault_at r after) = ap (λ (j : ℕ). records_added (row_record m) j body 6 c) a.its_count ∙ stop in
      let front = header_written d ++ begun in
      let end : after ≡ length front = omega (arith, each_length row_bytes (λ l. refl) rs) in
      s.1 ∙ (takes_rows m d.trust p x a.long a.its_code
      ∙ (ap (λ (o : Result Loaded LoadFault). go_on o (from_lines m d.trust (past p))) (rows_added m d.trust p x c refl a.its_code)
      ∙ (ap (λ (o : Result Content LoadFault). go_on (go_on o (with_content x)) (from_lines m d.trust (past p))) counted ∙ ap (λ (z : ℕ). Err (fault_at r z)) end)))

module _ (m : Meaning) where
  -- each part that is due
  due_refused : (due : Due) (rest : List ℕ) (r : FileRefusal) → KeepsLimitsBefore m due → part_refusal m due rest ≡ Some r → loaded m (before due ++ rest) ≡ Err (fault_at r (length (before due)))
  due_refused at_header rest r k h =
      ap (λ (o : Result Opened FileRefusal). go_on (at_place o 0) (λ (z : Opened). from_rows m z.trust (after_header rest) (loaded_as z.content (no_note rest)))) (header_rules m rest ∙ ap (λ (o : Option FileRefusal). refused o (opened_new (header_fields (word4 rest)))) h)
  due_refused (at_head d) rest r k h = at_head_refused m d k rest r h
  due_refused (at_row d n) rest r k h = at_row_refused m d k.0 n rest r k.1 k.3 k.4 h
  due_refused (at_line d n) rest r k h = at_line_refused m d k.0 n rest r k.2 k.3 h
  due_refused (at_note d n) rest r k h = at_note_refused m d k.0 n rest r k.1 k.2 h

  refused_as : (bs : List ℕ) (f : LoadFault) → Declined m bs f → loaded m bs ≡ Err f
  refused_as bs f is =
      ap (loaded m) (sym is.laid_out)
      ∙ (due_refused is.due is.rest f.refusal is.keeps is.broken ∙ ap (λ (z : ℕ). Err (fault_at f.refusal z)) (sym is.place))

  answered_err : (o : Result Loaded LoadFault) (f : LoadFault) → note_answer o ≡ Err f → o ≡ Err f
  answered_err (Ok y) f h = absurd cc
  answered_err (Err g) f h = cc

  pub declines_exactly : (bs : List ℕ) (answer : Result PartRead LoadFault) → ((i : ℕ) → get_or bs i 0 < 256) → answer ≡ load_answer m bs → DeclinesExactly m bs answer
  declines_exactly bs answer e h f = (
    λ k. declined_as m bs (each_byte bs e) f (answered_err (loaded m bs) f (sym h ∙ k)),
    λ k. h ∙ ap note_answer (refused_as bs f k),
  )
