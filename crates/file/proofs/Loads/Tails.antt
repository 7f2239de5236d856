-- The sections of a file are accepted exactly where what is left of the file is laid out as sections within the limits.
use Rattle.std.proofs.Common.{◌≡◌, ℕ, ◌+◌, ◌-◌, ◌*◌, ◌<◌, ◌≤◌, false, cond, eqb, ltb, ◌⊎◌, List, [], ◌∷◌, ◌++◌, map, length, take, drop, Some, None, Ok, Err, Option, Result, sym, refl, ap, ◌∙◌, subst, inl, inr, append-nil, arith, length-append}
use Rattle.std.proofs.lemmas.List.{length-take, drop_all, nil_from_length, length-map}
use Rattle.std.proofs.lemmas.Bool.{le-ltb}
use Rattle.std.proofs.lemmas.Bool.Decides.{nat_tests}
use Rattle.std.specs.List.{flat_map, AllByRecursion}
use Rattle.costs.specs.Meaning.{Meaning}
use Rattle.board.specs.declared.row.Row.{Row}
use Rattle.board.specs.declared.row.Line.{Line}
use Rattle.board.specs.Content.{Content}
use Rattle.file.specs.declared.refusal.FileRefusal.TheVariants.{CutShort}
use Rattle.file.specs.declared.refusal.LoadFault.{LoadFault}
use Rattle.file.specs.Fields.{word2, head_code, head_count}
use Rattle.file.specs.Parts.{PartRead, fault_at}
use Rattle.file.specs.Sections.{rows_code, lines_code, note_code, next_section, past}
use Rattle.file.specs.Records.{go_on, trusted_line, row_record, line_record, records_added}
use Rattle.file.specs.Load.{Loaded, loaded_as, with_content, section_added, at_end, from_note, from_lines, from_rows}
use Rattle.file.specs.Layout.{held_in, in_bytes, head_word, row_bytes, line_bytes, one_byte, section_written, sections_written, Byte, RowLimits, LineLimits, Count}
use Rattle.file.proofs.Loads.Bytes.{each_take, each_drop}
use Rattle.file.proofs.Loads.Words.{count_below}
use Rattle.file.proofs.Loads.Turns.{passes_note, passes_lines, passes_rows, takes_note, takes_lines, takes_rows}
use Rattle.file.proofs.Loads.Limits.{went_on, with_rows, with_lines, RowsRead, LinesRead, rows_forth, rows_back, lines_forth, lines_back}
use Rattle.file.proofs.Loads.Heads.{next_or_not, past_ends, HeadAt, head_at, laid_section}

-- what the sections make of the board and the note; an absent one changes nothing
abbrev pub put_rows : Option (List Row) → Content → Content
put_rows None c = c
put_rows (Some rs) c = with_rows c rs

abbrev pub put_lines : Meaning → ℕ → Option (List Line) → Content → Content
put_lines m trust None c = c
put_lines m trust (Some ls) c = with_lines m trust c ls

abbrev pub put_note : Option (List ℕ) → ℕ → PartRead → PartRead
put_note None size n = n
put_note (Some bs) size n = record { bytes = bs; place = size - length bs }

-- What is left of the file, p, is laid out as these sections, which are within the limits and turn x into y.
pub record Tail (m : Meaning) (trust : ℕ) (rows : Option (List Row)) (lines : Option (List Line)) (note : Option (List ℕ)) (p : PartRead) (x y : Loaded) : Type 0 where
  pub laid : p.bytes ≡ sections_written rows lines note
  pub few_rows : length x.content.rows + length (held_in rows) ≤ 128
  pub rows_keep : AllByRecursion (RowLimits m x.content.modes) (held_in rows)
  pub few_lines : length x.content.lines + length (held_in lines) ≤ 128
  pub lines_keep : AllByRecursion (LineLimits m x.content.moments trust) (held_in lines)
  pub note_fits : Count (length (held_in note))
  pub note_bytes : AllByRecursion Byte (held_in note)
  pub content : y.content ≡ put_lines m trust lines (put_rows rows x.content)
  pub noted : y.note ≡ put_note note (p.place + length p.bytes) x.note

-- the bytes of a section's body
pub each_length : {A : Type 0} (f : A → List ℕ) → ((x : A) → length (f x) ≡ 8) → (xs : List A) → length (flat_map f xs) ≡ 8 * length xs
each_length f h [] = refl
each_length f h (x ∷ xs) = length-append (f x) (flat_map f xs) ∙ omega (arith, h x, each_length f h xs)

pub bytes_written : (bs : List ℕ) → flat_map one_byte bs ≡ bs
bytes_written [] = refl
bytes_written (b ∷ bs) = ap (λ (xs : List ℕ). b ∷ xs) (bytes_written bs)

-- the front of a list has nothing after it, so a body that the front begins with is the front
past_front : (k : ℕ) (bs : List ℕ) → drop k (take k bs) ≡ []
past_front k bs = drop_all k (take k bs) (rw length-take (omega arith))

whole_body : (k : ℕ) (bs body : List ℕ) → take k bs ≡ body ++ drop k (take k bs) → take k bs ≡ body
whole_body k bs body h = h ∙ (ap (λ (ys : List ℕ). body ++ ys) (past_front k bs) ∙ append-nil body)

-- the file's end
ended : (p : PartRead) (x y : Loaded) → at_end p x ≡ Ok y → (length p.bytes ≡ 0) × (x ≡ y)
unfolding at_end
ended p x y h = grind (arith, nat_tests)

ends : (p : PartRead) (x : Loaded) → length p.bytes ≡ 0 → at_end p x ≡ Ok x
unfolding at_end
ends p x h = rw h

module _ (m : Meaning) (trust : ℕ) (p : PartRead) (x : Loaded) where
  -- what a section of each code makes
  pub rows_section : head_code p.bytes ≡ rows_code → section_added m trust (next_section p) x ≡ go_on (records_added (row_record m) (head_count p.bytes) (take (8 * head_count p.bytes) (drop 2 p.bytes)) (p.place + 2) x.content) (with_content x)
  rows_section h = rw h

  pub lines_section : head_code p.bytes ≡ lines_code → section_added m trust (next_section p) x ≡ go_on (records_added (line_record m trust) (head_count p.bytes) (take (8 * head_count p.bytes) (drop 2 p.bytes)) (p.place + 2) x.content) (with_content x)
  lines_section h = rw h

  pub note_section : head_code p.bytes ≡ note_code → section_added m trust (next_section p) x ≡ cond (ltb (length (take (head_count p.bytes) (drop 2 p.bytes))) (head_count p.bytes)) (Err (fault_at CutShort (p.place + 2))) (Ok (loaded_as x.content (record { bytes = take (head_count p.bytes) (drop 2 p.bytes); place = p.place + 2 })))
  note_section h = rw h

  -- what is left after a section of rows or lines, or of a note
  pub past_records : (code : ℕ) → head_code p.bytes ≡ code → eqb code note_code ≡ false → (past p).bytes ≡ drop (8 * head_count p.bytes) (drop 2 p.bytes)
  past_records code h e = rw (h, e)

  pub past_note : head_code p.bytes ≡ note_code → (past p).bytes ≡ drop (head_count p.bytes) (drop 2 p.bytes)
  past_note h = rw h

  -- a note that was taken
  note_was : (n : ℕ) (front : List ℕ) (y : Loaded) (f : LoadFault) → cond (ltb (length front) n) (Err f) (Ok (loaded_as x.content (record { bytes = front; place = p.place + 2 }))) ≡ Ok y → (n ≤ length front) × (loaded_as x.content (record { bytes = front; place = p.place + 2 }) ≡ y)
  note_was n front y f h = grind (arith, nat_tests)

-- From what is accepted to the layout.
module _ (m : Meaning) (trust : ℕ) where
  -- nothing is left
  none_left : (p : PartRead) (x y : Loaded) → length x.content.rows ≤ 128 → length x.content.lines ≤ 128 → at_end p x ≡ Ok y → Tail m trust None None None p x y
  none_left p x y few_rows few_lines h =
      let e = ended p x y h in
      record {
        laid = nil_from_length p.bytes e.0;
        few_rows = omega arith;
        rows_keep = tt;
        few_lines = omega arith;
        lines_keep = tt;
        note_fits = omega arith;
        note_bytes = tt;
        content = ap (λ (z : Loaded). z.content) (sym e.1);
        noted = ap (λ (z : Loaded). z.note) (sym e.1);
      }

  -- a note is left
  note_made : (p : PartRead) (x y : Loaded) (front : List ℕ) → length x.content.rows ≤ 128 → length x.content.lines ≤ 128 → p.bytes ≡ in_bytes 2 (head_word note_code (length front)) ++ (front ++ []) → Count (length front) → AllByRecursion Byte front → loaded_as x.content (record { bytes = front; place = p.place + 2 }) ≡ y → Tail m trust None None (Some front) p x y
  note_made p x y front few_rows few_lines laid fits e is =
      let all : length p.bytes ≡ 2 + length front = omega (arith, ap length laid, ap length (append-nil front)) in
      let place : p.place + 2 ≡ (p.place + length p.bytes) - length front = omega arith in
      record {
        laid = laid ∙ ap (λ (ys : List ℕ). in_bytes 2 (head_word note_code (length front)) ++ ys) (append-nil front ∙ sym (bytes_written front));
        few_rows = omega arith;
        rows_keep = tt;
        few_lines = omega arith;
        lines_keep = tt;
        note_fits = fits;
        note_bytes = e;
        content = ap (λ (z : Loaded). z.content) (sym is);
        noted = ap (λ (z : Loaded). z.note) (sym is) ∙ (λ i. record { bytes = front; place = place i });
      }

  note_left : (p : PartRead) (x y : Loaded) → AllByRecursion Byte p.bytes → length x.content.rows ≤ 128 → length x.content.lines ≤ 128 → 2 ≤ length p.bytes → head_code p.bytes ≡ note_code → go_on (section_added m trust (next_section p) x) (at_end (past p)) ≡ Ok y → Tail m trust None None (Some (take (head_count p.bytes) (drop 2 p.bytes))) p x y
  note_left p x y e few_rows few_lines long is h =
      let n = head_count p.bytes in
      let front = take n (drop 2 p.bytes) in
      let g = went_on (section_added m trust (next_section p) x) (at_end (past p)) y h in
      let w = note_was m trust p x n front g.value (fault_at CutShort (p.place + 2)) (sym (note_section m trust p x is) ∙ g.answered) in
      let last = ended (past p) g.value y g.then in
      let whole : length front ≡ n = omega (arith, w.0, length-take n (drop 2 p.bytes)) in
      let rest : drop n (drop 2 p.bytes) ≡ [] = sym (past_note m trust p x is) ∙ nil_from_length (past p).bytes last.0 in
      let laid = laid_section p.bytes note_code (length front) n front long e is whole refl in
      note_made p x y front few_rows few_lines (laid ∙ ap (λ (ys : List ℕ). in_bytes 2 (head_word note_code (length front)) ++ (front ++ ys)) rest) (omega (arith, count_below (word2 p.bytes), whole)) (each_take n (drop 2 p.bytes) (each_drop 2 p.bytes e)) (w.1 ∙ last.1)

  pub note_tail : (p : PartRead) (x y : Loaded) → AllByRecursion Byte p.bytes → length x.content.rows ≤ 128 → length x.content.lines ≤ 128 → from_note m trust p x ≡ Ok y → (note : Option (List ℕ)) × Tail m trust None None note p x y
  note_tail p x y e few_rows few_lines h =
      elim (next_or_not note_code p.bytes) [
        | inl next ↦ (_, note_left p x y e few_rows few_lines next.0 next.1 (sym (takes_note m trust p x next.0 next.1) ∙ h))
        | inr other ↦ (None, none_left p x y few_rows few_lines (sym (passes_note m trust p x other) ∙ h))
      ]

  -- lines are left, and what follows them
  lines_made : (p : PartRead) (x y : Loaded) (ls : List Line) (note : Option (List ℕ)) → length x.content.rows ≤ 128 → length x.content.lines + length ls ≤ 128 → AllByRecursion (LineLimits m x.content.moments trust) ls → 2 ≤ length p.bytes → p.bytes ≡ in_bytes 2 (head_word lines_code (length ls)) ++ (flat_map line_bytes ls ++ (past p).bytes) → Tail m trust None None note (past p) (loaded_as (with_lines m trust x.content ls) x.note) y → Tail m trust None (Some ls) note p x y
  lines_made p x y ls note few_rows few_lines keep long laid t =
      record {
        laid = laid ∙ ap (λ (ys : List ℕ). in_bytes 2 (head_word lines_code (length ls)) ++ (flat_map line_bytes ls ++ ys)) t.laid;
        few_rows = omega arith;
        rows_keep = tt;
        few_lines = few_lines;
        lines_keep = keep;
        note_fits = t.note_fits;
        note_bytes = t.note_bytes;
        content = t.content;
        noted = t.noted ∙ ap (λ (k : ℕ). put_note note k x.note) (past_ends p long);
      }

  lines_then : (p : PartRead) (x y v : Loaded) (d : Content) → AllByRecursion Byte p.bytes → length x.content.rows ≤ 128 → 2 ≤ length p.bytes → head_code p.bytes ≡ lines_code → LinesRead m trust x.content d (head_count p.bytes) (take (8 * head_count p.bytes) (drop 2 p.bytes)) → with_content x d ≡ Ok v → from_note m trust (past p) v ≡ Ok y → (lines : Option (List Line)) × (note : Option (List ℕ)) × Tail m trust None lines note p x y
  lines_then p x y v d e few_rows long is r made h =
      let ls = r.lines in
      let n = head_count p.bytes in
      let after = with_lines m trust x.content ls in
      let same : v ≡ loaded_as after x.note = cc in
      let few : length after.lines ≤ 128 = rw (length-append x.content.lines (map (trusted_line m trust) ls), length-map ls (trusted_line m trust)) r.few in
      let t = note_tail (past p) (loaded_as after x.note) y (each_drop _ (drop 2 p.bytes) (each_drop 2 p.bytes e)) few_rows few (subst (λ (z : Loaded). from_note m trust (past p) z ≡ Ok y) same h) in
      let body = whole_body (8 * n) (drop 2 p.bytes) (flat_map line_bytes ls) r.laid in
      let laid = laid_section p.bytes lines_code (length ls) (8 * n) (flat_map line_bytes ls) long e is r.count body in
      let rest = ap (λ (ys : List ℕ). in_bytes 2 (head_word lines_code (length ls)) ++ (flat_map line_bytes ls ++ ys)) (sym (past_records m trust p x lines_code is refl)) in
      (Some ls, t.0, lines_made p x y ls t.0 few_rows r.few r.keep long (laid ∙ rest) t.1)

  lines_left : (p : PartRead) (x y : Loaded) → AllByRecursion Byte p.bytes → length x.content.rows ≤ 128 → length x.content.lines ≤ 128 → 2 ≤ length p.bytes → head_code p.bytes ≡ lines_code → go_on (section_added m trust (next_section p) x) (from_note m trust (past p)) ≡ Ok y → (lines : Option (List Line)) × (note : Option (List ℕ)) × Tail m trust None lines note p x y
  lines_left p x y e few_rows few_lines long is h =
      let n = head_count p.bytes in
      let body = take (8 * n) (drop 2 p.bytes) in
      let g = went_on (section_added m trust (next_section p) x) (from_note m trust (past p)) y h in
      let k = went_on (records_added (line_record m trust) n body (p.place + 2) x.content) (with_content x) g.value (sym (lines_section m trust p x is) ∙ g.answered) in
      let r = lines_back m trust n body (p.place + 2) x.content k.value (each_take (8 * n) (drop 2 p.bytes) (each_drop 2 p.bytes e)) few_lines k.answered in
      lines_then p x y g.value k.value e few_rows long is r k.then g.then

  pub lines_tail : (p : PartRead) (x y : Loaded) → AllByRecursion Byte p.bytes → length x.content.rows ≤ 128 → length x.content.lines ≤ 128 → from_lines m trust p x ≡ Ok y → (lines : Option (List Line)) × (note : Option (List ℕ)) × Tail m trust None lines note p x y
  lines_tail p x y e few_rows few_lines h =
      elim (next_or_not lines_code p.bytes) [
        | inl next ↦ lines_left p x y e few_rows few_lines next.0 next.1 (sym (takes_lines m trust p x next.0 next.1) ∙ h)
        | inr other ↦ let t = note_tail p x y e few_rows few_lines (sym (passes_lines m trust p x other) ∙ h) in (None, t.0, t.1)
      ]

  -- rows are left, and what follows them
  rows_made : (p : PartRead) (x y : Loaded) (rs : List Row) (lines : Option (List Line)) (note : Option (List ℕ)) → length x.content.rows + length rs ≤ 128 → AllByRecursion (RowLimits m x.content.modes) rs → 2 ≤ length p.bytes → p.bytes ≡ in_bytes 2 (head_word rows_code (length rs)) ++ (flat_map row_bytes rs ++ (past p).bytes) → Tail m trust None lines note (past p) (loaded_as (with_rows x.content rs) x.note) y → Tail m trust (Some rs) lines note p x y
  rows_made p x y rs lines note few_rows keep long laid t =
      record {
        laid = laid ∙ ap (λ (ys : List ℕ). in_bytes 2 (head_word rows_code (length rs)) ++ (flat_map row_bytes rs ++ ys)) t.laid;
        few_rows = few_rows;
        rows_keep = keep;
        few_lines = t.few_lines;
        lines_keep = t.lines_keep;
        note_fits = t.note_fits;
        note_bytes = t.note_bytes;
        content = t.content;
        noted = t.noted ∙ ap (λ (k : ℕ). put_note note k x.note) (past_ends p long);
      }

  rows_then : (p : PartRead) (x y v : Loaded) (d : Content) → AllByRecursion Byte p.bytes → length x.content.lines ≤ 128 → 2 ≤ length p.bytes → head_code p.bytes ≡ rows_code → RowsRead m x.content d (head_count p.bytes) (take (8 * head_count p.bytes) (drop 2 p.bytes)) → with_content x d ≡ Ok v → from_lines m trust (past p) v ≡ Ok y → (rows : Option (List Row)) × (lines : Option (List Line)) × (note : Option (List ℕ)) × Tail m trust rows lines note p x y
  rows_then p x y v d e few_lines long is r made h =
      let rs = r.rows in
      let n = head_count p.bytes in
      let after = with_rows x.content rs in
      let same : v ≡ loaded_as after x.note = cc in
      let few : length after.rows ≤ 128 = rw (length-append x.content.rows rs) r.few in
      let t = lines_tail (past p) (loaded_as after x.note) y (each_drop _ (drop 2 p.bytes) (each_drop 2 p.bytes e)) few few_lines (subst (λ (z : Loaded). from_lines m trust (past p) z ≡ Ok y) same h) in
      let body = whole_body (8 * n) (drop 2 p.bytes) (flat_map row_bytes rs) r.laid in
      let laid = laid_section p.bytes rows_code (length rs) (8 * n) (flat_map row_bytes rs) long e is r.count body in
      let rest = ap (λ (ys : List ℕ). in_bytes 2 (head_word rows_code (length rs)) ++ (flat_map row_bytes rs ++ ys)) (sym (past_records m trust p x rows_code is refl)) in
      (Some rs, t.0, t.1, rows_made p x y rs t.0 t.1 r.few r.keep long (laid ∙ rest) t.2)

  rows_left : (p : PartRead) (x y : Loaded) → AllByRecursion Byte p.bytes → length x.content.rows ≤ 128 → length x.content.lines ≤ 128 → 2 ≤ length p.bytes → head_code p.bytes ≡ rows_code → go_on (section_added m trust (next_section p) x) (from_lines m trust (past p)) ≡ Ok y → (rows : Option (List Row)) × (lines : Option (List Line)) × (note : Option (List ℕ)) × Tail m trust rows lines note p x y
  rows_left p x y e few_rows few_lines long is h =
      let n = head_count p.bytes in
      let body = take (8 * n) (drop 2 p.bytes) in
      let g = went_on (section_added m trust (next_section p) x) (from_lines m trust (past p)) y h in
      let k = went_on (records_added (row_record m) n body (p.place + 2) x.content) (with_content x) g.value (sym (rows_section m trust p x is) ∙ g.answered) in
      let r = rows_back m trust n body (p.place + 2) x.content k.value (each_take (8 * n) (drop 2 p.bytes) (each_drop 2 p.bytes e)) few_rows k.answered in
      rows_then p x y g.value k.value e few_lines long is r k.then g.then

  pub rows_tail : (p : PartRead) (x y : Loaded) → AllByRecursion Byte p.bytes → length x.content.rows ≤ 128 → length x.content.lines ≤ 128 → from_rows m trust p x ≡ Ok y → (rows : Option (List Row)) × (lines : Option (List Line)) × (note : Option (List ℕ)) × Tail m trust rows lines note p x y
  rows_tail p x y e few_rows few_lines h =
      elim (next_or_not rows_code p.bytes) [
        | inl next ↦ rows_left p x y e few_rows few_lines next.0 next.1 (sym (takes_rows m trust p x next.0 next.1) ∙ h)
        | inr other ↦ let t = lines_tail p x y e few_rows few_lines (sym (passes_rows m trust p x other) ∙ h) in (None, t.0, t.1, t.2)
      ]

-- a list that begins with a section of one code, or without it with no section of code k, has no section of code k next
pub not_next : {A : Type 0} (k code : ℕ) (f : A → List ℕ) (o : Option (List A)) (bs rest : List ℕ) → code < 16 → (code ≡ k → ⊥) → Count (length (held_in o)) → bs ≡ section_written code f o ++ rest → (o ≡ None → (length rest < 2) ⊎ (head_code rest ≡ k → ⊥)) → (length bs < 2) ⊎ (head_code bs ≡ k → ⊥)
not_next k code f None bs rest small other few laid h = subst (λ (ys : List ℕ). (length ys < 2) ⊎ (head_code ys ≡ k → ⊥)) (sym laid) (h refl)
not_next k code f (Some xs) bs rest small other few laid h =
    let a = head_at bs code (length xs) (length (flat_map f xs)) (flat_map f xs) rest small few refl laid in
    inr (λ e. other (sym a.its_code ∙ e))

-- From the layout to what is accepted.
same_loaded : (y : Loaded) (c : Content) (n : PartRead) → y.content ≡ c → y.note ≡ n → ◌≡◌ {A = Result Loaded LoadFault} (Ok (loaded_as c n)) (Ok y)
same_loaded y c n h k = ap Ok (λ i. loaded_as (sym h i) (sym k i))

module _ (m : Meaning) (trust : ℕ) (p : PartRead) (x : Loaded) where
  -- a section of each code that is whole
  pub adds_note : (bs rest : List ℕ) → HeadAt p.bytes note_code (length bs) (length bs) bs rest → section_added m trust (next_section p) x ≡ Ok (loaded_as x.content (record { bytes = bs; place = p.place + 2 }))
  adds_note bs rest a =
      let whole = le-ltb (length bs) (length bs) (omega arith) in
      note_section m trust p x a.its_code ∙ rw (a.its_count, a.its_body, whole)

  pub adds_lines : (ls : List Line) (rest : List ℕ) → length x.content.lines + length ls ≤ 128 → AllByRecursion (LineLimits m x.content.moments trust) ls → HeadAt p.bytes lines_code (length ls) (8 * length ls) (flat_map line_bytes ls) rest → section_added m trust (next_section p) x ≡ Ok (loaded_as (with_lines m trust x.content ls) x.note)
  adds_lines ls rest few keep a =
      let r = lines_forth m trust ls [] (p.place + 2) x.content few keep in
      let body = append-nil (flat_map line_bytes ls) in
      lines_section m trust p x a.its_code ∙ rw (a.its_count, a.its_body, ← body, r)

  pub adds_rows : (rs : List Row) (rest : List ℕ) → length x.content.rows + length rs ≤ 128 → AllByRecursion (RowLimits m x.content.modes) rs → HeadAt p.bytes rows_code (length rs) (8 * length rs) (flat_map row_bytes rs) rest → section_added m trust (next_section p) x ≡ Ok (loaded_as (with_rows x.content rs) x.note)
  adds_rows rs rest few keep a =
      let r = rows_forth m trust rs [] (p.place + 2) x.content few keep in
      let body = append-nil (flat_map row_bytes rs) in
      rows_section m trust p x a.its_code ∙ rw (a.its_count, a.its_body, ← body, r)

  -- what follows such a section
  pub note_rest : (n : ℕ) (body rest : List ℕ) → HeadAt p.bytes note_code n n body rest → (past p).bytes ≡ rest
  note_rest n body rest a = past_note m trust p x a.its_code ∙ (ap (λ (k : ℕ). drop k (drop 2 p.bytes)) a.its_count ∙ a.its_rest)

  pub records_rest : (code n : ℕ) (body rest : List ℕ) → eqb code note_code ≡ false → HeadAt p.bytes code n (8 * n) body rest → (past p).bytes ≡ rest
  records_rest code n body rest other a = past_records m trust p x code a.its_code other ∙ (ap (λ (k : ℕ). drop (8 * k) (drop 2 p.bytes)) a.its_count ∙ a.its_rest)

module _ (m : Meaning) (trust : ℕ) where
  pub note_accepted : (note : Option (List ℕ)) (p : PartRead) (x y : Loaded) → Tail m trust None None note p x y → from_note m trust p x ≡ Ok y
  note_accepted None p x y t =
      let none = ap length t.laid in
      passes_note m trust p x (inl (omega (arith, none))) ∙ (ends p x none ∙ same_loaded y _ _ t.content t.noted)
  note_accepted (Some bs) p x y t =
      let laid = t.laid ∙ ap (λ (ys : List ℕ). in_bytes 2 (head_word note_code (length bs)) ++ ys) (bytes_written bs ∙ sym (append-nil bs)) in
      let a = head_at p.bytes note_code (length bs) (length bs) bs [] (omega arith) t.note_fits refl laid in
      let all : length p.bytes ≡ 2 + length bs = omega (arith, ap length laid, ap length (append-nil bs)) in
      let place : (p.place + length p.bytes) - length bs ≡ p.place + 2 = omega arith in
      let last = ends (past p) (loaded_as x.content (record { bytes = bs; place = p.place + 2 })) (ap length (note_rest m trust p x (length bs) bs [] a)) in
      takes_note m trust p x a.long a.its_code
      ∙ (ap (λ (o : Result Loaded LoadFault). go_on o (at_end (past p))) (adds_note m trust p x bs [] a)
      ∙ (last ∙ same_loaded y _ _ t.content (t.noted ∙ (λ i. record { bytes = bs; place = place i }))))

  pub lines_accepted : (lines : Option (List Line)) (note : Option (List ℕ)) (p : PartRead) (x y : Loaded) → Tail m trust None lines note p x y → from_lines m trust p x ≡ Ok y
  lines_accepted None note p x y t =
      let other = not_next lines_code note_code one_byte note p.bytes [] (omega arith) (λ e. omega arith) t.note_fits (t.laid ∙ sym (append-nil (section_written note_code one_byte note))) (λ _. inl (omega arith)) in
      passes_lines m trust p x other ∙ note_accepted note p x y t
  lines_accepted (Some ls) note p x y t =
      let rest = section_written note_code one_byte note in
      let a = head_at p.bytes lines_code (length ls) (8 * length ls) (flat_map line_bytes ls) rest (omega arith) (omega (arith, t.few_lines)) (each_length line_bytes (λ l. refl) ls) t.laid in
      let after = with_lines m trust x.content ls in
      let few : length after.lines ≤ 128 = rw (length-append x.content.lines (map (trusted_line m trust) ls), length-map ls (trusted_line m trust)) t.few_lines in
      let on : Tail m trust None None note (past p) (loaded_as after x.note) y = record {
        laid = records_rest m trust p x lines_code (length ls) (flat_map line_bytes ls) rest refl a;
        few_rows = t.few_rows;
        rows_keep = tt;
        few_lines = omega (arith, few);
        lines_keep = tt;
        note_fits = t.note_fits;
        note_bytes = t.note_bytes;
        content = t.content;
        noted = t.noted ∙ ap (λ (k : ℕ). put_note note k x.note) (sym (past_ends p a.long));
      } in
      takes_lines m trust p x a.long a.its_code
      ∙ (ap (λ (o : Result Loaded LoadFault). go_on o (from_note m trust (past p))) (adds_lines m trust p x ls rest t.few_lines t.lines_keep a)
      ∙ note_accepted note (past p) (loaded_as after x.note) y on)

  pub rows_accepted : (rows : Option (List Row)) (lines : Option (List Line)) (note : Option (List ℕ)) (p : PartRead) (x y : Loaded) → Tail m trust rows lines note p x y → from_rows m trust p x ≡ Ok y
  rows_accepted None lines note p x y t =
      let last = not_next rows_code note_code one_byte note (section_written note_code one_byte note) [] (omega arith) (λ e. omega arith) t.note_fits (sym (append-nil (section_written note_code one_byte note))) (λ _. inl (omega arith)) in
      let other = not_next rows_code lines_code line_bytes lines p.bytes (section_written note_code one_byte note) (omega arith) (λ e. omega arith) (omega (arith, t.few_lines)) t.laid (λ _. last) in
      passes_rows m trust p x other ∙ lines_accepted lines note p x y t
  rows_accepted (Some rs) lines note p x y t =
      let rest = section_written lines_code line_bytes lines ++ section_written note_code one_byte note in
      let a = head_at p.bytes rows_code (length rs) (8 * length rs) (flat_map row_bytes rs) rest (omega arith) (omega (arith, t.few_rows)) (each_length row_bytes (λ r. refl) rs) t.laid in
      let after = with_rows x.content rs in
      let few : length after.rows ≤ 128 = rw (length-append x.content.rows rs) t.few_rows in
      let on : Tail m trust None lines note (past p) (loaded_as after x.note) y = record {
        laid = records_rest m trust p x rows_code (length rs) (flat_map row_bytes rs) rest refl a;
        few_rows = omega (arith, few);
        rows_keep = tt;
        few_lines = t.few_lines;
        lines_keep = t.lines_keep;
        note_fits = t.note_fits;
        note_bytes = t.note_bytes;
        content = t.content;
        noted = t.noted ∙ ap (λ (k : ℕ). put_note note k x.note) (sym (past_ends p a.long));
      } in
      takes_rows m trust p x a.long a.its_code
      ∙ (ap (λ (o : Result Loaded LoadFault). go_on o (from_lines m trust (past p))) (adds_rows m trust p x rs rest t.few_rows t.rows_keep a)
      ∙ lines_accepted lines note (past p) (loaded_as after x.note) y on)
