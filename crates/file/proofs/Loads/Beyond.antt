-- What stands beyond a file's first bytes: the limits stop every load before, so it changes nothing.
use Rattle.std.proofs.Common.{◌≡◌, ℕ, zero, suc, ◌+◌, ◌-◌, ◌*◌, ◌<◌, ◌≤◌, min, ◌⊎◌, ⊎_elim, List, [], ◌∷◌, ◌++◌, length, take, drop, Ok, Err, Result, sym, refl, ap, ◌∙◌, inl, inr, arith, length-append, take-append-drop}
use Rattle.std.proofs.lemmas.List.{length-take, length-drop, take_all, take-append-le, drop-append-le}
use Rattle.std.proofs.lemmas.Bool.{le-ltb, cases_lt}
use Rattle.std.proofs.lemmas.Bool.Decides.{nat_tests}
use Rattle.costs.specs.Meaning.{Meaning}
use Rattle.board.specs.Content.{Content, new}
use Rattle.board.specs.Calls.{row_refusal, row_after, with_row, line_refusal, line_after, with_line}
use Rattle.file.specs.declared.refusal.FileRefusal.{FileRefusal}
use Rattle.file.specs.declared.refusal.FileRefusal.TheVariants.{WrongSection}
use Rattle.file.specs.declared.refusal.LoadFault.{LoadFault}
use Rattle.file.specs.Fields.{field, word2, word4, word8, head_code, head_count, row_read, line_read}
use Rattle.file.specs.Parts.{PartRead, fault_at}
use Rattle.file.specs.Sections.{rows_code, lines_code, note_code, head_size, next_section, past}
use Rattle.file.specs.Records.{go_on, at_place, row_added, line_added, trusted_line, row_record, line_record, records_added}
use Rattle.file.specs.Load.{Loaded, loaded_as, with_content, section_added, at_end, from_note, from_lines, from_rows, Opened, opened, after_header, no_note, loaded, load_answer, load_after, note_answer, content_left}
use Rattle.file.proofs.Loads.Turns.{passes_note, passes_lines, passes_rows, takes_note, takes_lines, takes_rows}
use Rattle.file.proofs.Loads.Heads.{next_or_not}
use Rattle.file.proofs.Loads.Limits.{row_taken, line_taken, went_on, was_called}
use Rattle.file.proofs.Loads.Words.{count_below}
use Rattle.file.proofs.Loads.Tails.{rows_section, lines_section}

-- both are refused, with one fault
pub record Alike {X : Type 0} (a b : Result X LoadFault) : Type 0 where
  pub why : LoadFault
  pub first : a ≡ Err why
  pub second : b ≡ Err why

-- the first bytes, whatever follows
word2_on : (bs ys : List ℕ) → 2 ≤ length bs → word2 (bs ++ ys) ≡ word2 bs
word2_on [] ys h = absurd (omega arith)
word2_on (a ∷ []) ys h = absurd (omega arith)
word2_on (a ∷ b ∷ bs) ys h = refl

word4_on : (bs ys : List ℕ) → 4 ≤ length bs → word4 (bs ++ ys) ≡ word4 bs
word4_on [] ys h = absurd (omega arith)
word4_on (a ∷ []) ys h = absurd (omega arith)
word4_on (a ∷ b ∷ []) ys h = absurd (omega arith)
word4_on (a ∷ b ∷ c ∷ []) ys h = absurd (omega arith)
word4_on (a ∷ b ∷ c ∷ d ∷ bs) ys h = refl

pub word8_on : (bs ys : List ℕ) → 8 ≤ length bs → word8 (bs ++ ys) ≡ word8 bs
word8_on [] ys h = absurd (omega arith)
word8_on (a ∷ []) ys h = absurd (omega arith)
word8_on (a ∷ b ∷ []) ys h = absurd (omega arith)
word8_on (a ∷ b ∷ c ∷ []) ys h = absurd (omega arith)
word8_on (a ∷ b ∷ c ∷ d ∷ []) ys h = absurd (omega arith)
word8_on (a ∷ b ∷ c ∷ d ∷ i ∷ []) ys h = absurd (omega arith)
word8_on (a ∷ b ∷ c ∷ d ∷ i ∷ j ∷ []) ys h = absurd (omega arith)
word8_on (a ∷ b ∷ c ∷ d ∷ i ∷ j ∷ k ∷ []) ys h = absurd (omega arith)
word8_on (a ∷ b ∷ c ∷ d ∷ i ∷ j ∷ k ∷ l ∷ bs) ys h = refl

-- the front of a longer list is that of the shorter, and something
take_on : (n : ℕ) (xs ys : List ℕ) → (zs : List ℕ) × (take n (xs ++ ys) ≡ take n xs ++ zs)
take_on zero [] [] = ([], refl)
take_on zero [] (y ∷ ys) = ([], refl)
take_on zero (x ∷ xs) ys = ([], refl)
take_on (suc n) [] ys = (take (suc n) ys, refl)
take_on (suc n) (x ∷ xs) ys = let t = take_on n xs ys in (t.0, ap (λ (zs : List ℕ). x ∷ zs) t.1)

-- a record that is put on the board is one more that is held, and there is room for 128
Counts : (Content → ℕ → Result Content FileRefusal) → (Content → ℕ) → Type 0
Counts add held = (c d : Content) (w : ℕ) → add c w ≡ Ok d → (held c < 128) × (held d ≡ held c + 1)

module _ (add : Content → ℕ → Result Content FileRefusal) where
  -- one record more, by what is made of it
  turn : (n : ℕ) (bs : List ℕ) (place : ℕ) (c : Content) (o : Result Content FileRefusal) → 8 ≤ length bs → add c (word8 bs) ≡ o → records_added add (suc n) bs place c ≡ go_on (at_place o place) (records_added add n (drop 8 bs) (place + 8))
  unfolding records_added
  turn n bs place c o long e = let l = le-ltb (length bs) 8 long in rw (l, e)

  -- refused alike, by what is made of the first record
  after : (n : ℕ) (bs ys : List ℕ) (place : ℕ) (c : Content) (o : Result Content FileRefusal) → 8 ≤ length bs → add c (word8 bs) ≡ o → ((d : Content) → o ≡ Ok d → Alike (records_added add n (drop 8 bs ++ ys) (place + 8) d) (records_added add n (drop 8 bs) (place + 8) d)) → Alike (records_added add (suc n) (bs ++ ys) place c) (records_added add (suc n) bs place c)
  after n bs ys place c (Err e) long is then =
      record {
        why = fault_at e place;
        first = turn n (bs ++ ys) place c (Err e) (omega (arith, length-append bs ys)) (ap (add c) (word8_on bs ys long) ∙ is);
        second = turn n bs place c (Err e) long is;
      }
  after n bs ys place c (Ok d) long is then =
      let a = then d refl in
      record {
        why = a.why;
        first = turn n (bs ++ ys) place c (Ok d) (omega (arith, length-append bs ys)) (ap (add c) (word8_on bs ys long) ∙ is) ∙ (ap (λ (zs : List ℕ). records_added add n zs (place + 8) d) (drop-append-le 8 bs ys long) ∙ a.first);
        second = turn n bs place c (Ok d) long is ∙ a.second;
      }

  -- more records than there is room for are refused among the first of them
  module _ (held : Content → ℕ) (counts : Counts add held) where
    stopped : (k n : ℕ) (bs ys : List ℕ) (place : ℕ) (c : Content) → 8 * suc k ≤ length bs → k < n → 128 ≤ held c + k → Alike (records_added add n (bs ++ ys) place c) (records_added add n bs place c)
    unfolding Counts
    stopped k zero bs ys place c long more full = absurd (omega arith)
    stopped zero (suc n) bs ys place c long more full =
        after n bs ys place c (add c (word8 bs)) (omega arith) refl (λ d e. let h = counts c d (word8 bs) e in absurd (omega (arith, h.0)))
    stopped (suc k) (suc n) bs ys place c long more full =
        after n bs ys place c (add c (word8 bs)) (omega arith) refl (λ d e. let h = counts c d (word8 bs) e in stopped k n (drop 8 bs) ys (place + 8) d (omega (arith, length-drop 8 bs)) (omega arith) (omega (arith, h.1)))

module _ (m : Meaning) (trust : ℕ) where
  row_counts : Counts (row_record m) (λ (c : Content). length c.rows)
  unfolding Counts row_added
  row_counts c d w h =
      let g = went_on (row_read w) (row_added m c) d h in
      let k = was_called (row_refusal m c g.value) (row_after m c g.value) d g.then in
      let left : row_after m c g.value ≡ with_row c g.value = let e = k.0 in rw e in
      ((row_taken m c g.value k.0).room, ap (λ (z : Content). length z.rows) (sym k.1 ∙ left) ∙ length-append c.rows (g.value ∷ []))

  line_counts : Counts (line_record m trust) (λ (c : Content). length c.lines)
  unfolding Counts line_added
  line_counts c d w h =
      let g = went_on (line_read w) (λ l. line_added m c (trusted_line m trust l)) d h in
      let l = trusted_line m trust g.value in
      let k = was_called (line_refusal m c l) (line_after m c l) d g.then in
      let left : line_after m c l ≡ with_line c l = let e = k.0 in rw e in
      ((line_taken m c l k.0).room, ap (λ (z : Content). length z.lines) (sym k.1 ∙ left) ∙ length-append c.lines (l ∷ []))

-- a piece with more bytes behind it
abbrev longer : PartRead → List ℕ → PartRead
longer q ys = record { bytes = q.bytes ++ ys; place = q.place }

code_on : (bs ys : List ℕ) → 2 ≤ length bs → head_code (bs ++ ys) ≡ head_code bs
code_on bs ys long = ap (λ (w : ℕ). field w 12 4) (word2_on bs ys long)

count_on : (bs ys : List ℕ) → 2 ≤ length bs → head_count (bs ++ ys) ≡ head_count bs
count_on bs ys long = ap (λ (w : ℕ). field w 0 12) (word2_on bs ys long)

size_on : (bs ys : List ℕ) → 2 ≤ length bs → head_size (bs ++ ys) ≡ head_size bs
size_on bs ys long = let c = code_on bs ys long in let n = count_on bs ys long in rw (c, n)

-- what is left after a section that the shorter piece holds whole
past_on : (q : PartRead) (ys : List ℕ) → head_size q.bytes + 2 ≤ length q.bytes → past (longer q ys) ≡ longer (past q) ys
past_on q ys whole =
    let s = size_on q.bytes ys (omega arith) in
    let b : drop (head_size (q.bytes ++ ys)) (drop 2 (q.bytes ++ ys)) ≡ drop (head_size q.bytes) (drop 2 q.bytes) ++ ys =
    rw s (ap (drop (head_size q.bytes)) (drop-append-le 2 q.bytes ys (omega arith)) ∙ drop-append-le (head_size q.bytes) (drop 2 q.bytes) ys (omega (arith, length-drop 2 q.bytes))) in
    let p : q.place + 2 + min (head_size (q.bytes ++ ys)) (length (q.bytes ++ ys) - 2) ≡ q.place + 2 + min (head_size q.bytes) (length q.bytes - 2) =
    rw s (omega (arith, length-append q.bytes ys)) in
    λ i. record { bytes = b i; place = p i }

past_length : (q : PartRead) → length (past q).bytes ≡ length q.bytes - 2 - head_size q.bytes
past_length q = length-drop (head_size q.bytes) (drop 2 q.bytes) ∙ ap (λ (n : ℕ). n - head_size q.bytes) (length-drop 2 q.bytes)

-- two bytes or more where no section may come
end_refused : (p : PartRead) (x : Loaded) → 2 ≤ length p.bytes → at_end p x ≡ Err (fault_at WrongSection p.place)
unfolding at_end
end_refused p x long = grind (arith, nat_tests)

module _ (m : Meaning) (trust : ℕ) where
  -- a note that the file holds whole
  pub note_kept : (p : PartRead) (x : Loaded) → head_code p.bytes ≡ note_code → head_count p.bytes + 2 ≤ length p.bytes → section_added m trust (next_section p) x ≡ Ok (loaded_as x.content (next_section p).part)
  note_kept p x is long =
      let n = head_count p.bytes in
      let whole = le-ltb (length (take n (drop 2 p.bytes))) n (omega (arith, length-take n (drop 2 p.bytes), length-drop 2 p.bytes)) in
      rw (is, whole)

  note_on : (q : PartRead) (ys : List ℕ) (x y : Loaded) → 4099 ≤ length q.bytes → Alike (from_note m trust (longer q ys) x) (from_note m trust q y)
  note_on q ys x y long =
      let long' : 2 ≤ length (q.bytes ++ ys) = omega (arith, length-append q.bytes ys) in
      let c = code_on q.bytes ys (omega arith) in
      let n = count_on q.bytes ys (omega arith) in
      let few = count_below (word2 q.bytes) in
      elim (next_or_not 3 q.bytes) [
        | inl next ↦
            let size : head_size q.bytes ≡ head_count q.bytes = let e = next.1 in rw e in
            let past' = past_on q ys (omega arith) in
            let end : 2 ≤ length (past q).bytes = omega (arith, past_length q) in
            record {
              why = fault_at WrongSection (past q).place;
              first = takes_note m trust (longer q ys) x long' (c ∙ next.1) ∙ (ap (λ (o : Result Loaded LoadFault). go_on o (at_end (past (longer q ys)))) (note_kept (longer q ys) x (c ∙ next.1) (omega (arith, length-append q.bytes ys))) ∙ (ap (λ (p : PartRead). at_end p (loaded_as x.content (next_section (longer q ys)).part)) past' ∙ end_refused (longer (past q) ys) _ (omega (arith, length-append (past q).bytes ys))));
              second = takes_note m trust q y next.0 next.1 ∙ (ap (λ (o : Result Loaded LoadFault). go_on o (at_end (past q))) (note_kept q y next.1 (omega arith)) ∙ end_refused (past q) _ end);
            }
        | inr other ↦
            record {
              why = fault_at WrongSection q.place;
              first = passes_note m trust (longer q ys) x (⊎_elim (λ h. absurd (omega arith)) (λ h. inr (λ e. h (sym c ∙ e))) other) ∙ end_refused (longer q ys) x long';
              second = passes_note m trust q y other ∙ end_refused q y (omega arith);
            }
      ]

  -- a section of records, and what comes next, which is refused alike where so many bytes are left
  module _ (code : ℕ) (add : Content → ℕ → Result Content FileRefusal) (held : Content → ℕ) (counts : Counts add held) (size : ℕ) (next : PartRead → Loaded → Result Loaded LoadFault) (sized : (p : PartRead) → head_code p.bytes ≡ code → head_size p.bytes ≡ 8 * head_count p.bytes) (is_section : (p : PartRead) (x : Loaded) → head_code p.bytes ≡ code → section_added m trust (next_section p) x ≡ go_on (records_added add (head_count p.bytes) (take (8 * head_count p.bytes) (drop 2 p.bytes)) (p.place + 2) x.content) (with_content x)) (next_on : (q : PartRead) (ys : List ℕ) (c : Content) (u v : PartRead) → size ≤ length q.bytes → Alike (next (longer q ys) (loaded_as c u)) (next q (loaded_as c v))) where
    section : PartRead → Loaded → Result Loaded LoadFault
    section p x = go_on (section_added m trust (next_section p) x) (next (past p))

    -- by what the records make of the board
    by : (p : PartRead) (x : Loaded) (o : Result Content LoadFault) → head_code p.bytes ≡ code → records_added add (head_count p.bytes) (take (8 * head_count p.bytes) (drop 2 p.bytes)) (p.place + 2) x.content ≡ o → section p x ≡ go_on (go_on o (with_content x)) (next (past p))
    unfolding section
    by p x o is e = ap (λ (z : Result Loaded LoadFault). go_on z (next (past p))) (is_section p x is ∙ ap (λ (z : Result Content LoadFault). go_on z (with_content x)) e)

    -- the records of the longer piece
    records_on : (q : PartRead) (ys : List ℕ) (c : Content) (zs : List ℕ) → 2 ≤ length q.bytes → take (8 * head_count q.bytes) (drop 2 q.bytes ++ ys) ≡ zs → records_added add (head_count (q.bytes ++ ys)) (take (8 * head_count (q.bytes ++ ys)) (drop 2 (q.bytes ++ ys))) (q.place + 2) c ≡ records_added add (head_count q.bytes) zs (q.place + 2) c
    records_on q ys c zs long e =
        let n = count_on q.bytes ys long in
        let d = drop-append-le 2 q.bytes ys long in
        rw (n, d, e)

    few_on : (q : PartRead) (ys : List ℕ) (c : Content) (u v : PartRead) (o : Result Content LoadFault) → 1034 + size ≤ length q.bytes → head_code q.bytes ≡ code → head_count q.bytes < 129 → records_added add (head_count q.bytes) (take (8 * head_count q.bytes) (drop 2 q.bytes)) (q.place + 2) c ≡ o → Alike (section (longer q ys) (loaded_as c u)) (section q (loaded_as c v))
    few_on q ys c u v (Err e) long is few r =
        let t = take-append-le (8 * head_count q.bytes) (drop 2 q.bytes) ys (omega (arith, length-drop 2 q.bytes)) in
        record {
          why = e;
          first = by (longer q ys) (loaded_as c u) (Err e) (code_on q.bytes ys (omega arith) ∙ is) (records_on q ys c _ (omega arith) t ∙ r);
          second = by q (loaded_as c v) (Err e) is r;
        }
    few_on q ys c u v (Ok d) long is few r =
        let t = take-append-le (8 * head_count q.bytes) (drop 2 q.bytes) ys (omega (arith, length-drop 2 q.bytes)) in
        let s = sized q is in
        let left : size ≤ length (past q).bytes = omega (arith, past_length q) in
        let a = next_on (past q) ys d u v left in
        record {
          why = a.why;
          first = by (longer q ys) (loaded_as c u) (Ok d) (code_on q.bytes ys (omega arith) ∙ is) (records_on q ys c _ (omega arith) t ∙ r) ∙ (ap (λ (p : PartRead). next p (loaded_as d u)) (past_on q ys (omega arith)) ∙ a.first);
          second = by q (loaded_as c v) (Ok d) is r ∙ a.second;
        }

    many_on : (q : PartRead) (ys : List ℕ) (c : Content) (u v : PartRead) → 1034 + size ≤ length q.bytes → head_code q.bytes ≡ code → 129 ≤ head_count q.bytes → Alike (section (longer q ys) (loaded_as c u)) (section q (loaded_as c v))
    many_on q ys c u v long is many =
        let n = head_count q.bytes in
        let front = take (8 * n) (drop 2 q.bytes) in
        let t = take_on (8 * n) (drop 2 q.bytes) ys in
        let a = stopped add held counts 128 n front t.0 (q.place + 2) c (omega (arith, length-take (8 * n) (drop 2 q.bytes), length-drop 2 q.bytes)) (omega arith) (omega arith) in
        record {
          why = a.why;
          first = by (longer q ys) (loaded_as c u) (Err a.why) (code_on q.bytes ys (omega arith) ∙ is) (records_on q ys c _ (omega arith) t.1 ∙ a.first);
          second = by q (loaded_as c v) (Err a.why) is a.second;
        }

    section_on : (q : PartRead) (ys : List ℕ) (c : Content) (u v : PartRead) → 1034 + size ≤ length q.bytes → head_code q.bytes ≡ code → Alike (section (longer q ys) (loaded_as c u)) (section q (loaded_as c v))
    section_on q ys c u v long is =
        elim (cases_lt (head_count q.bytes) 129) [
          | inl few ↦ few_on q ys c u v _ long is few refl
          | inr many ↦ many_on q ys c u v long is many
        ]

  alike_by : {a a' b b' : Result Loaded LoadFault} → a ≡ a' → b ≡ b' → Alike a' b' → Alike a b
  alike_by e f h = record { why = h.why; first = e ∙ h.first; second = f ∙ h.second }

  other_on : (q : PartRead) (ys : List ℕ) (code : ℕ) → 2 ≤ length q.bytes → (length q.bytes < 2) ⊎ (head_code q.bytes ≡ code → ⊥) → (length (q.bytes ++ ys) < 2) ⊎ (head_code (q.bytes ++ ys) ≡ code → ⊥)
  other_on q ys code long other = let c = code_on q.bytes ys long in ⊎_elim (λ h. absurd (omega arith)) (λ h. inr (λ e. h (sym c ∙ e))) other

  lines_on : (q : PartRead) (ys : List ℕ) (c : Content) (u v : PartRead) → 5133 ≤ length q.bytes → Alike (from_lines m trust (longer q ys) (loaded_as c u)) (from_lines m trust q (loaded_as c v))
  unfolding section
  lines_on q ys c u v long =
      let long' : 2 ≤ length (q.bytes ++ ys) = omega (arith, length-append q.bytes ys) in
      elim (next_or_not 2 q.bytes) [
        | inl next ↦ alike_by (takes_lines m trust (longer q ys) (loaded_as c u) long' (code_on q.bytes ys next.0 ∙ next.1)) (takes_lines m trust q (loaded_as c v) next.0 next.1)
            (section_on lines_code (line_record m trust) (λ (d : Content). length d.lines) (line_counts m trust) 4099 (from_note m trust) (λ p h. rw h) (lines_section m trust) (λ p zs d w z h. note_on p zs (loaded_as d w) (loaded_as d z) h) q ys c u v long next.1)
        | inr other ↦ alike_by (passes_lines m trust (longer q ys) (loaded_as c u) (other_on q ys 2 (omega arith) other)) (passes_lines m trust q (loaded_as c v) other) (note_on q ys (loaded_as c u) (loaded_as c v) (omega arith))
      ]

  rows_on : (q : PartRead) (ys : List ℕ) (c : Content) (u v : PartRead) → 6167 ≤ length q.bytes → Alike (from_rows m trust (longer q ys) (loaded_as c u)) (from_rows m trust q (loaded_as c v))
  unfolding section
  rows_on q ys c u v long =
      let long' : 2 ≤ length (q.bytes ++ ys) = omega (arith, length-append q.bytes ys) in
      elim (next_or_not 1 q.bytes) [
        | inl next ↦ alike_by (takes_rows m trust (longer q ys) (loaded_as c u) long' (code_on q.bytes ys next.0 ∙ next.1)) (takes_rows m trust q (loaded_as c v) next.0 next.1)
            (section_on rows_code (row_record m) (λ (d : Content). length d.rows) (row_counts m trust) 5133 (from_lines m trust) (λ p h. rw h) (rows_section m trust) lines_on q ys c u v long next.1)
        | inr other ↦ alike_by (passes_rows m trust (longer q ys) (loaded_as c u) (other_on q ys 1 (omega arith) other)) (passes_rows m trust q (loaded_as c v) other) (lines_on q ys c u v (omega arith))
      ]

module _ (m : Meaning) where
  -- the header's part
  opened_on : (bs ys : List ℕ) (c : Content) → 4 ≤ length bs → opened m (bs ++ ys) c ≡ opened m bs c
  opened_on bs ys c long =
      let l = le-ltb (length bs) 4 long in
      let l' = le-ltb (length (bs ++ ys)) 4 (omega (arith, length-append bs ys)) in
      let w = word4_on bs ys long in
      rw (l, l', w)

  loaded_by : (bs ys : List ℕ) (o : Result Opened FileRefusal) → 6171 ≤ length bs → opened m bs new ≡ o → Alike (loaded m (bs ++ ys)) (loaded m bs)
  loaded_by bs ys (Err e) long is =
      record {
        why = fault_at e 0;
        first = ap (λ (o : Result Opened FileRefusal). go_on (at_place o 0) (λ (z : Opened). from_rows m z.trust (after_header (bs ++ ys)) (loaded_as z.content (no_note (bs ++ ys))))) (opened_on bs ys new (omega arith) ∙ is);
        second = ap (λ (o : Result Opened FileRefusal). go_on (at_place o 0) (λ (z : Opened). from_rows m z.trust (after_header bs) (loaded_as z.content (no_note bs)))) is;
      }
  loaded_by bs ys (Ok d) long is =
      let a = rows_on m d.trust (after_header bs) ys d.content (no_note (bs ++ ys)) (no_note bs) (omega (arith, length-drop 4 bs)) in
      let h : after_header (bs ++ ys) ≡ longer (after_header bs) ys = λ i. record { bytes = drop-append-le 4 bs ys (omega arith) i; place = 4 } in
      record {
        why = a.why;
        first = ap (λ (o : Result Opened FileRefusal). go_on (at_place o 0) (λ (z : Opened). from_rows m z.trust (after_header (bs ++ ys)) (loaded_as z.content (no_note (bs ++ ys))))) (opened_on bs ys new (omega arith) ∙ is) ∙ (ap (λ (p : PartRead). from_rows m d.trust p (loaded_as d.content (no_note (bs ++ ys)))) h ∙ a.first);
        second = ap (λ (o : Result Opened FileRefusal). go_on (at_place o 0) (λ (z : Opened). from_rows m z.trust (after_header bs) (loaded_as z.content (no_note bs)))) is ∙ a.second;
      }

  -- the first 8,192 bytes tell what a load answers and leaves
  told_by_first : (bs ys : List ℕ) → Alike (loaded m (bs ++ ys)) (loaded m bs) → (load_answer m bs ≡ load_answer m (bs ++ ys)) × (load_after m bs ≡ load_after m (bs ++ ys))
  told_by_first bs ys a = (ap note_answer (a.second ∙ sym a.first), ap content_left (a.second ∙ sym a.first))

  pub first_bytes : (bs : List ℕ) → (load_answer m (take 8192 bs) ≡ load_answer m bs) × (load_after m (take 8192 bs) ≡ load_after m bs)
  first_bytes bs =
      elim (cases_lt 8192 (length bs)) [
        | inl long ↦
            let front = take 8192 bs in
            let a = told_by_first front (drop 8192 bs) (loaded_by front (drop 8192 bs) _ (omega (arith, length-take 8192 bs)) refl) in
            let whole = take-append-drop 8192 bs in
            (a.0 ∙ ap (load_answer m) whole, a.1 ∙ ap (load_after m) whole)
        | inr short ↦ let e = take_all 8192 bs short in (ap (load_answer m) e, ap (load_after m) e)
      ]
