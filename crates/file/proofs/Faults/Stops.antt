-- Records one after the other: where they stop, and what is left once some are put on the board.
use Rattle.std.proofs.Common.{◌≡◌, ℕ, zero, suc, ◌+◌, ◌*◌, ◌^◌, ◌<◌, ◌≤◌, Bool, true, false, cond, ltb, List, [], ◌∷◌, ◌++◌, length, take, drop, Ok, Err, Result, sym, refl, ap, ◌∙◌, subst, inl, inr, arith, take-append-drop}
use Rattle.std.proofs.lemmas.List.{length-take, take_all, drop-take}
use Rattle.std.proofs.lemmas.Bool.{ltb-false, le-ltb, cases_lt}
use Rattle.std.specs.List.{flat_map, AllByRecursion}
use Rattle.board.specs.Content.{Content}
use Rattle.file.specs.declared.refusal.FileRefusal.{FileRefusal}
use Rattle.file.specs.declared.refusal.FileRefusal.TheVariants.{CutShort}
use Rattle.file.specs.declared.refusal.LoadFault.{LoadFault}
use Rattle.file.specs.Fields.{word8}
use Rattle.file.specs.Parts.{fault_at}
use Rattle.file.specs.Records.{go_on, at_place, record_next, records_added}
use Rattle.file.specs.Layout.{in_bytes, Byte}
use Rattle.file.proofs.Loads.Bytes.{word8_bytes, bytes_word8, word8_fits, each_drop}
use Rattle.file.proofs.Loads.Steps.{records_more}
use Rattle.file.proofs.Loads.Sequences.{Run, WasAdded}
use Rattle.file.proofs.Loads.Beyond.{word8_on}

module _ (add : Content → ℕ → Result Content FileRefusal) where
  -- so many records stand in the bytes that they take up
  front_next : (k : ℕ) (bs : List ℕ) (c : Content) → 8 ≤ k → record_next add (take k bs) c ≡ record_next add bs c
  front_next k bs c h =
      elim (cases_lt (length bs) 8) [
        | inl short ↦ ap (λ (xs : List ℕ). record_next add xs c) (take_all k bs (omega arith))
        | inr long ↦
            let front : 8 ≤ length (take k bs) = omega (arith, length-take k bs) in
            let l = le-ltb (length bs) 8 long in
            let l' = le-ltb (length (take k bs)) 8 front in
            let w : word8 (take k bs) ≡ word8 bs = sym (word8_on (take k bs) (drop k bs) front) ∙ ap word8 (take-append-drop k bs) in
            rw (l, l', w)
      ]

  pub records_front : (n k : ℕ) (bs : List ℕ) (place : ℕ) (c : Content) → k ≡ 8 * n → records_added add n (take k bs) place c ≡ records_added add n bs place c
  unfolding records_added
  records_front zero k bs place c h = refl
  records_front (suc n) k bs place c h =
      let m : k ≡ 8 + 8 * n = omega arith in
      let d : drop 8 (take k bs) ≡ take (8 * n) (drop 8 bs) = ap (λ (j : ℕ). drop 8 (take j bs)) m ∙ drop-take 8 (8 * n) bs in
      let o = front_next k bs c (omega arith) in
      ap (λ (xs : List ℕ). go_on (at_place (record_next add (take k bs) c) place) (records_added add n xs (place + 8))) d
      ∙ (λ i. go_on (at_place (o i) place) (λ e. records_front n (8 * n) (drop 8 bs) (place + 8) e refl i))

-- what was read before an answer
next_was : (cut : Bool) (e : FileRefusal) (o : Result Content FileRefusal) (d : Content) → cond cut (Err e) o ≡ Ok d → (cut ≡ false) × (o ≡ Ok d)
next_was true e o d h = absurd cc
next_was false e o d h = (refl, h)

-- The records stop at a fault: so many were put on the board, and the next is refused.
pub record Stopped {A : Type 0} (add : Content → ℕ → Result Content FileRefusal) (word_of : A → ℕ) (Fits : A → Type 0) (Taken : Content → A → Type 0) (put : Content → A → Content) (n : ℕ) (bs : List ℕ) (place : ℕ) (c : Content) (f : LoadFault) : Type 0 where
  pub entries : List A
  pub more : length entries < n
  pub rest : List ℕ
  pub laid : bs ≡ flat_map (λ x. in_bytes 8 (word_of x)) entries ++ rest
  pub content : Content
  pub run : Run Fits Taken put c entries content
  pub refusal : FileRefusal
  pub broken : record_next add rest content ≡ Err refusal
  pub is : f ≡ fault_at refusal (place + 8 * length entries)

module _ {A : Type 0} (add : Content → ℕ → Result Content FileRefusal) (word_of : A → ℕ) (Fits : A → Type 0) (Taken : Content → A → Type 0) (put : Content → A → Content) (small : (x : A) → Fits x → word_of x < 2 ^ 64) (forth : (c : Content) (x : A) → Fits x → Taken c x → add c (word_of x) ≡ Ok (put c x)) (back : (c d : Content) (w : ℕ) → w < 2 ^ 64 → add c w ≡ Ok d → WasAdded word_of Fits Taken put c d w) where
  -- one record was put on the board, and a later one stops
  stops_later : (n : ℕ) (bs : List ℕ) (place : ℕ) (c d : Content) (f : LoadFault) → AllByRecursion Byte bs → 8 ≤ length bs → WasAdded word_of Fits Taken put c d (word8 bs) → Stopped add word_of Fits Taken put n (drop 8 bs) (place + 8) d f → Stopped add word_of Fits Taken put (suc n) bs place c f
  stops_later n bs place c d f e long first later =
      let w = word_of first.entry in
      let tail = flat_map (λ x. in_bytes 8 (word_of x)) later.entries in
      let at : place + 8 + 8 * length later.entries ≡ place + 8 * length (first.entry ∷ later.entries) = omega arith in
      record {
        entries = first.entry ∷ later.entries;
        more = omega (arith, later.more);
        rest = later.rest;
        laid = bytes_word8 bs long e ∙ (ap (λ (v : ℕ). in_bytes 8 v ++ drop 8 bs) (sym first.is) ∙ ap (λ (ys : List ℕ). in_bytes 8 w ++ ys) later.laid);
        content = later.content;
        run = (first.fits, first.taken, subst (λ (x : Content). Run Fits Taken put x later.entries later.content) (sym first.after) later.run);
        refusal = later.refusal;
        broken = later.broken;
        is = later.is ∙ ap (λ (j : ℕ). fault_at later.refusal j) at;
      }

  stops_by : (n : ℕ) (bs : List ℕ) (place : ℕ) (c : Content) (f : LoadFault) (o : Result Content FileRefusal) → AllByRecursion Byte bs → record_next add bs c ≡ o → go_on (at_place o place) (records_added add n (drop 8 bs) (place + 8)) ≡ Err f → ((d : Content) → records_added add n (drop 8 bs) (place + 8) d ≡ Err f → Stopped add word_of Fits Taken put n (drop 8 bs) (place + 8) d f) → Stopped add word_of Fits Taken put (suc n) bs place c f
  stops_by n bs place c f (Err r) e is h later =
      let at : place ≡ place + 8 * 0 = omega arith in
      let same : f ≡ fault_at r place = cc in
      record { entries = []; more = omega arith; rest = bs; laid = refl; content = c; run = refl; refusal = r; broken = is; is = same ∙ ap (λ (j : ℕ). fault_at r j) at }
  stops_by n bs place c f (Ok d) e is h later =
      let t = next_was (ltb (length bs) 8) CutShort (add c (word8 bs)) d is in
      stops_later n bs place c d f e (ltb-false (length bs) 8 t.0) (back c d (word8 bs) (word8_fits bs e) t.1) (later d h)

  pub stops : (n : ℕ) (bs : List ℕ) (place : ℕ) (c : Content) (f : LoadFault) → AllByRecursion Byte bs → records_added add n bs place c ≡ Err f → Stopped add word_of Fits Taken put n bs place c f
  unfolding records_added
  stops zero bs place c f e h = absurd cc
  stops (suc n) bs place c f e h =
      stops_by n bs place c f (record_next add bs c) e refl h (λ d k. stops n (drop 8 bs) (place + 8) d f (each_drop 8 bs e) k)

  -- what is left once the records of a list are put on the board
  pub records_past : (xs : List A) (n k : ℕ) (rest : List ℕ) (place after : ℕ) (c d : Content) → n ≡ length xs + k → after ≡ place + 8 * length xs → Run Fits Taken put c xs d → records_added add n (flat_map (λ x. in_bytes 8 (word_of x)) xs ++ rest) place c ≡ records_added add k rest after d
  records_past [] n k rest place after c d count at r =
      let e : n ≡ k = omega arith in
      let p : place ≡ after = omega arith in
      λ i. records_added add (e i) rest (p i) (sym r i)
  records_past (x ∷ xs) n k rest place after c d count at (fits, taken, r) =
      let tail = flat_map (λ y. in_bytes 8 (word_of y)) xs ++ rest in
      let w = word8_bytes (word_of x) tail (small x fits) in
      let long = le-ltb (length (in_bytes 8 (word_of x) ++ tail)) 8 (omega arith) in
      records_more add (in_bytes 8 (word_of x) ++ tail) place c n (length xs + k) (put c x) (omega arith) (rw long (sym (ap (add c) w ∙ forth c x fits taken)))
      ∙ records_past xs (length xs + k) k rest (place + 8) after (put c x) d refl (omega arith) r

-- the next record is refused
pub records_stop : (add : Content → ℕ → Result Content FileRefusal) (k j : ℕ) (rest : List ℕ) (place : ℕ) (d : Content) (r : FileRefusal) → k ≡ suc j → record_next add rest d ≡ Err r → records_added add k rest place d ≡ Err (fault_at r place)
unfolding records_added
records_stop add zero j rest place d r e h = absurd (omega arith)
records_stop add (suc k) j rest place d r e h = ap (λ (o : Result Content FileRefusal). go_on (at_place o place) (records_added add k (drop 8 rest) (place + 8))) h
