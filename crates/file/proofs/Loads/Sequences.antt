-- Records one after the other: they are put on the board exactly where the bytes are those of a list of records that the
-- board takes.
use Rattle.std.proofs.Common.{◌≡◌, ℕ, zero, suc, ◌+◌, ◌*◌, ◌^◌, ◌<◌, ◌≤◌, Bool, true, false, cond, ltb, List, [], ◌∷◌, ◌++◌, length, drop, Ok, Err, Result, sym, refl, ap, ◌∙◌, subst, arith, drop-drop}
use Rattle.std.proofs.lemmas.Bool.{ltb-false, le-ltb}
use Rattle.std.specs.List.{flat_map, AllByRecursion}
use Rattle.board.specs.Content.{Content}
use Rattle.file.specs.declared.refusal.FileRefusal.{FileRefusal}
use Rattle.file.specs.declared.refusal.FileRefusal.TheVariants.{CutShort}
use Rattle.file.specs.declared.refusal.LoadFault.{LoadFault}
use Rattle.file.specs.Fields.{word8}
use Rattle.file.specs.Records.{go_on, at_place, records_added}
use Rattle.file.specs.Layout.{in_bytes, Byte}
use Rattle.file.proofs.Loads.Bytes.{word8_bytes, bytes_word8, word8_fits, each_drop}
use Rattle.file.proofs.Loads.Steps.{records_none, records_more}

-- the records of a list are put on the board, each where it fits its fields and the board takes it
abbrev pub Run : {A : Type 0} → (A → Type 0) → (Content → A → Type 0) → (Content → A → Content) → Content → List A → Content → Type 0
Run Fits Taken put c [] d = d ≡ c
Run Fits Taken put c (x ∷ xs) d = Fits x × Taken c x × Run Fits Taken put (put c x) xs d

-- a record that was put on the board
pub record WasAdded {A : Type 0} (word_of : A → ℕ) (Fits : A → Type 0) (Taken : Content → A → Type 0) (put : Content → A → Content) (c d : Content) (w : ℕ) : Type 0 where
  pub entry : A
  pub fits : Fits entry
  pub is : word_of entry ≡ w
  pub taken : Taken c entry
  pub after : put c entry ≡ d

-- n records that were put on the board
pub record WereAdded {A : Type 0} (word_of : A → ℕ) (Fits : A → Type 0) (Taken : Content → A → Type 0) (put : Content → A → Content) (c d : Content) (n : ℕ) (bs : List ℕ) : Type 0 where
  pub entries : List A
  pub count : length entries ≡ n
  pub laid : bs ≡ flat_map (λ x. in_bytes 8 (word_of x)) entries ++ drop (8 * n) bs
  pub run : Run Fits Taken put c entries d

-- one more record was put on the board
record OneMore (cut : Bool) (o : Result Content FileRefusal) (k : Content → Result Content LoadFault) (d : Content) : Type 0 where
  whole : cut ≡ false
  next : Content
  added : o ≡ Ok next
  on : k next ≡ Ok d

one_more : (cut : Bool) (o : Result Content FileRefusal) (k : Content → Result Content LoadFault) (place : ℕ) (e : FileRefusal) (d : Content) → go_on (at_place (cond cut (Err e) o) place) k ≡ Ok d → OneMore cut o k d
one_more true o k place e d h = absurd cc
one_more false (Ok c) k place e d h = record { whole = refl; next = c; added = refl; on = h }
one_more false (Err r) k place e d h = absurd cc

-- one record, and then the others
laid_more : (bs : List ℕ) (w : ℕ) (tail : List ℕ) (n : ℕ) → bs ≡ in_bytes 8 (word8 bs) ++ drop 8 bs → w ≡ word8 bs → drop 8 bs ≡ tail ++ drop (8 * n) (drop 8 bs) → bs ≡ in_bytes 8 w ++ (tail ++ drop (8 * suc n) bs)
laid_more bs w tail n first is others =
    let k : 8 + 8 * n ≡ 8 * suc n = omega arith in
    let rest : drop (8 * n) (drop 8 bs) ≡ drop (8 * suc n) bs = drop-drop (8 * n) 8 bs ∙ ap (λ (j : ℕ). drop j bs) k in
    first ∙ (ap (λ (v : ℕ). in_bytes 8 v ++ drop 8 bs) (sym is) ∙ ap (λ (ys : List ℕ). in_bytes 8 w ++ ys) (others ∙ ap (λ (ys : List ℕ). tail ++ ys) rest))

then_others : {A : Type 0} {word_of : A → ℕ} {Fits : A → Type 0} {Taken : Content → A → Type 0} {put : Content → A → Content} (c next d : Content) (n : ℕ) (bs : List ℕ) → AllByRecursion Byte bs → 8 ≤ length bs → WasAdded word_of Fits Taken put c next (word8 bs) → WereAdded word_of Fits Taken put next d n (drop 8 bs) → WereAdded word_of Fits Taken put c d (suc n) bs
then_others {word_of = word_of} {Fits = Fits} {Taken = Taken} {put = put} c next d n bs e long first others =
    record {
      entries = first.entry ∷ others.entries;
      count = ap suc others.count;
      laid = laid_more bs (word_of first.entry) (flat_map (λ x. in_bytes 8 (word_of x)) others.entries) n (bytes_word8 bs long e) first.is others.laid;
      run = (first.fits, first.taken, subst (λ (x : Content). Run Fits Taken put x others.entries d) (sym first.after) others.run);
    }

module _ {A : Type 0} (add : Content → ℕ → Result Content FileRefusal) (word_of : A → ℕ) (Fits : A → Type 0) (Taken : Content → A → Type 0) (put : Content → A → Content) (small : (x : A) → Fits x → word_of x < 2 ^ 64) (forth : (c : Content) (x : A) → Fits x → Taken c x → add c (word_of x) ≡ Ok (put c x)) (back : (c d : Content) (w : ℕ) → w < 2 ^ 64 → add c w ≡ Ok d → WasAdded word_of Fits Taken put c d w) where
  pub records_run : (xs : List A) (rest : List ℕ) (place : ℕ) (c d : Content) → Run Fits Taken put c xs d → records_added add (length xs) (flat_map (λ x. in_bytes 8 (word_of x)) xs ++ rest) place c ≡ Ok d
  records_run [] rest place c d r = records_none add rest place c ∙ ap Ok (sym r)
  records_run (x ∷ xs) rest place c d (fits, taken, r) =
      let tail = flat_map (λ y. in_bytes 8 (word_of y)) xs ++ rest in
      let w = word8_bytes (word_of x) tail (small x fits) in
      let long = le-ltb (length (in_bytes 8 (word_of x) ++ tail)) 8 (omega arith) in
      records_more add (in_bytes 8 (word_of x) ++ tail) place c (suc (length xs)) (length xs) (put c x) (omega arith) (rw long (sym (ap (add c) w ∙ forth c x fits taken)))
      ∙ records_run xs rest (place + 8) (put c x) d r

  pub records_were : (n : ℕ) (bs : List ℕ) (place : ℕ) (c d : Content) → AllByRecursion Byte bs → records_added add n bs place c ≡ Ok d → WereAdded word_of Fits Taken put c d n bs
  unfolding records_added
  records_were zero bs place c d e h = record { entries = []; count = refl; laid = refl; run = cc }
  records_were (suc n) bs place c d e h =
      let o = one_more (ltb (length bs) 8) (add c (word8 bs)) (records_added add n (drop 8 bs) (place + 8)) place CutShort d h in
      then_others c o.next d n bs e (ltb-false (length bs) 8 o.whole)
      (back c o.next (word8 bs) (word8_fits bs e) o.added)
      (records_were n (drop 8 bs) (place + 8) o.next d (each_drop 8 bs e) o.on)
