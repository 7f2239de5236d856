-- Settling one record more.
use Rattle.std.proofs.Common.{◌≡◌, ℕ, zero, suc, ◌+◌, ◌<◌, ◌≤◌, min, ◌≢◌, List, [], ◌∷◌, length, get_or, set, Some, None, Option, sym, refl, ap, ◌∙◌, subst, ap₂, subst₂, inr, ⊎_elim, add-one, arith, length-set, get_or-set_other, get_or-set_same}
use Rattle.std.proofs.lemmas.Bool.{cases_eq}
use Rattle.costs.specs.Meaning.{Meaning}
use Rattle.board.specs.Content.{Content}
use Rattle.board.specs.Settling.{Record, Candidate, step, call}
use Rattle.board.proofs.Basics.Membership.{some_eq, none_some}
use Rattle.board.specs.declared.log.Record.{Record as LogRecord}
use Rattle.board.specs.declared.log.Log.{Log}
use Rattle.board.specs.Logged.{spelled, record_of, logged, blank, records}
use Rattle.board.specs.Logs.{numbered, settled_count, Kept, Book, Ready, nth_record, pushed, Refers, pair_of}
use Rattle.board.proofs.Rounds.Logging.{logged_push, logged_set}
use Rattle.board.proofs.Basics.Numbers.{pair_in}

-- how many pairs have a number
pub settled_count_most : (xs : List (Option ℕ)) → settled_count xs ≤ length xs
settled_count_most [] = omega arith
settled_count_most (None ∷ xs) = let h = settled_count_most xs in omega arith
settled_count_most (Some i ∷ xs) = let h = settled_count_most xs in omega arith

pub settled_count_less : (xs : List (Option ℕ)) (p : ℕ) → p < length xs → get_or xs p None ≡ None → settled_count xs < length xs
settled_count_less [] p h e = absurd (omega arith)
settled_count_less (None ∷ xs) p h e = let k = settled_count_most xs in omega arith
settled_count_less (Some i ∷ xs) zero h e = absurd (none_some _ _ e refl)
settled_count_less (Some i ∷ xs) (suc p) h e = let k = settled_count_less xs p (omega arith) e in omega arith

pub settled_count_set : (xs : List (Option ℕ)) (p i : ℕ) → p < length xs → get_or xs p None ≡ None → settled_count (set xs p (Some i)) ≡ settled_count xs + 1
settled_count_set [] p i h e = absurd (omega arith)
settled_count_set (None ∷ xs) zero i h e = sym (add-one (settled_count xs))
settled_count_set (Some j ∷ xs) zero i h e = absurd (none_some _ _ e refl)
settled_count_set (None ∷ xs) (suc p) i h e = settled_count_set xs p i (omega arith) e
settled_count_set (Some j ∷ xs) (suc p) i h e = let k = settled_count_set xs p i (omega arith) e in omega arith

-- candidates stay candidates
pub candidate_stays : {m : Meaning} {c : Content} {log : List Record} (z : Record) {y : Record} → Candidate m c log y → Candidate m c (z ∷ log) y
candidate_stays z (step a i g) = step a (inr i) g
candidate_stays z (call a b i g j h) = call a b (inr i) g (inr j) h

-- a fresh record pushed
module _ {m : Meaning} {c : Content} {l : Log} (ready : Ready m c l) {p : ℕ} {r : LogRecord} (at : p ≡ pair_of c r.from r.to) (unrecorded : get_or l.index (pair_of c r.from r.to) None ≡ None) (kept : Kept m c r) (refers : Refers l.count r.derivation) {n : ℕ} (n-is : n ≡ min (length (spelled (records l) r.derivation)) 65536) where
  fresh : get_or l.index p None ≡ None
  fresh = ap (λ (q : ℕ). get_or l.index q None) at ∙ unrecorded

  pub pair_here : p < length l.index
  pair_here = let h = pair_in c r.from r.to ready.sound.few_places kept.from_on kept.to_on in omega (arith, ready.book.index_long)

  pub room_here : l.count < 4096
  room_here = let h = settled_count_less l.index p pair_here fresh in omega (arith, ready.book.full, ready.book.index_long)

  count_here : l.count < length l.records
  count_here = let h = room_here in omega (arith, ready.book.long)

  pub pushed_records : records (pushed l p r n) ≡ record_of (records l) r ∷ records l
  pushed_records = ap (logged (set l.records l.count r)) (add-one l.count) ∙ logged_push l.records l.count r count_here

  pub numbered_new : numbered (pushed l p r n) l.count ≡ r
  numbered_new = get_or-set_same l.records l.count r blank count_here

  pub numbered_old : (i : ℕ) → i < l.count → numbered (pushed l p r n) i ≡ numbered l i
  numbered_old i h = let ne : i ≢ l.count = omega arith in get_or-set_other l.records l.count i r blank ne

  pub place_new : nth_record (pushed l p r n) l.count ≡ record_of (records l) r
  place_new = ap₂ (λ (e : List Record) (x : LogRecord). record_of e x) (logged_set l.records l.count l.count r (omega arith)) numbered_new

  lengths_here : l.count < length l.lengths
  lengths_here = let h = room_here in omega (arith, ready.book.lengths_long)

  pub place_old : (i : ℕ) → i < l.count → nth_record (pushed l p r n) i ≡ nth_record l i
  place_old i h = ap₂ (λ (e : List Record) (x : LogRecord). record_of e x) (logged_set l.records i l.count r (omega arith)) (numbered_old i h)

  -- by whether a number is the new one
  by_number : (P : ℕ → LogRecord → Type 0) → P l.count r → ((i : ℕ) → i < l.count → P i (numbered l i)) → (i : ℕ) → i < l.count + 1 → P i (numbered (pushed l p r n) i)
  by_number P new old i h = ⊎_elim
      (λ (e : i ≡ l.count). subst₂ P (sym e) (sym (ap (numbered (pushed l p r n)) e ∙ numbered_new)) new)
      (λ (ne : i ≡ l.count → ⊥). let k : i < l.count = omega arith in subst (P i) (sym (numbered_old i k)) (old i k))
      (cases_eq i l.count)

  pair_at : LogRecord → ℕ
  pair_at x = pair_of c x.from x.to

  pub pushed_ready : Ready m c (pushed l p r n)
  unfolding pair_at
  pushed_ready = record {
    sound = ready.sound;
    book = record {
      long = length-set l.records l.count r ∙ ready.book.long;
      index_long = length-set l.index p (Some l.count) ∙ ready.book.index_long;
      kept = by_number (λ i x. Kept m c x) kept ready.book.kept;
      found = by_number (λ i x. get_or (set l.index p (Some l.count)) (pair_at x) None ≡ Some i)
          (ap (λ (n : ℕ). get_or (set l.index p (Some l.count)) n None) (sym at) ∙ get_or-set_same l.index p (Some l.count) None pair_here)
          (λ i h. get_or-set_other l.index p (pair_at (numbered l i)) (Some l.count) None (λ e. none_some _ _ fresh (ap (λ (n : ℕ). get_or l.index n None) (sym e) ∙ ready.book.found i h)) ∙ ready.book.found i h);
      finds = λ q i e. ⊎_elim
          (λ (z : q ≡ p). let ni : i ≡ l.count = some_eq _ _ _ (ap (λ (x : ℕ). get_or (set l.index p (Some l.count)) x None) (sym z) ∙ e) (get_or-set_same l.index p (Some l.count) None pair_here) in (omega arith, ap pair_at (ap (numbered (pushed l p r n)) ni ∙ numbered_new) ∙ (sym at ∙ sym z)))
          (λ (ne : q ≡ p → ⊥). let f = ready.book.finds q i (sym (get_or-set_other l.index p q (Some l.count) None ne) ∙ e) in let f0 = f.0 in (omega arith, ap pair_at (numbered_old i f.0) ∙ f.1))
          (cases_eq q p);
      full = settled_count_set l.index p l.count pair_here fresh ∙ ap (λ (n : ℕ). n + 1) ready.book.full;
      lengths_long = length-set l.lengths l.count n ∙ ready.book.lengths_long;
      spells = record {
        room = let h = room_here in omega arith;
        earlier = by_number (λ i x. Refers i x.derivation) refers ready.book.spells.earlier;
        lengths_are = λ i h. ⊎_elim
            (λ (e : i ≡ l.count). subst (λ (j : ℕ). get_or (set l.lengths l.count n) j 0 ≡ min (length (nth_record (pushed l p r n) j).moves) 65536) (sym e) (get_or-set_same l.lengths l.count n 0 lengths_here ∙ (n-is ∙ ap (λ (x : Record). min (length x.moves) 65536) (sym place_new))))
            (λ (ne : i ≡ l.count → ⊥). let k : i < l.count = omega arith in get_or-set_other l.lengths l.count i n 0 ne ∙ (ready.book.spells.lengths_are i k ∙ ap (λ (x : Record). min (length x.moves) 65536) (sym (place_old i k))))
            (cases_eq i l.count);
      };
    };
  }

  -- the log that the push leaves
  module _ {new : Log} (is : new ≡ pushed l p r n) where
    pub new_records : records new ≡ record_of (records l) r ∷ records l
    new_records = ap records is ∙ pushed_records

    pub new_book : Book m c new
    new_book = subst (Book m c) (sym is) pushed_ready.book
