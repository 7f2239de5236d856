-- From a book to what a settled board answers.
use Rattle.std.proofs.Common.{◌≡◌, ℕ, zero, suc, ◌+◌, ◌*◌, ◌<◌, ◌≤◌, Bool, true, false, cond, ◌⊎◌, get_or, Some, None, Option, sym, refl, ap, ◌∙◌, subst, inl, inr, arith}
use Rattle.std.proofs.lemmas.Bool.{eq-eqb, cases_eq, both_ways, cond-true, cond-false}
use Rattle.std.specs.Cmp.Derive.{both_true}
use Rattle.costs.specs.declared.kind.Kind.{Ghosts}
use Rattle.costs.specs.Meaning.{Meaning, Lawful}
use Rattle.board.specs.Moves.{place_number}
use Rattle.board.specs.declared.log.Log.{Log}
use Rattle.board.specs.declared.settled.Settled.{Settled}
use Rattle.board.specs.Content.{Content}
use Rattle.board.specs.Logged.{logged, records}
use Rattle.board.specs.Logs.{Book, numbered, nth_record, pair_of}
use Rattle.board.specs.Settling.{SettledLog}
use Rattle.board.specs.Boards.{settled_content, settled_records}
use Rattle.board.specs.ByNumber.{NumberIn, record_by_number}
use Rattle.board.specs.Computing.{joins?, record_between}
use Rattle.board.proofs.Questions.Finding.{joins_parts}
use Rattle.board.proofs.Basics.Numbers.{number_in}
use Rattle.board.proofs.Basics.Membership.{some_eq, none_some}
use Rattle.board.proofs.Promised.{settling_computed}

-- a settled board's log is settled
pub settled_of : {K : Type 0} {k : Ghosts K} → Lawful k.meaning → (s : Settled K k) → SettledLog k.meaning (settled_content s) (settled_records s)
settled_of {k = k} laws s = subst (SettledLog k.meaning (settled_content s)) (sym s.settled) (settling_computed k.meaning (settled_content s) laws s.tables.sound).settled

-- the records before n, of which the one numbered i alone is of the pair
between_at : (c : Content) (l : Log) (s q i n : ℕ) → i < n → ((j : ℕ) → j < n → joins? c (nth_record l j) s q ≡ true → j ≡ i) → joins? c (nth_record l i) s q ≡ true → record_between c (logged l.records n) s q ≡ Some (nth_record l i)
unfolding logged record_between
between_at c l s q i zero h only here = absurd (omega arith)
between_at c l s q i (suc n) h only here = by (λ k. between_at c l s q i n k (λ j x. only j (omega arith)) here) (cases_eq i n) (joins? c (nth_record l n) s q) refl
  where
    by : (i < n → record_between c (logged l.records n) s q ≡ Some (nth_record l i)) → (i ≡ n) ⊎ (i ≡ n → ⊥) → (b : Bool) → joins? c (nth_record l n) s q ≡ b → cond (joins? c (nth_record l n) s q) (Some (nth_record l n)) (record_between c (logged l.records n) s q) ≡ Some (nth_record l i)
    by rest (inl e) true f = cond-true _ _ _ f ∙ ap (λ j. Some (nth_record l j)) (sym e)
    by rest (inl e) false f = absurd (both_ways _ f (ap (λ j. joins? c (nth_record l j) s q) (sym e) ∙ here))
    by rest (inr ne) true f = absurd (let z = only n (omega arith) f in omega (arith, ne (sym z)))
    by rest (inr ne) false f = cond-false _ _ _ f ∙ rest (omega arith)

between_past : (c : Content) (l : Log) (s q n : ℕ) → ((j : ℕ) → j < n → joins? c (nth_record l j) s q ≡ true → ⊥) → record_between c (logged l.records n) s q ≡ None
unfolding logged record_between
between_past c l s q zero none = refl
between_past c l s q (suc n) none = by (between_past c l s q n (λ j x. none j (omega arith))) (joins? c (nth_record l n) s q) refl
  where
    by : record_between c (logged l.records n) s q ≡ None → (b : Bool) → joins? c (nth_record l n) s q ≡ b → cond (joins? c (nth_record l n) s q) (Some (nth_record l n)) (record_between c (logged l.records n) s q) ≡ None
    by rest true f = absurd (none n (omega arith) f)
    by rest false f = cond-false _ _ _ f ∙ rest

-- the index leads to the record of a pair
module _ {m : Meaning} (c : Content) (l : Log) (b : Book m c l) (s q : ℕ) where
  -- a record of the pair stands in the index
  joined_found : (j : ℕ) → j < l.count → joins? c (nth_record l j) s q ≡ true → get_or l.index (s * 64 + q) None ≡ Some j
  joined_found j h e =
      let z = joins_parts c (nth_record l j) s q e in
      let z0 = z.0 in
      let z1 = z.1 in
      let p : pair_of c (numbered l j).from (numbered l j).to ≡ s * 64 + q = omega arith in
      ap (λ n. get_or l.index n None) (sym p) ∙ b.found j h

  index_some : (i : ℕ) → c.modes * c.moments ≤ 64 → q < 64 → get_or l.index (s * 64 + q) None ≡ Some i → (i < l.count) × (record_between c (records l) s q ≡ Some (nth_record l i))
  index_some i few hq e =
      let k = b.finds (s * 64 + q) i e in
      let h = number_in c (numbered l i).to few (b.kept i k.0).to_on in
      let k1 = k.1 in
      let from_is : place_number c (numbered l i).from ≡ s = omega arith in
      let to_is : place_number c (numbered l i).to ≡ q = omega arith in
      (k.0, between_at c l s q i l.count k.0 (λ j x f. some_eq _ _ _ (joined_found j x f) e) (both_true (eq-eqb _ _ from_is) (eq-eqb _ _ to_is)))

  index_none : get_or l.index (s * 64 + q) None ≡ None → record_between c (records l) s q ≡ None
  index_none e = between_past c l s q l.count (λ j x f. none_some _ _ e (joined_found j x f))

  -- what was read of the index
  pub at_index : c.modes * c.moments ≤ 64 → q < 64 → (r : Option ℕ) → r ≡ get_or l.index (s * 64 + q) None → (record_by_number l r ≡ record_between c (records l) s q) × NumberIn l.count r
  at_index few h None e = (sym (index_none (sym e)), tt)
  at_index few h (Some i) e = let k = index_some i few h (sym e) in (sym k.1, k.0)
