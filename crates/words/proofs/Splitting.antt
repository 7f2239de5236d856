-- Bytes split at a mark.
use Rattle.std.proofs.Common.{◌≡◌, ℕ, ◌+◌, ◌<◌, eqb, List, [], ◌∷◌, ◌++◌, length, get_or, take, drop, Some, None, Option, sym, refl, ap, ◌∙◌, ⊎_elim, Bor, MatchOption}
use Rattle.std.specs.Option.{option_map}
use Rattle.std.proofs.lemmas.List.{append_assoc, append-nil, drop_more, take_more}
use Rattle.std.proofs.lemmas.Bool.{cond-true, cond-false, cases_Bool, eq-eqb, eqb-true}
use Rattle.words.specs.Splits.{after_mark, longer, split_here, split_of, SplitRejoins}

-- bytes that begin with the mark
after_self : (mark back : List ℕ) → after_mark mark (mark ++ back) ≡ Some back
after_self [] back = refl
after_self (m ∷ ms) back = cond-true _ _ _ (eq-eqb m m refl) ∙ after_self ms back

begins : (mark bs back : List ℕ) → after_mark mark bs ≡ Some back → bs ≡ mark ++ back
begins [] bs back e = cc
begins (m ∷ ms) [] back e = absurd cc
begins (m ∷ ms) (b ∷ bs) back e =
    ⊎_elim
    (λ t. let rest = begins ms bs back (sym (cond-true _ _ _ t) ∙ e) in let first = eqb-true m b t in cc)
    (λ f. let none = sym (cond-false _ (after_mark ms bs) None f) ∙ e in absurd cc)
    (cases_Bool (eqb m b))

none_unless : {X : Type 0} (o : Option X) → ((x : X) → o ≡ Some x → ⊥) → None ≡ o
none_unless None never = refl
none_unless (Some x) never = absurd (never x refl)

pub stripped : (r : Option (Bor (List ℕ))) (mark bs : List ℕ) → MatchOption r ((rest : List ℕ) → bs ≡ mark ++ rest → ⊥) (λ x. bs ≡ mark ++ x.now) → option_map (λ x. x.now) r ≡ after_mark mark bs
stripped None mark bs never = none_unless (after_mark mark bs) (λ back e. never back (begins mark bs back e))
stripped (Some x) mark bs e = sym (ap (after_mark mark) e ∙ after_self mark x.now)

-- bytes in front of a split
abbrev pub longer_by : List ℕ → Option (List ℕ × List ℕ) → Option (List ℕ × List ℕ)
longer_by xs None = None
longer_by xs (Some p) = Some (xs ++ p.0, p.1)

pub longer_none : (o : Option (List ℕ × List ℕ)) → longer_by [] o ≡ o
longer_none None = refl
longer_none (Some p) = refl

longer_push : (xs : List ℕ) (b : ℕ) (o : Option (List ℕ × List ℕ)) → longer_by (xs ++ (b ∷ [])) o ≡ longer_by xs (longer b o)
longer_push xs b None = refl
longer_push xs b (Some p) = ap (λ l. Some (l, p.1)) (append_assoc xs (b ∷ []) p.0)

module _ (mark bs : List ℕ) (i : ℕ) where
  here : i < length bs → split_of mark (drop i bs) ≡ split_here (get_or bs i 0) (after_mark mark (drop i bs)) (split_of mark (drop (i + 1) bs))
  here within =
      ap (split_of mark) (drop_more bs i 0 within)
      ∙ ap (λ l. split_here (get_or bs i 0) (after_mark mark l) (split_of mark (drop (i + 1) bs))) (sym (drop_more bs i 0 within))

  -- no mark at an index
  pub mark_later : i < length bs → after_mark mark (drop i bs) ≡ None → longer_by (take (i + 1) bs) (split_of mark (drop (i + 1) bs)) ≡ longer_by (take i bs) (split_of mark (drop i bs))
  mark_later within none =
      let later = split_of mark (drop (i + 1) bs) in
      ap (λ xs. longer_by xs later) (take_more bs i 0 within)
      ∙ longer_push (take i bs) (get_or bs i 0) later
      ∙ ap (longer_by (take i bs)) (sym (here within ∙ ap (λ o. split_here (get_or bs i 0) o later) none))

  -- a mark at an index
  pub mark_here : i < length bs → (back : List ℕ) → after_mark mark (drop i bs) ≡ Some back → longer_by (take i bs) (split_of mark (drop i bs)) ≡ Some (take i bs, back)
  mark_here within back some =
      ap (longer_by (take i bs)) (here within ∙ ap (λ o. split_here (get_or bs i 0) o (split_of mark (drop (i + 1) bs))) some)
      ∙ ap (λ l. Some (l, back)) (append-nil (take i bs))

-- the law
rejoins_later : (mark : List ℕ) (b : ℕ) (bs : List ℕ) (later : Option (List ℕ × List ℕ)) → ((front back : List ℕ) → later ≡ Some (front, back) → bs ≡ front ++ (mark ++ back)) → (front back : List ℕ) → longer b later ≡ Some (front, back) → b ∷ bs ≡ front ++ (mark ++ back)
rejoins_later mark b bs None rest front back e = absurd cc
rejoins_later mark b bs (Some p) rest front back e =
    let same : ◌≡◌ {A = List ℕ × List ℕ} (b ∷ p.0, p.1) (front, back) = cc in
    ap (λ l. b ∷ l) (rest p.0 p.1 refl) ∙ ap (λ (q : List ℕ × List ℕ). q.0 ++ (mark ++ q.1)) same

rejoins_here : (mark : List ℕ) (b : ℕ) (bs : List ℕ) (o : Option (List ℕ)) → after_mark mark (b ∷ bs) ≡ o → (later : Option (List ℕ × List ℕ)) → ((front back : List ℕ) → later ≡ Some (front, back) → bs ≡ front ++ (mark ++ back)) → (front back : List ℕ) → split_here b o later ≡ Some (front, back) → b ∷ bs ≡ front ++ (mark ++ back)
rejoins_here mark b bs None found later rest front back e = rejoins_later mark b bs later rest front back e
rejoins_here mark b bs (Some after) found later rest front back e =
    let same : ◌≡◌ {A = List ℕ × List ℕ} ([], after) (front, back) = cc in
    begins mark (b ∷ bs) after found ∙ ap (λ (q : List ℕ × List ℕ). q.0 ++ (mark ++ q.1)) same

pub rejoins : SplitRejoins
rejoins mark [] front back e = absurd cc
rejoins mark (b ∷ bs) front back e = rejoins_here mark b bs (after_mark mark (b ∷ bs)) refl (split_of mark bs) (rejoins mark bs) front back e
