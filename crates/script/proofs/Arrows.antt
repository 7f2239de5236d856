-- Lines with no '>' before their arrow.
use Rattle.std.proofs.Common.{◌≡◌, ℕ, false, eqb, List, [], ◌∷◌, ◌++◌, Some, None, codes, Option, sym, refl, ap, ◌∙◌, ⊎_elim, append-nil}
use Rattle.std.proofs.lemmas.Bool.{cond-true, cond-false, cases_Bool, eqb-false, ne_eqb}
use Rattle.words.specs.Pieces.{spacing, pieces_of, NoSeparator}
use Rattle.words.specs.Splits.{after_mark, longer, split_here, split_of}
use Rattle.words.specs.Trims.{trimmed_of}
use Rattle.words.specs.Laws.{WordsCutAndReadBack}
use Rattle.script.specs.Script.{before_split, words_parsed, line_parsed}
use Rattle.script.proofs.Unreserved.{point, star}

abbrev arrow : List ℕ
arrow = codes " -> "

-- bytes in front of a split
abbrev longer_by : List ℕ → Option (List ℕ × List ℕ) → Option (List ℕ × List ℕ)
longer_by xs None = None
longer_by xs (Some p) = Some (xs ++ p.0, p.1)

longer_none : (o : Option (List ℕ × List ℕ)) → longer_by [] o ≡ o
longer_none None = refl
longer_none (Some p) = refl

turned : (a b : ℕ) → eqb b a ≡ false → eqb a b ≡ false
turned a b e = ne_eqb a b (λ same. eqb-false b a e (sym same))

-- what may follow bytes with no '>': the end, or an arrow
module _ (tail : List ℕ) (dash : after_mark (45 ∷ 62 ∷ 32 ∷ []) tail ≡ None) (head : after_mark (62 ∷ 32 ∷ []) tail ≡ None) where
  no_head : (xs : List ℕ) → NoSeparator point xs → after_mark (62 ∷ 32 ∷ []) (xs ++ tail) ≡ None
  no_head [] free = head
  no_head (x ∷ xs) free = cond-false (eqb 62 x) _ _ (turned 62 x free.0)

  no_dash : (xs : List ℕ) → NoSeparator point xs → after_mark (45 ∷ 62 ∷ 32 ∷ []) (xs ++ tail) ≡ None
  no_dash [] free = dash
  no_dash (x ∷ xs) free =
      ⊎_elim
      (λ t. cond-true (eqb 45 x) _ _ t ∙ no_head xs free.1)
      (λ f. cond-false (eqb 45 x) _ _ f)
      (cases_Bool (eqb 45 x))

  no_arrow : (x : ℕ) (xs : List ℕ) → NoSeparator point xs → after_mark arrow (x ∷ (xs ++ tail)) ≡ None
  no_arrow x xs free =
      ⊎_elim
      (λ t. cond-true (eqb 32 x) _ _ t ∙ no_dash xs free)
      (λ f. cond-false (eqb 32 x) _ _ f)
      (cases_Bool (eqb 32 x))

  longer_cons : (x : ℕ) (xs : List ℕ) (o : Option (List ℕ × List ℕ)) → longer x (longer_by xs o) ≡ longer_by (x ∷ xs) o
  longer_cons x xs None = refl
  longer_cons x xs (Some p) = refl

  split_tail : (xs : List ℕ) → NoSeparator point xs → split_of arrow (xs ++ tail) ≡ longer_by xs (split_of arrow tail)
  split_tail [] free = sym (longer_none (split_of arrow tail))
  split_tail (x ∷ xs) free =
      ap (λ o. split_here x o (split_of arrow (xs ++ tail))) (no_arrow x xs free.1)
      ∙ ap (longer x) (split_tail xs free.1)
      ∙ longer_cons x xs (split_of arrow tail)

-- a line by itself has no arrow
pub no_arrow_split : (xs : List ℕ) → NoSeparator point xs → split_of arrow xs ≡ None
no_arrow_split xs free = ap (split_of arrow) (sym (append-nil xs)) ∙ split_tail [] refl refl xs free

-- it says what its words say, and so it does with an answer behind an arrow
module _ (laws : WordsCutAndReadBack) where
  pub line_alone : (xs : List ℕ) → NoSeparator point xs → line_parsed xs ≡ words_parsed (pieces_of spacing xs)
  line_alone xs free =
      ap (λ o. words_parsed (pieces_of spacing (trimmed_of spacing (before_split xs o)))) (no_arrow_split xs free)
      ∙ ap words_parsed (laws.trims spacing xs)

  pub line_answered : (xs answer : List ℕ) → NoSeparator point xs → line_parsed (xs ++ (arrow ++ answer)) ≡ words_parsed (pieces_of spacing xs)
  line_answered xs answer free =
      ap (λ o. words_parsed (pieces_of spacing (trimmed_of spacing (before_split (xs ++ (arrow ++ answer)) o)))) (split_tail (arrow ++ answer) refl refl xs free)
      ∙ ap words_parsed (laws.trims spacing (xs ++ []))
      ∙ ap (λ l. words_parsed (pieces_of spacing l)) (append-nil xs)

-- a word with no star
pub no_star_split : (xs : List ℕ) → NoSeparator star xs → split_of (codes "*") xs ≡ None
no_star_split [] free = refl
no_star_split (x ∷ xs) free =
    ap (λ o. split_here x o (split_of (codes "*") xs)) (cond-false (eqb 42 x) (Some xs) None (turned 42 x free.0))
    ∙ ap (longer x) (no_star_split xs free.1)
