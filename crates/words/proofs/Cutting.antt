-- Cutting bytes: the pieces by the library's split, and the laws.
use Rattle.std.proofs.Common.{◌≡◌, ℕ, ◌<◌, Bool, true, false, not, ◌==◌, List, [], ◌∷◌, ◌++◌, length, sym, refl, ap, ◌∙◌, ⊎_elim, arith}
use Rattle.std.specs.List.{filter, slice_split, onto_first}
use Rattle.std.proofs.lemmas.Bool.{cases_Bool, ne_eqb}
use Rattle.std.proofs.lemmas.List.Elements.{All-append, All-from_recursion, recursion_from_All, filter_agree, filter-append}
use Rattle.std.proofs.lemmas.List.Splits.{length-slice_split, slice_split_none, slice_split-cons_yes, slice_split-cons_no}
use Rattle.words.specs.Pieces.{has_byte, pieces_of, NoSeparator, CuttingLaws}

-- two texts without separators, one behind the other
pub uncut_append : (sep : ℕ → Bool) (xs ys : List ℕ) → NoSeparator sep xs → NoSeparator sep ys → NoSeparator sep (xs ++ ys)
uncut_append sep xs ys h k =
    let uncut : ℕ → Type 0 = λ b. sep b ≡ false in
    recursion_from_All uncut (xs ++ ys) (All-append uncut xs ys (All-from_recursion uncut xs h) (All-from_recursion uncut ys k))

-- whether a run has a byte, by its length
abbrev pub is_some_run : List ℕ → Bool
is_some_run run = not (length run == 0)

same_test : (run : List ℕ) → has_byte run ≡ is_some_run run
same_test [] = refl
same_test (b ∷ run) = sym (ap not (ne_eqb (length (b ∷ run)) 0 (λ e. omega arith)))

onto_append : (x : ℕ) (ps qs : List (List ℕ)) → 0 < length ps → onto_first x (ps ++ qs) ≡ onto_first x ps ++ qs
onto_append x [] qs some = absurd (omega arith)
onto_append x (p ∷ ps) qs some = refl

module _ (sep : ℕ → Bool) where
  pub pieces_split : (bs : List ℕ) → pieces_of sep bs ≡ filter is_some_run (slice_split sep bs)
  pieces_split bs = filter_agree has_byte is_some_run same_test (slice_split sep bs)

  -- the laws
  split_apart : (xs : List ℕ) (s : ℕ) (ys : List ℕ) → sep s ≡ true → slice_split sep (xs ++ (s ∷ ys)) ≡ slice_split sep xs ++ slice_split sep ys
  split_apart [] s ys cuts = slice_split-cons_yes sep s ys cuts
  split_apart (x ∷ xs) s ys cuts =
      ⊎_elim
      (λ t. slice_split-cons_yes sep x _ t ∙ ap (λ ps. [] ∷ ps) (split_apart xs s ys cuts) ∙ ap (λ ps. ps ++ slice_split sep ys) (sym (slice_split-cons_yes sep x xs t)))
      (λ f. slice_split-cons_no sep x _ f ∙ ap (onto_first x) (split_apart xs s ys cuts) ∙ onto_append x _ _ (omega (arith, length-slice_split sep xs)) ∙ ap (λ ps. ps ++ slice_split sep ys) (sym (slice_split-cons_no sep x xs f)))
      (cases_Bool (sep x))

  pub cuts_apart : CuttingLaws sep
  cuts_apart = record {
    none = refl;
    one = λ b bs uncut. ap (filter has_byte) (slice_split_none sep (b ∷ bs) (All-from_recursion (λ x. sep x ≡ false) (b ∷ bs) uncut));
    apart = λ xs s ys cuts. ap (filter has_byte) (split_apart xs s ys cuts) ∙ filter-append has_byte (slice_split sep xs) (slice_split sep ys);
  }
