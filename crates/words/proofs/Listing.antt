-- The numbers of several words.
use Rattle.std.proofs.Common.{◌≡◌, ℕ, zero, suc, ◌+◌, ◌<◌, ◌≤◌, List, [], ◌∷◌, length, get_or, Some, None, Option, sym, refl, ap, ◌∙◌, subst, add-zero, zero-add, arith}
use Rattle.words.specs.Numbers.{number_of, number_before, numbers_of, WithinFrom, Within}
use Rattle.words.proofs.Digits.{number_fits}

-- a word that is no number, whatever the others are
before_none : (o : Option ℕ) → number_before o None ≡ None
before_none None = refl
before_none (Some n) = refl

pub number_stop : (limits : List ℕ) (ws : List (List ℕ)) (k : ℕ) → length ws ≡ length limits → k < length limits → number_of (get_or limits k 0) (get_or ws k []) ≡ None → numbers_of limits ws ≡ None
number_stop [] ws k same within e = absurd (omega arith)
number_stop (m ∷ ms) [] k same within e = absurd (omega arith)
number_stop (m ∷ ms) (w ∷ ws) zero same within e = ap (λ o. number_before o (numbers_of ms ws)) e
number_stop (m ∷ ms) (w ∷ ws) (suc k) same within e =
    ap (number_before (number_of m w)) (number_stop ms ws k (omega arith) (omega arith) e) ∙ before_none (number_of m w)

-- more or fewer words than limits
pub other_count : (limits : List ℕ) (ws : List (List ℕ)) → (length ws ≡ length limits → ⊥) → numbers_of limits ws ≡ None
other_count [] [] apart = absurd (apart refl)
other_count [] (w ∷ ws) apart = refl
other_count (m ∷ ms) [] apart = refl
other_count (m ∷ ms) (w ∷ ws) apart = ap (number_before (number_of m w)) (other_count ms ws (λ e. apart (ap suc e))) ∙ before_none (number_of m w)

-- each word is a number
pub numbers_read : (limits : List ℕ) (ws : List (List ℕ)) (ns : List ℕ) → length ws ≡ length limits → length ns ≡ length limits → ((k : ℕ) → k < length limits → number_of (get_or limits k 0) (get_or ws k []) ≡ Some (get_or ns k 0)) → numbers_of limits ws ≡ Some ns
numbers_read [] [] [] same long reads = refl
numbers_read [] [] (n ∷ ns) same long reads = absurd (omega arith)
numbers_read [] (w ∷ ws) ns same long reads = absurd (omega arith)
numbers_read (m ∷ ms) [] ns same long reads = absurd (omega arith)
numbers_read (m ∷ ms) (w ∷ ws) [] same long reads = absurd (omega arith)
numbers_read (m ∷ ms) (w ∷ ws) (n ∷ ns) same long reads =
    ap (λ o. number_before o (numbers_of ms ws)) (reads 0 (omega arith))
    ∙ ap (number_before (Some n)) (numbers_read ms ws ns (omega arith) (omega arith) (λ k h. reads (suc k) (omega arith)))

-- each number is within its limit
within_from : (i : ℕ) (limits ns : List ℕ) → ((k : ℕ) → k < length limits → get_or ns (i + k) 0 ≤ get_or limits k 0) → WithinFrom i limits ns
within_from i [] ns each = tt
within_from i (m ∷ ms) ns each = (
  subst (λ j. get_or ns j 0 ≤ m) (add-zero i) (each 0 (omega arith)),
  within_from (suc i) ms ns (λ k h. let e : i + suc k ≡ suc i + k = omega arith in subst (λ j. get_or ns j 0 ≤ get_or ms k 0) e (each (suc k) (omega arith))),
)

pub numbers_within : (limits : List ℕ) (ws : List (List ℕ)) (ns : List ℕ) → ((k : ℕ) → k < length limits → number_of (get_or limits k 0) (get_or ws k []) ≡ Some (get_or ns k 0)) → Within limits ns
numbers_within limits ws ns reads =
    within_from 0 limits ns (λ k h. subst (λ j. get_or ns j 0 ≤ get_or limits k 0) (sym (zero-add k)) (number_fits (get_or limits k 0) (get_or ws k []) (get_or ns k 0) (reads k h)))
