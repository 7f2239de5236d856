-- A line written as a letter and costs in decimal digits.
use Rattle.std.proofs.Common.{◌≡◌, ℕ, zero, suc, ◌-◌, ◌<◌, ◌≤◌, Bool, true, false, eqb, leb, List, [], ◌∷◌, ◌++◌, map, length, get_or, Some, Ok, decimal, refl, ap, ◌∙◌, append-nil, arith}
use Rattle.std.specs.Str.{all_ascii_digits}
use Rattle.std.specs.Char.{is_ascii_digit}
use Rattle.std.proofs.lemmas.Fmt.{decimal_nonempty}
use Rattle.std.proofs.lemmas.Bool.{cond-false, and_parts, or_from, ne_eqb, leb-true}
use Rattle.std.proofs.lemmas.Bool.Decides.{nat_tests}
use Rattle.costs.specs.Meaning.{Meaning}
use Rattle.words.specs.Numbers.{u32_max}
use Rattle.words.specs.Pieces.{spacing, pieces_of, NoSeparator}
use Rattle.std.specs.Str.Lines.{strip_carriage_return}
use Rattle.price.specs.Lines.{kind_with_letter, cost_before, read_costs, costs_answer, kind_answer, words_answer, written_costs, Of32Bits, CostsReadBack}
use Rattle.words.specs.Laws.{WordsCutAndReadBack}

-- a carriage return
abbrev returns : ℕ → Bool
returns b = eqb b 13

module _ (sep : ℕ → Bool) where
  uncut_digits : ((b : ℕ) → 48 ≤ b → sep b ≡ false) → (ds : List ℕ) → all_ascii_digits ds ≡ true → NoSeparator sep ds
  uncut_digits high [] h = tt
  uncut_digits high (d ∷ ds) h =
      let both = and_parts (is_ascii_digit d) (all_ascii_digits ds) h in
      (high d (leb-true 48 d (and_parts (leb 48 d) (leb d 57) both.0).0), uncut_digits high ds both.1)

  uncut_at : sep 0 ≡ false → (bs : List ℕ) (i : ℕ) → NoSeparator sep bs → sep (get_or bs i 0) ≡ false
  uncut_at low [] i h = low
  uncut_at low (b ∷ bs) zero h = h.0
  uncut_at low (b ∷ bs) (suc i) h = uncut_at low bs i h.1

not_spacing : (b : ℕ) → 48 ≤ b → spacing b ≡ false
not_spacing b high = or_from _ _ (ne_eqb b 32 (λ e. omega arith)) (ne_eqb b 9 (λ e. omega arith))

not_return : (b : ℕ) → 48 ≤ b → returns b ≡ false
not_return b high = ne_eqb b 13 (λ e. omega arith)

-- a letter is no separator
letter_high : (l : ℕ) (m : Meaning) → kind_with_letter l ≡ Some m → 80 ≤ l
letter_high l m e = grind (arith, nat_tests)

module _ (laws : WordsCutAndReadBack) where
  one_piece : (w : List ℕ) → 0 < length w → NoSeparator spacing w → pieces_of spacing w ≡ w ∷ []
  one_piece [] some uncut = absurd (omega arith)
  one_piece (b ∷ bs) some uncut = (laws.cuts spacing).one b bs uncut

  written_words : (w : List ℕ) (xs : List ℕ) → 0 < length w → NoSeparator spacing w → Of32Bits xs → pieces_of spacing (w ++ written_costs xs) ≡ w ∷ map decimal xs
  written_words w [] some uncut small = ap (pieces_of spacing) (append-nil w) ∙ one_piece w some uncut
  written_words w (x ∷ xs) some uncut small =
      (laws.cuts spacing).apart w 32 (decimal x ++ written_costs xs) refl
      ∙ ap (λ ps. ps ++ pieces_of spacing (decimal x ++ written_costs xs)) (one_piece w some uncut)
      ∙ ap (λ ps. w ∷ ps) (written_words (decimal x) xs (decimal_nonempty x (omega (arith, small.0))) (uncut_digits spacing not_spacing (decimal x) (laws.digits x (omega (arith, small.0)))) small.1)

  no_return : (xs : List ℕ) → Of32Bits xs → NoSeparator returns (written_costs xs)
  no_return [] small = tt
  no_return (x ∷ xs) small =
      (refl, laws.uncut returns (decimal x) (written_costs xs) (uncut_digits returns not_return (decimal x) (laws.digits x (omega (arith, small.0)))) (no_return xs small.1))

  written_numbers : (xs : List ℕ) → Of32Bits xs → read_costs (map decimal xs) ≡ Ok xs
  written_numbers [] small = refl
  written_numbers (x ∷ xs) small =
      ap (λ o. cost_before (decimal x) o (read_costs (map decimal xs))) (laws.numbers_back u32_max (omega arith) x (omega (arith, small.0)))
      ∙ ap (cost_before (decimal x) (Some x)) (written_numbers xs small.1)

  pub reads_written : CostsReadBack
  reads_written l m e xs small =
      let line = l ∷ written_costs xs in
      let high = letter_high l m e in
      let uncut : NoSeparator returns line = (not_return l (omega arith), no_return xs small) in
      let whole : strip_carriage_return line ≡ line = cond-false _ _ _ (uncut_at returns refl line (length line - 1) uncut) in
      let cut = written_words (l ∷ []) xs (omega arith) (not_spacing l (omega arith), tt) small in
      ap (λ bs. words_answer (pieces_of spacing bs)) whole
      ∙ ap words_answer cut
      ∙ ap (λ o. kind_answer (l ∷ []) o (map decimal xs)) e
      ∙ ap (costs_answer m (map decimal xs)) (written_numbers xs small)
