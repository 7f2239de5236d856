-- Hexadecimal digits read one after another.
use Rattle.std.proofs.Common.{◌≡◌, ℕ, zero, suc, ◌+◌, ◌*◌, ◌/◌, ◌%◌, ◌^◌, ◌<◌, ◌≤◌, List, [], ◌∷◌, length, get_or, drop, Some, None, sym, refl, ap, ◌∙◌, arith}
use native.Mathlib.Nat.{pow-le-pow_right}
use Rattle.std.specs.List.{AllByRecursion, slice_index}
use Rattle.std.specs.Result.{result_ok}
use Rattle.std.proofs.lemmas.List.{drop_more}
use Rattle.std.proofs.lemmas.Bool.{cond-true, and_from, le-leb}
use Rattle.std.proofs.lemmas.Bool.Decides.{nat_tests}
use Rattle.hex.specs.Hex.{hex_digit_value, lower_digits, encode_with, IsBytes}
use Rattle.hex.proofs.HexLemmas.{decode_of-encode_lower, IsDigits-lower_digits}
use Rattle.words.specs.Hex.{then_digit, hex_on, hex_number_of, HexNumberReadsBack, HexBytesReadBack}

-- a digit's value
pub digit_below : (b d : ℕ) → hex_digit_value b ≡ Some d → d < 16
digit_below b d e = grind (arith, nat_tests)

-- a number of i digits has room for one more
pub fits_digit : (n i : ℕ) → n < 16 ^ i → i < 4 → n * 16 + 15 < 2 ^ 16
fits_digit n i small few =
    let three : i ≤ 3 = omega arith in
    omega (arith, pow-le-pow_right {n = 16} (omega arith) three)

-- no digit, whatever follows
none_on : (bs : List ℕ) → hex_on None bs ≡ None
none_on [] = refl
none_on (b ∷ bs) = none_on bs

-- one byte of a word
module _ (w : List ℕ) (i : ℕ) (within : i < length w) (n : ℕ) where
  pub hex_stop : hex_digit_value (get_or w i 0) ≡ None → hex_on (Some n) (drop i w) ≡ None
  hex_stop e =
      ap (hex_on (Some n)) (drop_more w i 0 within)
      ∙ ap (λ o. hex_on (then_digit (Some n) o) (drop (i + 1) w)) e
      ∙ none_on (drop (i + 1) w)

-- a word of one to four bytes
pub hex_whole : (w : List ℕ) → 1 ≤ length w → length w ≤ 4 → hex_on (Some 0) w ≡ hex_number_of w
unfolding hex_number_of
hex_whole w some few = sym (cond-true _ _ _ (and_from _ _ (le-leb 1 (length w) some) (le-leb (length w) 4 few)))

-- what is written reads back
are_bytes : (bs : List ℕ) → AllByRecursion (λ b. b < 2 ^ 8) bs → IsBytes bs
are_bytes [] small i = omega arith
are_bytes (b ∷ bs) small zero = omega (arith, small.0)
are_bytes (b ∷ bs) small (suc i) = are_bytes bs small.1 i

pub bytes_read_back : HexBytesReadBack
bytes_read_back bs small = ap result_ok (decode_of-encode_lower bs (are_bytes bs small))

-- the digit that writes a value
abbrev digit : ℕ → ℕ
digit v = slice_index lower_digits v

digit_back : (v : ℕ) → v < 16 → hex_digit_value (digit v) ≡ Some v
digit_back v small = IsDigits-lower_digits v small

pub number_reads_back : HexNumberReadsBack
unfolding hex_number_of encode_with
number_reads_back n small =
    let one = n / 256 / 16 in
    let two = n / 256 % 16 in
    let three = n % 256 / 16 in
    let four = n % 256 % 16 in
    ap (λ o. hex_on o (digit two ∷ digit three ∷ digit four ∷ [])) (ap (then_digit (Some 0)) (digit_back one (omega arith)))
    ∙ ap (λ o. hex_on (then_digit (Some (0 * 16 + one)) o) (digit three ∷ digit four ∷ [])) (digit_back two (omega arith))
    ∙ ap (λ o. hex_on (then_digit (Some ((0 * 16 + one) * 16 + two)) o) (digit four ∷ [])) (digit_back three (omega arith))
    ∙ ap (then_digit (Some (((0 * 16 + one) * 16 + two) * 16 + three))) (digit_back four (omega arith))
    ∙ ap Some (omega arith)
