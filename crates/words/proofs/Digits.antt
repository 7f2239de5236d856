-- Digits read one after another.
use Rattle.std.proofs.Common.{◌≡◌, ℕ, ◌+◌, ◌-◌, ◌*◌, ◌^◌, ◌<◌, ◌≤◌, Bool, true, false, cond, ◌&&◌, leb, List, [], ◌∷◌, length, get_or, drop, Some, None, decimal, Option, sym, refl, ap, ◌∙◌, ⊎_elim, arith, rules}
use Rattle.std.specs.Str.{all_ascii_digits}
use Rattle.std.specs.Char.{is_ascii_digit}
use Rattle.std.proofs.lemmas.Fmt.{decimal_nonempty, digits_decimal, digits_value-decimal}
use Rattle.std.proofs.lemmas.Str.Parse.{IsNumeralModel, numerals_by_fold}
use Rattle.std.proofs.lemmas.List.{drop_more}
use Rattle.std.proofs.lemmas.Option.{cond_some}
use Rattle.std.proofs.lemmas.Bool.{cond-true, cond-false, and_from, and_parts, and_cases, and_left, and_right, lt-ltb, le-leb, lt-leb, leb-true, leb-false}
use Rattle.words.specs.Numbers.{read_on, is_number, number_of, DecimalReadsBack}
use Rattle.words.specs.Digits.{after_digit}

-- more digits never make a number smaller
read_on_ge : (n : ℕ) (bs : List ℕ) → n ≤ read_on n bs
read_on_ge n [] = omega arith
read_on_ge n (b ∷ bs) = omega (arith, read_on_ge (10 * n + (b - 48)) bs)

none_since : {X : Type 0} (t : Bool) (x : X) → cond t (Some x) None ≡ None → t ≡ false
none_since true x e = absurd cc
none_since false x e = refl

-- what n and the digits after it write, up to the limit
abbrev pub continued : ℕ → ℕ → List ℕ → Option ℕ
continued limit n bs = cond (all_ascii_digits bs && leb (read_on n bs) limit) (Some (read_on n bs)) None

module _ (limit : ℕ) where
  -- a word with a byte
  pub whole_word : (w : List ℕ) → 0 < length w → continued limit 0 w ≡ number_of limit w
  unfolding number_of
  whole_word w some = ap (λ t. cond (t && (all_ascii_digits w && leb (read_on 0 w) limit)) (Some (read_on 0 w)) None) (sym (lt-ltb 0 (length w) some))

  -- no digit, or one that makes the number too large, whatever follows
  no_digit : (n b : ℕ) (bs : List ℕ) → after_digit limit n b ≡ None → continued limit n (b ∷ bs) ≡ None
  no_digit n b bs e =
      let next = 10 * n + (b - 48) in
      let digits = is_ascii_digit b && all_ascii_digits bs in
      let small = leb (read_on next bs) limit in
      ⊎_elim
      (λ other. cond-false (digits && small) _ _ (and_left digits small (and_left (is_ascii_digit b) (all_ascii_digits bs) other)))
      (λ large. cond-false (digits && small) _ _ (and_right digits small (lt-leb _ _ (omega (arith, leb-false _ _ large, read_on_ge next bs)))))
      (and_cases (is_ascii_digit b) (leb next limit) (none_since _ next e))

  -- one byte of a word
  module _ (w : List ℕ) (i : ℕ) (within : i < length w) where
    pub digit_stop : (n : ℕ) → after_digit limit n (get_or w i 0) ≡ None → continued limit n (drop i w) ≡ None
    digit_stop n e = ap (continued limit n) (drop_more w i 0 within) ∙ no_digit n (get_or w i 0) (drop (i + 1) w) e

-- what a number is written as
own : IsNumeralModel (λ ds. all_ascii_digits ds ≡ true) (read_on 0)
own = numerals_by_fold _ (search rules) read_on (search rules)

pub decimal_digits : (n : ℕ) → n < 2 ^ 64 → all_ascii_digits (decimal n) ≡ true
decimal_digits n big = digits_decimal own n big

pub reads_back : (limit : ℕ) → limit < 2 ^ 64 → DecimalReadsBack limit
unfolding number_of
reads_back limit fits n small =
    let big : n < 2 ^ 64 = omega arith in
    let same = digits_value-decimal own n big in
    let within = le-leb (read_on 0 (decimal n)) limit (omega (arith, same)) in
    cond-true (is_number limit (decimal n)) _ _ (and_from _ _ (lt-ltb _ _ (decimal_nonempty n big)) (and_from _ _ (decimal_digits n big) within)) ∙ ap Some same

-- a number that was read is within its limit
pub number_fits : (limit : ℕ) (w : List ℕ) (n : ℕ) → number_of limit w ≡ Some n → n ≤ limit
unfolding number_of
number_fits limit w n e =
    let some = cond_some (is_number limit w) (read_on 0 w) n e in
    let parts = and_parts _ (all_ascii_digits w && leb (read_on 0 w) limit) some.0 in
    let small = leb-true (read_on 0 w) limit (and_parts (all_ascii_digits w) _ parts.1).1 in
    omega (arith, some.1)
