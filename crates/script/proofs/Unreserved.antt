-- Words with no spacing, no star and no '>' in them.
use Rattle.std.proofs.Common.{◌≡◌, ℕ, ◌/◌, ◌%◌, ◌^◌, ◌<◌, Bool, true, false, not, ◌&&◌, ◌||◌, eqb, ltb, List, [], ◌∷◌, ◌++◌, length, Some, decimal, sym, refl, ap, ◌∙◌, append_assoc, append-nil, arith}
use Rattle.std.specs.Str.{all_ascii_digits}
use Rattle.std.specs.Char.{is_ascii_digit, is_newline}
use Rattle.std.specs.List.{slice_index, AllByRecursion}
use Rattle.std.proofs.lemmas.Fmt.{decimal_nonempty}
use Rattle.std.proofs.lemmas.Bool.{and_parts, or_parts, not-true, ltb-true}
use Rattle.std.proofs.lemmas.Bool.Decides.{nat_tests}
use Rattle.hex.specs.Hex.{hex_digit_value, lower_digits, encode_with}
use Rattle.hex.proofs.HexLemmas.{length-encode_with, IsDigits-lower_digits}
use Rattle.words.specs.Hex.{written_bytes, written_u16}
use Rattle.words.specs.Pieces.{spacing, pieces_of, NoSeparator}
use Rattle.words.specs.Laws.{WordsCutAndReadBack}
use Rattle.costs.specs.Names.{letter_of}
use Rattle.costs.specs.declared.kind_name.KindName.{KindName}
use Rattle.costs.specs.declared.kind_name.KindName.TheVariants.{Points, Severity, Rank}
use Rattle.script.specs.Written.{spaced}

-- the bytes '>' and '*', and these, spacing and newlines: all that no written word has
abbrev pub point : ℕ → Bool
point b = eqb b 62

abbrev pub star : ℕ → Bool
star b = eqb b 42

abbrev pub reserved : ℕ → Bool
reserved b = spacing b || (is_newline b || (point b || star b))

-- a word without them
abbrev pub Unreserved : List ℕ → Type 0
Unreserved w = (0 < length w) × NoSeparator reserved w

-- what one test rules out another does
pub fewer : (sep also : ℕ → Bool) → ((b : ℕ) → sep b ≡ false → also b ≡ false) → (bs : List ℕ) → NoSeparator sep bs → NoSeparator also bs
fewer sep also rules [] uncut = tt
fewer sep also rules (b ∷ bs) uncut = (rules b uncut.0, fewer sep also rules bs uncut.1)

pub no_spacing : (b : ℕ) → reserved b ≡ false → spacing b ≡ false
no_spacing b free = (or_parts (spacing b) _ free).0

pub no_newline : (b : ℕ) → reserved b ≡ false → is_newline b ≡ false
no_newline b free = (or_parts (is_newline b) _ (or_parts (spacing b) _ free).1).0

points_and_stars : (b : ℕ) → reserved b ≡ false → (point b ≡ false) × (star b ≡ false)
points_and_stars b free = or_parts (point b) (star b) (or_parts (is_newline b) _ (or_parts (spacing b) _ free).1).1

pub no_point : (b : ℕ) → reserved b ≡ false → point b ≡ false
no_point b free = (points_and_stars b free).0

pub no_star : (b : ℕ) → reserved b ≡ false → star b ≡ false
no_star b free = (points_and_stars b free).1

-- a text that is written out
abbrev all_free : List ℕ → Bool
all_free [] = true
all_free (b ∷ bs) = not (reserved b) && all_free bs

free_text : (bs : List ℕ) → all_free bs ≡ true → NoSeparator reserved bs
free_text [] free = tt
free_text (b ∷ bs) free =
    let both = and_parts (not (reserved b)) (all_free bs) free in
    (not-true (reserved b) both.0, free_text bs both.1)

abbrev pub is_unreserved : List ℕ → Bool
is_unreserved w = ltb 0 (length w) && all_free w

pub unreserved_text : (w : List ℕ) → is_unreserved w ≡ true → Unreserved w
unreserved_text w free =
    let both = and_parts (ltb 0 (length w)) (all_free w) free in
    (ltb-true 0 (length w) both.0, free_text w both.1)

-- decimal digits
free_digit : (b : ℕ) → is_ascii_digit b ≡ true → reserved b ≡ false
free_digit b digit = grind (arith, nat_tests)

pub free_digits : (ds : List ℕ) → all_ascii_digits ds ≡ true → NoSeparator reserved ds
free_digits [] digits = tt
free_digits (d ∷ ds) digits =
    let both = and_parts (is_ascii_digit d) (all_ascii_digits ds) digits in
    (free_digit d both.0, free_digits ds both.1)

module _ (laws : WordsCutAndReadBack) where
  pub unreserved_decimal : (n : ℕ) → n < 2 ^ 64 → Unreserved (decimal n)
  unreserved_decimal n small = (decimal_nonempty n small, free_digits (decimal n) (laws.digits n small))

-- hexadecimal digits
free_hex : (b v : ℕ) → hex_digit_value b ≡ Some v → reserved b ≡ false
free_hex b v e = grind (arith, nat_tests)

free_value : (v : ℕ) → v < 16 → reserved (slice_index lower_digits v) ≡ false
free_value v small = free_hex (slice_index lower_digits v) v (IsDigits-lower_digits v small)

free_bytes : (bs : List ℕ) → AllByRecursion (λ b. b < 2 ^ 8) bs → NoSeparator reserved (written_bytes bs)
unfolding encode_with
free_bytes [] small = tt
free_bytes (b ∷ bs) small = (free_value (b / 16) (omega (arith, small.0)), (free_value (b % 16) (omega arith), free_bytes bs small.1))

pub unreserved_bytes : (b : ℕ) (bs : List ℕ) → AllByRecursion (λ b. b < 2 ^ 8) (b ∷ bs) → Unreserved (written_bytes (b ∷ bs))
unreserved_bytes b bs small = (omega (arith, length-encode_with lower_digits (b ∷ bs)), free_bytes (b ∷ bs) small)

pub unreserved_u16 : (n : ℕ) → n < 2 ^ 16 → Unreserved (written_u16 n)
unreserved_u16 n small = unreserved_bytes (n / 256) (n % 256 ∷ []) (omega arith, (omega arith, tt))

-- a kind's letter
free_letter : (k : KindName) → reserved (letter_of k) ≡ false
free_letter Points = refl
free_letter Severity = refl
free_letter Rank = refl

pub unreserved_letter : (k : KindName) → Unreserved (letter_of k ∷ [])
unreserved_letter k = (omega arith, (free_letter k, tt))

-- pieces of lines
module _ (laws : WordsCutAndReadBack) where
  -- bytes with no separator are one piece
  pub one_piece : (sep : ℕ → Bool) (bs : List ℕ) → 0 < length bs → NoSeparator sep bs → pieces_of sep bs ≡ bs ∷ []
  one_piece sep [] some uncut = absurd (omega (arith, some))
  one_piece sep (b ∷ bs) some uncut = (laws.cuts sep).one b bs uncut

  -- a line of unreserved words
  word_piece : (w : List ℕ) → Unreserved w → pieces_of spacing w ≡ w ∷ []
  word_piece w free = one_piece spacing w free.0 (fewer reserved spacing no_spacing w free.1)

  pub spaced_pieces : (w : List ℕ) (ws : List (List ℕ)) → Unreserved w → AllByRecursion Unreserved ws → pieces_of spacing (w ++ spaced ws) ≡ w ∷ ws
  spaced_pieces w [] free others = ap (pieces_of spacing) (append-nil w) ∙ word_piece w free
  spaced_pieces w (v ∷ ws) free others =
      (laws.cuts spacing).apart w 32 (v ++ spaced ws) refl
      ∙ ap (λ ps. ps ++ pieces_of spacing (v ++ spaced ws)) (word_piece w free)
      ∙ ap (λ ps. w ∷ ps) (spaced_pieces v ws others.0 others.1)

-- a byte, besides a space, that no word has is not in the line
module _ (laws : WordsCutAndReadBack) (also : ℕ → Bool) (rules : (b : ℕ) → reserved b ≡ false → also b ≡ false) (space : also 32 ≡ false) where
  word_without : (w : List ℕ) → Unreserved w → NoSeparator also w
  word_without w free = fewer reserved also rules w free.1

  spaced_without : (ws : List (List ℕ)) → AllByRecursion Unreserved ws → NoSeparator also (spaced ws)
  spaced_without [] others = tt
  spaced_without (w ∷ ws) others = (space, laws.uncut also w (spaced ws) (word_without w others.0) (spaced_without ws others.1))

  pub line_without : (w : List ℕ) (ws : List (List ℕ)) → Unreserved w → AllByRecursion Unreserved ws → NoSeparator also (w ++ spaced ws)
  line_without w ws free others = laws.uncut also w (spaced ws) (word_without w free) (spaced_without ws others)

-- A line begins and ends with an unreserved word.
pub record Ends (line : List ℕ) : Type 0 where
  pub front : List ℕ
  pub last : List ℕ
  pub free : Unreserved last
  pub is : line ≡ front ++ last

pub line_ends : (w : List ℕ) (ws : List (List ℕ)) → Unreserved w → AllByRecursion Unreserved ws → Ends (w ++ spaced ws)
line_ends w [] free others = record { front = []; last = w; free = free; is = append-nil w }
line_ends w (v ∷ ws) free others =
    let e = line_ends v ws others.0 others.1 in
    record {
      front = w ++ (32 ∷ e.front);
      last = e.last;
      free = e.free;
      is = ap (λ l. w ++ (32 ∷ l)) e.is ∙ sym (append_assoc w (32 ∷ e.front) e.last);
    }
