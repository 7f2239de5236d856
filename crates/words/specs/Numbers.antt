-- The decimal number that a word writes.
use Rattle.std.specs.Prelude.{◌≡◌, ℕ, suc, ◌+◌, ◌-◌, ◌*◌, ◌≤◌, Bool, cond, ◌&&◌, List, [], ◌∷◌, length, Some, None, decimal, Option, nat_le, nat_lt, slice_index}
use Rattle.std.specs.Str.{all_ascii_digits}
use Rattle.std.specs.List.{fold}
use Rattle.std.specs.Option.{option_map, option_zip}

-- digits read after the number n: each makes it ten times as large and adds its own value
abbrev pub read_on : ℕ → List ℕ → ℕ
read_on n bs = fold (λ n b. 10 * n + (b - 48)) n bs

-- the largest number of 8 bits
abbrev pub u8_max : ℕ
u8_max = 255

-- the largest number of 32 bits
abbrev pub u32_max : ℕ
u32_max = 4294967295

-- one or more digits, and nothing else, that write a number of at most the limit
abbrev pub is_number : ℕ → List ℕ → Bool
is_number limit w = nat_lt 0 (length w) && (all_ascii_digits w && nat_le (read_on 0 w) limit)

-- a word's number, up to the limit
unfoldable pub number_of : ℕ → List ℕ → Option ℕ
number_of limit w = cond (is_number limit w) (Some (read_on 0 w)) None

-- The law of numbers: what is printed of a number up to the limit reads back as that number.
abbrev pub DecimalReadsBack : ℕ → Type 0
DecimalReadsBack limit = (n : ℕ) → n ≤ limit → number_of limit (decimal n) ≡ Some n

-- a number that was read, before others
abbrev pub number_before : Option ℕ → Option (List ℕ) → Option (List ℕ)
number_before n ns = option_map (λ p. p.0 ∷ p.1) (option_zip n ns)

-- the numbers that words write: one word for each limit, and its number up to that limit
abbrev pub numbers_of : List ℕ → List (List ℕ) → Option (List ℕ)
numbers_of [] [] = Some []
numbers_of [] (w ∷ ws) = None
numbers_of (limit ∷ limits) [] = None
numbers_of (limit ∷ limits) (w ∷ ws) = number_before (number_of limit w) (numbers_of limits ws)

-- the numbers from an index on are at most the limits
abbrev pub WithinFrom : ℕ → List ℕ → List ℕ → Type 0
WithinFrom i [] ns = Unit {0}
WithinFrom i (limit ∷ limits) ns = (slice_index ns i ≤ limit) × WithinFrom (suc i) limits ns

abbrev pub Within : List ℕ → List ℕ → Type 0
Within limits ns = WithinFrom 0 limits ns
