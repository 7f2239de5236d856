-- Hexadecimal numbers, by the words of the kit's `hex`: a digit's value (`hex_digit_value`, upper or lower case), the bytes
-- that digits write, two to a byte (`decode_of`), and the digits that bytes are written as, in lower case (`encode_lower`).
use Rattle.std.specs.Prelude.{◌≡◌, ℕ, ◌+◌, ◌*◌, ◌/◌, ◌%◌, ◌^◌, ◌<◌, cond, ◌&&◌, List, [], ◌∷◌, length, Some, None, Option, nat_le}
use Rattle.std.specs.List.{AllByRecursion, fold}
use Rattle.std.specs.Option.{option_map, option_zip}
use Rattle.std.specs.Result.{result_ok}
use Rattle.hex.specs.Hex.{hex_digit_value, decode_of, encode_lower}

-- a number, and then a digit's value
abbrev pub then_digit : Option ℕ → Option ℕ → Option ℕ
then_digit n d = option_map (λ p. p.0 * 16 + p.1) (option_zip n d)

-- digits read after a number
abbrev pub hex_on : Option ℕ → List ℕ → Option ℕ
hex_on n bs = fold (λ n b. then_digit n (hex_digit_value b)) n bs

-- the number that one to four digits write
unfoldable pub hex_number_of : List ℕ → Option ℕ
hex_number_of w = cond (nat_le 1 (length w) && nat_le (length w) 4) (hex_on (Some 0) w) None

-- the bytes that a word writes, two digits to a byte; the empty word writes none
abbrev pub bytes_of : List ℕ → Option (List ℕ)
bytes_of w = result_ok (decode_of w)

-- the digits that write bytes, two to a byte
abbrev pub written_bytes : List ℕ → List ℕ
written_bytes bs = encode_lower bs

-- the four digits of a number of 16 bits: those of its two bytes
abbrev pub written_u16 : ℕ → List ℕ
written_u16 n = written_bytes (n / 256 ∷ n % 256 ∷ [])

-- The laws of hexadecimal: what is written reads back.
abbrev pub HexNumberReadsBack : Type 0
HexNumberReadsBack = (n : ℕ) → n < 2 ^ 16 → hex_number_of (written_u16 n) ≡ Some n

abbrev pub HexBytesReadBack : Type 0
HexBytesReadBack = (bs : List ℕ) → AllByRecursion (λ b. b < 2 ^ 8) bs → bytes_of (written_bytes bs) ≡ Some bs
