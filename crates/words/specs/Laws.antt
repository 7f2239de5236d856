-- The laws of words and numbers, in one place, for the crates above.
use Rattle.std.specs.Prelude.{◌≡◌, ℕ, ◌++◌, ◌^◌, ◌<◌, Bool, true, List, decimal}
use Rattle.std.specs.Str.{all_ascii_digits}
use Rattle.words.specs.Pieces.{NoSeparator, CuttingLaws}
use Rattle.words.specs.Trims.{TrimKeepsPieces}
use Rattle.words.specs.Splits.{SplitRejoins}
use Rattle.words.specs.Numbers.{DecimalReadsBack}
use Rattle.words.specs.Hex.{HexNumberReadsBack, HexBytesReadBack}

pub record WordsCutAndReadBack : Type 0 where
  -- the laws that fix the pieces, at whatever separators
  pub cuts : (sep : ℕ → Bool) → CuttingLaws sep
  -- two texts without separators have none one behind the other
  pub uncut : (sep : ℕ → Bool) (xs ys : List ℕ) → NoSeparator sep xs → NoSeparator sep ys → NoSeparator sep (xs ++ ys)
  -- trimming changes none of the pieces
  pub trims : (sep : ℕ → Bool) → TrimKeepsPieces sep
  -- the parts of a split, with the mark between them, are the bytes
  pub rejoins : SplitRejoins
  -- what is printed of a number of 64 bits is digits, and reads back as that number up to any limit of 64 bits
  pub digits : (n : ℕ) → n < 2 ^ 64 → all_ascii_digits (decimal n) ≡ true
  pub numbers_back : (limit : ℕ) → limit < 2 ^ 64 → DecimalReadsBack limit
  -- a number of 16 bits, and bytes, written in hexadecimal, read back
  pub hex_back : HexNumberReadsBack
  pub bytes_back : HexBytesReadBack
