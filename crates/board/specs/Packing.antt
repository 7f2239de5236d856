-- A move packed into 16 bits.
use Rattle.std.specs.Prelude.{◌≡◌, ℕ, ◌+◌, ◌*◌, ◌/◌, ◌%◌, ◌<◌, cond, Some, None, Option, ◌==◌, nat_lt, IfSome}
use Rattle.std.specs.Option.{option_map_or}
use Rattle.board.specs.declared.moves.Move.{Move}

-- the lower 8 bits: a bit that is 1 with a line, then the line in 7 bits or zeros
abbrev pub line_bits : Option ℕ → ℕ
line_bits line = option_map_or (λ j. 128 + j) line 0

-- most significant first: a zero bit, the row in 7 bits, and the line's bits
abbrev pub packed : Move → ℕ
packed v = v.row * 256 + line_bits v.line

-- the line fits 7 bits
abbrev pub SmallLine : Option ℕ → Type 0
SmallLine line = IfSome line (λ j. j < 128)

-- row and line fit 7 bits
abbrev pub Small : Move → Type 0
Small v = (v.row < 128) × SmallLine v.line

-- the move that a number packs, or none where it breaks the packing
abbrev pub unpacked : ℕ → Option Move
unpacked x =
    cond (nat_lt x 32768)
    (cond (x / 128 % 2 == 1)
    (Some (record { row = x / 256; line = Some (x % 128) }))
    (cond (x % 128 == 0) (Some (record { row = x / 256; line = None })) None))
    None

-- taking apart undoes packing, and finds nothing but what was packed
pub record PackingIsExact : Type 0 where
  pub comes_back : (v : Move) → Small v → unpacked (packed v) ≡ Some v
  pub nothing_else : (x : ℕ) (v : Move) → unpacked x ≡ Some v → Small v × (packed v ≡ x)
