-- A number read digit by digit.
use Rattle.std.specs.Prelude.{ℕ, ◌+◌, ◌-◌, ◌*◌, cond, ◌&&◌, Some, None, Option, nat_le}
use Rattle.std.specs.Char.{is_ascii_digit}

-- the number n with one more digit, up to the limit
abbrev pub after_digit : ℕ → ℕ → ℕ → Option ℕ
after_digit limit n b = cond (is_ascii_digit b && nat_le (10 * n + (b - 48)) limit) (Some (10 * n + (b - 48))) None
