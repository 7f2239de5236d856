-- The words of check: a number of 16 bits in hexadecimal, or HEX*K for that number K times.
use Rattle.std.specs.Prelude.{ℕ, cond, List, [], ◌∷◌, ◌++◌, length, replicate, Some, None, codes, Option, nat_le}
use Rattle.std.specs.Option.{option_map, option_zip, option_and_then, option_map_or}
use Rattle.words.specs.Hex.{hex_number_of}
use Rattle.words.specs.Numbers.{u32_max, number_of}
use Rattle.words.specs.Splits.{split_of}
use Rattle.script.specs.Commands.{Command, check}
use Rattle.script.specs.Forms.{longest_list}
use Rattle.script.specs.declared.check.Repeat.{Repeat}

-- a move so many times
abbrev pub repeat_from : Option ℕ → Option ℕ → Option Repeat
repeat_from number times = option_map (λ p. record { number = p.0; times = p.1 }) (option_zip number times)

-- a word that is split at its star, or has none
abbrev pub split_repeat : List ℕ → Option (List ℕ × List ℕ) → Option Repeat
split_repeat w parts = option_map_or (λ p. repeat_from (hex_number_of p.0) (number_of u32_max p.1)) parts (repeat_from (hex_number_of w) (Some 1))

abbrev pub repeat_of : List ℕ → Option Repeat
repeat_of w = split_repeat w (split_of (codes "*") w)

-- the moves that it stands for
abbrev pub repeat_moves : Repeat → List ℕ
repeat_moves r = replicate r.times r.number

-- a repeated move before what follows it
abbrev pub repeat_before : Option Repeat → Option (List ℕ) → Option (List ℕ)
repeat_before r ms = option_map (λ p. repeat_moves p.0 ++ p.1) (option_zip r ms)

abbrev pub repeats_of : List (List ℕ) → Option (List ℕ)
repeats_of [] = Some []
repeats_of (w ∷ ws) = repeat_before (repeat_of w) (repeats_of ws)

-- a list of at most the longest length
abbrev pub not_too_long : Option (List ℕ) → Option (List ℕ)
not_too_long ms = option_and_then (λ xs. cond (nat_le (length xs) longest_list) (Some xs) None) ms

-- the numbers that the words list
abbrev pub moves_of : List (List ℕ) → Option (List ℕ)
moves_of ws = not_too_long (repeats_of ws)

-- check HEX..
abbrev pub check_command : List (List ℕ) → Option Command
check_command ws = option_map check (moves_of ws)
