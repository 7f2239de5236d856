-- Splitting bytes at a mark.
use Rattle.std.specs.Prelude.{◌≡◌, ℕ, cond, List, [], ◌∷◌, ◌++◌, Some, None, Option, ◌==◌}
use Rattle.std.specs.Borrow.{Bor}
use Rattle.std.specs.Option.{option_map, option_or}

-- what follows the mark, where bytes begin with it
abbrev pub after_mark : List ℕ → List ℕ → Option (List ℕ)
after_mark [] bs = Some bs
after_mark (m ∷ ms) [] = None
after_mark (m ∷ ms) (b ∷ bs) = cond (m == b) (after_mark ms bs) None

-- one byte more in front of a split
abbrev pub longer : ℕ → Option (List ℕ × List ℕ) → Option (List ℕ × List ℕ)
longer b o = option_map (λ p. (b ∷ p.0, p.1)) o

-- a mark found here goes before one found later
abbrev pub split_here : ℕ → Option (List ℕ) → Option (List ℕ × List ℕ) → Option (List ℕ × List ℕ)
split_here b back later = option_or (option_map (λ bs. ([], bs)) back) (longer b later)

-- what stands before the first mark, and what follows it; a mark has one byte or more
abbrev pub split_of : List ℕ → List ℕ → Option (List ℕ × List ℕ)
split_of mark [] = None
split_of mark (b ∷ bs) = split_here b (after_mark mark (b ∷ bs)) (split_of mark bs)

-- the bytes of two parts
abbrev pub parts_of : Bor (List ℕ) × Bor (List ℕ) → List ℕ × List ℕ
parts_of p = (p.0.now, p.1.now)

-- The law of splitting: the parts, with the mark between them, are the bytes.
abbrev pub SplitRejoins : Type 0
SplitRejoins = (mark bs front back : List ℕ) → split_of mark bs ≡ Some (front, back) → bs ≡ front ++ (mark ++ back)
