-- Cutting bytes at separators.
use Rattle.std.specs.Prelude.{◌≡◌, ℕ, Bool, true, false, ◌||◌, List, [], ◌∷◌, ◌++◌, ◌==◌}
use Rattle.std.specs.List.{filter, slice_split, AllByRecursion}

-- a space or a tab
abbrev pub spacing : ℕ → Bool
spacing b = b == 32 || b == 9

-- whether a run of bytes has one
abbrev pub has_byte : List ℕ → Bool
has_byte [] = false
has_byte (b ∷ bs) = true

-- the longest runs of bytes that are no separators, in their order: what the separators part, without the empty runs
abbrev pub pieces_of : (ℕ → Bool) → List ℕ → List (List ℕ)
pieces_of sep bs = filter has_byte (slice_split sep bs)

-- no byte is a separator
abbrev pub NoSeparator : (ℕ → Bool) → List ℕ → Type 0
NoSeparator sep bs = AllByRecursion (λ b. sep b ≡ false) bs

-- The three laws that fix the pieces.
pub record CuttingLaws (sep : ℕ → Bool) : Type 0 where
  -- no bytes have no pieces
  pub none : pieces_of sep [] ≡ []
  -- bytes with no separator among them are one piece
  pub one : (b : ℕ) (bs : List ℕ) → NoSeparator sep (b ∷ bs) → pieces_of sep (b ∷ bs) ≡ (b ∷ bs) ∷ []
  -- what stands on the two sides of a separator is cut apart
  pub apart : (xs : List ℕ) (s : ℕ) (ys : List ℕ) → sep s ≡ true → pieces_of sep (xs ++ (s ∷ ys)) ≡ pieces_of sep xs ++ pieces_of sep ys
