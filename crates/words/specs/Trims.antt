-- Bytes without the separators at their ends.
use Rattle.std.specs.Prelude.{◌≡◌, ℕ, Bool, cond, List, [], ◌∷◌, reverse}
use Rattle.words.specs.Pieces.{pieces_of}

-- bytes without the separators at their front
abbrev pub without_front : (ℕ → Bool) → List ℕ → List ℕ
without_front sep [] = []
without_front sep (b ∷ bs) = cond (sep b) (without_front sep bs) (b ∷ bs)

-- bytes without the separators at their back
abbrev pub without_back : (ℕ → Bool) → List ℕ → List ℕ
without_back sep bs = reverse (without_front sep (reverse bs))

-- bytes without the separators at their ends
unfoldable pub trimmed_of : (ℕ → Bool) → List ℕ → List ℕ
trimmed_of sep bs = without_back sep (without_front sep bs)

-- The law of trimming: it changes none of the pieces.
abbrev pub TrimKeepsPieces : (ℕ → Bool) → Type 0
TrimKeepsPieces sep = (bs : List ℕ) → pieces_of sep (trimmed_of sep bs) ≡ pieces_of sep bs
