-- A law of loading, for the crates above.
use Rattle.std.specs.Prelude.{◌≡◌, ℕ, List, take}
use Rattle.costs.specs.Meaning.{Meaning}
use Rattle.file.specs.Load.{load_answer, load_after}

-- so many of a file's first bytes tell all that a load answers and leaves
abbrev pub telling_bytes : ℕ
telling_bytes = 8192

-- Under every kind a load answers of a file's first bytes, so many, what it answers of all of them, and leaves the same.
abbrev pub FirstBytesTell : Type 0
FirstBytesTell = (m : Meaning) (bs : List ℕ) → (load_answer m (take telling_bytes bs) ≡ load_answer m bs) × (load_after m (take telling_bytes bs) ≡ load_after m bs)
