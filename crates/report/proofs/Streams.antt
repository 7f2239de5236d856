-- What `least` reads of its input and writes to its output.
use Rattle.std.proofs.Common.{◌≡◌, ℕ, List, [], ◌++◌, take, Some, None, Ok, Err, Option, Result, IfSome, OnOk, ap, ◌∙◌, subst}
use Rattle.std.specs.Option.{option_map}
use Rattle.std.specs.Io.KnownBytes.{Appends}
use Rattle.file.specs.Laws.{telling_bytes}
use Rattle.report.specs.Least.{LeastPrints, LeastWritten, LimitNeverShows}

-- the first bytes were read
pub first_read : (input : Option (List ℕ)) (limit : ℕ) (new old : List ℕ) → limit ≡ telling_bytes → old ≡ [] → IfSome (option_map (take limit) input) (λ xs. new ≡ old ++ xs) → IfSome input (λ xs. new ≡ take telling_bytes xs)
first_read None limit new old most empty read = tt
first_read (Some xs) limit new old most empty read = read ∙ ap (λ (l : List ℕ). l ++ take limit xs) empty ∙ ap (λ (n : ℕ). take n xs) most

-- what is written of the first bytes is what is written of all of them
pub all_told : LimitNeverShows → {X E : Type 0} (r : Result X E) (input old new : Option (List ℕ)) (read lines : List ℕ) → OnOk r (Appends old new lines) → LeastPrints read lines → IfSome input (λ xs. read ≡ take telling_bytes xs) → OnOk r (IfSome input (λ xs. LeastWritten xs old new))
all_told limit (Err e) input old new read lines wrote made first = tt
all_told limit (Ok x) None old new read lines wrote made first = tt
all_told limit (Ok x) (Some xs) old new read lines wrote made first = record { text = lines; printed = (limit xs lines).0 (subst (λ (bs : List ℕ). LeastPrints bs lines) first made); added = wrote }
