-- Records found by their numbers, and the readings that they make.
use Rattle.std.specs.Prelude.{ℕ, ◌<◌, Option, [], ◌∷◌, ◌++◌, IfSome}
use Rattle.std.specs.Option.{option_map}
use Rattle.board.specs.declared.reading.Reading.{Reading as LogReading}
use Rattle.board.specs.declared.log.Log.{Log}
use Rattle.board.specs.Settling.{Record, bare}
use Rattle.board.specs.Logs.{nth_record}
use Rattle.board.specs.Computing.{Reading}

-- the number, if there is one, is below n
abbrev pub NumberIn : ℕ → Option ℕ → Type 0
NumberIn n o = IfSome o (λ i. i < n)

-- the number of a reading's record is below n, and its row below t
abbrev pub ReadingIn : ℕ → ℕ → Option LogReading → Type 0
ReadingIn n t o = IfSome o (λ (r : LogReading). (r.before < n) × (r.row < t))

-- the record of this number, if one was found
abbrev pub record_by_number : Log → Option ℕ → Option Record
record_by_number l o = option_map (nth_record l) o

-- the reading by a record, told by its number, and an end row
abbrev pub reading_of : Log → Option LogReading → Option Reading
reading_of l o = option_map (λ (r : LogReading). record { row = r.row; cost = r.cost; moves = (nth_record l r.before).moves ++ (bare r.row ∷ []) }) o
