-- The log that an array of the code's records stands for. A record there (`LogRecord`) holds the numbers of earlier ones where a
-- record of the definitions holds its moves.
use Rattle.std.specs.Prelude.{ℕ, zero, suc, cond, List, [], ◌∷◌, ◌++◌, length, ◌==◌, slice_index_or}
use Rattle.board.specs.declared.moves.Move.{Move}
use Rattle.board.specs.Moves.{origin}
use Rattle.board.specs.Settling.{Record, Derivation, start, by_step, by_call, bare}
use Rattle.board.specs.declared.log.Record.{Record as LogRecord}
use Rattle.board.specs.declared.log.Derivation.{Derivation as LogDerivation}
use Rattle.board.specs.declared.log.Derivation.TheVariants.{Start, Step, Call}
use Rattle.board.specs.declared.log.Log.{Log}

-- stands for a number that is not settled
abbrev pub nobody : Record
nobody = record { from = origin; to = origin; cost = 0; derivation = start; moves = [] }

-- the record that was settled as number i
abbrev pub settled_as : List Record → ℕ → Record
settled_as [] i = nobody
settled_as (x ∷ log) i = cond (i == length log) x (settled_as log i)

-- how a record with this derivation came about, told without numbers
abbrev pub derivation_of : LogDerivation → Derivation
derivation_of Start = start
derivation_of (Step i v) = by_step v
derivation_of (Call i j o w t) = by_call o w t

-- the moves of a record with this derivation, over the log of the records before it
abbrev pub spelled : List Record → LogDerivation → List Move
spelled log Start = []
spelled log (Step i v) = (settled_as log i).moves ++ (v ∷ [])
spelled log (Call i j o w t) = (settled_as log i).moves ++ (bare o ∷ ((settled_as log j).moves ++ (bare w ∷ [])))

-- the record that one of the array stands for, over the log of the records before it
abbrev pub record_of : List Record → LogRecord → Record
record_of log r = record { from = r.from; to = r.to; cost = r.cost; derivation = derivation_of r.derivation; moves = spelled log r.derivation }

-- what the array holds past its records
abbrev pub blank : LogRecord
blank = record { from = origin; to = origin; cost = 0; derivation = Start }

-- the log of the first n records, the newest first
unfoldable pub logged : List LogRecord → ℕ → List Record
logged rs zero = []
logged rs (suc n) = record_of (logged rs n) (slice_index_or rs n blank) ∷ logged rs n

-- the records of a log, the newest first
abbrev pub records : Log → List Record
records l = logged l.records l.count
