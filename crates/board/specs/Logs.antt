-- The log: its records, its index and its lengths, and what a round makes of it.
use Rattle.std.specs.Prelude.{◌≡◌, ℕ, suc, ◌+◌, ◌<◌, ◌≤◌, min, List, [], ◌∷◌, length, replicate, Some, None, Option, slice_index, slice_index_or, slice_set, ◌*◌}
use Rattle.std.proofs.Props.{props}
use Rattle.board.specs.Bounds.{most_places, most_pairs, many_moves}
use Rattle.board.specs.declared.log.Derivation.{Derivation as LogDerivation}
use Rattle.board.specs.declared.log.Derivation.TheVariants.{Start, Step, Call}
use Rattle.costs.specs.Meaning.{Meaning, Cost}
use Rattle.board.specs.Settling.{Round, Rounds, Record}
use Rattle.board.specs.Content.{Content, Sound}
use Rattle.board.specs.Moves.{On, Place, place_number}
use Rattle.board.specs.declared.log.Record.{Record as LogRecord}
use Rattle.board.specs.declared.log.Log.{Log}
use Rattle.board.specs.Logged.{blank, records, logged, record_of}

-- the record number i, as the array holds it
abbrev pub numbered : Log → ℕ → LogRecord
numbered l i = slice_index_or l.records i blank

-- what a derivation refers to stands among the first n
abbrev pub Refers : ℕ → LogDerivation → Type 0
Refers n Start = Unit {0}
Refers n (Step i v) = i < n
Refers n (Call i j o w t) = (i < n) × (j < n)

-- the pair number of two places: first place times 64 plus second
abbrev pub pair_of : Content → Place → Place → ℕ
pair_of c s q = place_number c s * most_places + place_number c q

-- the record that number i of an array stands for
abbrev pub record_at : List LogRecord → ℕ → Record
record_at rs i = record_of (logged rs i) (slice_index_or rs i blank)

-- and of a log
abbrev pub nth_record : Log → ℕ → Record
nth_record l i = record_at l.records i

-- how many pairs have a number
abbrev pub settled_count : List (Option ℕ) → ℕ
settled_count [] = 0
settled_count (None ∷ xs) = settled_count xs
settled_count (Some i ∷ xs) = suc (settled_count xs)

-- the record is between places of the board, at a cost of the kind
pub record Kept (m : Meaning) (c : Content) (r : LogRecord) : Type 0 where
  pub price : Cost m r.cost
  pub from_on : On c r.from
  pub to_on : On c r.to

-- Each record refers to earlier ones, and its length is that of its moves, 65,536 where they are more.
pub record Spells (l : Log) : Type 0 where
  pub room : l.count ≤ most_pairs
  pub earlier : (i : ℕ) → i < l.count → Refers i (numbered l i).derivation
  pub lengths_are : (i : ℕ) → i < l.count → slice_index l.lengths i ≡ min (length (nth_record l i).moves) many_moves

-- Each record is between places of the board at a cost of the kind, the index finds it and nothing else, and it spells out
-- its moves.
pub record Book (m : Meaning) (c : Content) (l : Log) : Type 0 where
  pub long : length l.records ≡ most_pairs
  pub index_long : length l.index ≡ most_pairs
  pub kept : (i : ℕ) → i < l.count → Kept m c (numbered l i)
  pub found : (i : ℕ) → i < l.count → slice_index_or l.index (pair_of c (numbered l i).from (numbered l i).to) None ≡ Some i
  pub finds : (p i : ℕ) → slice_index_or l.index p None ≡ Some i → (i < l.count) × (pair_of c (numbered l i).from (numbered l i).to ≡ p)
  pub full : settled_count l.index ≡ l.count
  pub lengths_long : length l.lengths ≡ most_pairs
  pub spells : Spells l

-- there is one proof at most that a derivation refers to earlier records
pub Refers-prop : (n : ℕ) (s : LogDerivation) → IsProp (Refers n s)
Refers-prop n Start = hlevel
Refers-prop n (Step i v) = hlevel props
Refers-prop n (Call i j o w t) = hlevel props

-- and one at most that the records of a log spell out their moves, and of a book
pub Spells-prop : (l : Log) → IsProp (Spells l)
Spells-prop l = hlevel (props, Refers-prop)

pub Book-prop : (m : Meaning) (c : Content) (l : Log) → IsProp (Book m c l)
Book-prop m c l = hlevel (props, Spells-prop)

-- a sound content and a log of it
pub record Ready (m : Meaning) (c : Content) (l : Log) : Type 0 where
  pub sound : Sound m c
  pub book : Book m c l

-- the log with r settled, at the pair p
abbrev pub pushed : Log → ℕ → LogRecord → ℕ → Log
pushed l p r n = record { records = slice_set l.records l.count r; count = l.count + 1; index = slice_set l.index p (Some l.count); lengths = slice_set l.lengths l.count n }

-- nothing settled
abbrev pub empty : Log
empty = record { records = replicate most_pairs blank; count = 0; index = replicate most_pairs None; lengths = replicate most_pairs 0 }

-- a log that some number of rounds reach
abbrev pub Reached : Meaning → Content → List Record → Type 0
Reached m c log = (n : ℕ) × Rounds m c n log

-- l' is l with one record more, the one that a round adds
pub record RoundAdded (m : Meaning) (c : Content) (l l' : Log) : Type 0 where
  pub added : Record
  pub round : Round m c (records l) added
  pub more : records l' ≡ added ∷ records l
  pub count : l'.count ≡ l.count + 1
