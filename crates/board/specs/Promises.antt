-- What settling promises, for every lawful meaning and every sound content.
use Rattle.std.specs.Prelude.{◌≡◌, ℕ, ◌↔◌, List, ◌∷◌, ◌++◌, map, Some, None, Ok}
use Rattle.costs.specs.Meaning.{Meaning, Lawful, NoDearer}
use Rattle.board.specs.declared.moves.Move.{Move}
use Rattle.board.specs.declared.moves.Arrival.{Arrival}
use Rattle.board.specs.Content.{Content, Sound}
use Rattle.board.specs.Moves.{Place, On, Transition}
use Rattle.board.specs.Paths.{BalancedPath, Complete}
use Rattle.board.specs.Settling.{Cheaper, In, Record, SettledLog, RecordedReading, HasNoReading, AnswersCost}
use Rattle.board.specs.Arrivals.{arrival_on}
use Rattle.board.specs.Packing.{packed}
use Rattle.board.specs.Checks.{check_answer}
use Rattle.board.specs.Computing.{settled_log, recorded_reading}
use Rattle.board.specs.Calls.{CallsKeepSound}
use Rattle.board.specs.Ease.{Eased, CallsEase}

-- the log has a record from s to q that is no dearer than k
pub record RecordedWithin (m : Meaning) (log : List Record) (s q : Place) (k : ℕ) : Type 0 where
  pub held : Record
  pub logged : In held log
  pub leaves : held.from ≡ s
  pub enters : held.to ≡ q
  pub within : NoDearer m held.cost k

-- k is the least cost from s to q: some balanced path without end rows costs k, and none costs less.
pub record LeastCost (m : Meaning) (c : Content) (s q : Place) (k : ℕ) : Type 0 where
  pub moves : List Move
  pub path : BalancedPath m c moves s q k
  pub least : (vs : List Move) (n : ℕ) → BalancedPath m c vs s q n → NoDearer m k n

-- what path writes, the check accepts, at the recorded cost
abbrev pub RecordedIsChecked : Meaning → Content → List Record → Type 0
RecordedIsChecked m c log = (k : ℕ) (vs : List Move) → RecordedReading m c log k vs → check_answer m c (map packed vs) ≡ Ok k

-- no complete reading costs less than the worst
abbrev pub NoReadingBelowWorst : Meaning → Content → Type 0
NoReadingBelowWorst m c = (vs : List Move) (x : ℕ) → Complete m c vs x → NoDearer m m.worst x

-- The records of a settled log are the least costs of their pairs.
pub record RecordsAreLeast (m : Meaning) (c : Content) (log : List Record) : Type 0 where
  -- each record spelled out is a balanced path between its places at the recorded cost
  pub spelled : (a : Record) → In a log → BalancedPath m c a.moves a.from a.to a.cost
  -- every balanced path from a place of the board that costs less than the worst has a record no dearer
  pub minimal : (vs : List Move) (s q : Place) (k : ℕ) → On c s → BalancedPath m c vs s q k → Cheaper m k m.worst → RecordedWithin m log s q k
  -- each record's cost is the least cost of its pair
  pub least : (a : Record) → In a log → LeastCost m c a.from a.to a.cost
  -- each record costs less than the worst
  pub below : (a : Record) → In a log → Cheaper m a.cost m.worst
  -- each record is between places of the board
  pub placed : (a : Record) → In a log → On c a.from × On c a.to
  -- a pair has one record at most
  pub apart : (a b : Record) → In a log → In b log → a.from ≡ b.from → a.to ≡ b.to → a ≡ b
  -- a record is no dearer than one that was settled after it
  pub rising : (newer older : List Record) (a b : Record) → log ≡ newer ++ (b ∷ older) → In a older → NoDearer m a.cost b.cost
  -- any settled log of the content is this one
  pub unique : (log' : List Record) → SettledLog m c log' → log ≡ log'

-- The recorded reading of a settled log is the cheapest complete reading.
pub record RecordedIsCheapest (m : Meaning) (c : Content) (log : List Record) : Type 0 where
  -- the recorded reading is complete, at its cost
  pub complete : (k : ℕ) (vs : List Move) → RecordedReading m c log k vs → Complete m c vs k
  -- every complete reading costs at least as much as the recorded one
  pub cheapest : (k n : ℕ) (vs ws : List Move) → RecordedReading m c log k vs → Complete m c ws n → NoDearer m k n
  -- there is no recorded reading exactly if every complete reading costs no less than the worst
  pub none : HasNoReading m c log ↔ NoReadingBelowWorst m c
  -- there is one recorded reading at most
  pub single : (k n : ℕ) (vs ws : List Move) → RecordedReading m c log k vs → RecordedReading m c log n ws → (k ≡ n) × (vs ≡ ws)
  -- there is an answer
  pub answered : (k : ℕ) × AnswersCost m c log k
  -- what path writes of the recorded reading, the check accepts, at the recorded cost
  pub checked : RecordedIsChecked m c log
  -- a content with only more rows or lines, or cheaper ones, answers no dearer
  pub eased : (c' : Content) (log' : List Record) (k k' : ℕ) → Sound m c' → Eased m c c' → SettledLog m c' log' → AnswersCost m c log k → AnswersCost m c' log' k' → NoDearer m k' k

-- Every sound content has a settled log; the records of every settled log are the least costs, and its recorded reading is the
-- cheapest.
abbrev pub SoundContentsSettle : Type 0
SoundContentsSettle = (m : Meaning) (c : Content) → Lawful m → Sound m c → ((log : List Record) × SettledLog m c log) × ((log : List Record) → SettledLog m c log → RecordsAreLeast m c log × RecordedIsCheapest m c log)

-- A move leads where the function `arrival_on` says, on every content.
abbrev pub MovesComputed : Type 0
MovesComputed = (m : Meaning) (c : Content) (v : Move) (p : Place) (h : Arrival) → Transition m c v p h.to h.cost h.effect ↔ (arrival_on m c v p ≡ Some h)

-- The functions find the log and the reading that the relations define.
pub record Computed (m : Meaning) (c : Content) : Type 0 where
  -- `settled_log` is settled
  pub settled : SettledLog m c (settled_log m c)
  -- the recorded reading of a settled log is what `recorded_reading` finds
  pub some : (log : List Record) → SettledLog m c log → (k : ℕ) (vs : List Move) → RecordedReading m c log k vs ↔ ((i : ℕ) × (recorded_reading m c log ≡ Some (record { row = i; cost = k; moves = vs })))
  -- there is none exactly if `recorded_reading` finds none
  pub none : (log : List Record) → SettledLog m c log → HasNoReading m c log ↔ (recorded_reading m c log ≡ None)

-- Of every sound content the above holds.
abbrev pub SettlingIsComputed : Type 0
SettlingIsComputed = (m : Meaning) (c : Content) → Lawful m → Sound m c → Computed m c

-- a list of moves is a complete reading at one cost at most
abbrev pub OneCost : Type 0
OneCost = (m : Meaning) (c : Content) (vs : List Move) (k n : ℕ) → Complete m c vs k → Complete m c vs n → k ≡ n

-- All that the board promises over contents, for every meaning.
pub record CallsKeepEaseAndSettle : Type 0 where
  -- the calls on a draft keep a content sound
  pub kept : (m : Meaning) → CallsKeepSound m
  -- adding, and repricing no dearer, eases a content
  pub eased : (m : Meaning) → Lawful m → CallsEase m
  -- a sound content can be settled, and what then holds
  pub settling : SoundContentsSettle
  -- the functions find what the relations define
  pub computed : SettlingIsComputed
