-- What the answers of a settled board mean.
use Rattle.std.specs.Prelude.{◌≡◌, ℕ, ◌<◌, ◌≤◌, min, ◌⊎◌, List, ◌++◌, map, length, drop, Ok, Err, Result}
use Rattle.costs.specs.Meaning.{Meaning, NoDearer}
use Rattle.board.specs.Bounds.{many_moves, most_written}
use Rattle.board.specs.declared.moves.Move.{Move}
use Rattle.board.specs.declared.refusal.Refusal.{Refusal}
use Rattle.board.specs.declared.refusal.Refusal.TheVariants.{NoReading, TooLong, PlaceOut, Unsettled}
use Rattle.board.specs.Content.{Content}
use Rattle.board.specs.Moves.{Place, On, place_number}
use Rattle.board.specs.Paths.{BalancedPath, Complete}
use Rattle.board.specs.Packing.{packed}
use Rattle.board.specs.Checks.{check_answer}
use Rattle.board.specs.Settling.{Cheaper, Record, RecordedReading}
use Rattle.board.specs.Promises.{LeastCost, NoReadingBelowWorst}

-- What an answered cost k and number n mean: the recorded reading is complete, has them, and no complete reading is
-- cheaper.
pub record CheapestReading (m : Meaning) (c : Content) (log : List Record) (k n : ℕ) : Type 0 where
  pub reading : List Move
  pub recorded : RecordedReading m c log k reading
  pub complete : Complete m c reading k
  pub below : Cheaper m k m.worst
  pub number : n ≡ min (length reading) many_moves
  pub cheapest : (other : List Move) (x : ℕ) → Complete m c other x → NoDearer m k x

-- what the cost question's answer means: the cheapest complete reading, or that none costs less than the worst
abbrev pub CostIsCheapest : Meaning → Content → List Record → Result (ℕ × ℕ) Refusal → Type 0
CostIsCheapest m c log (Ok a) = CheapestReading m c log a.0 a.1
CostIsCheapest m c log (Err e) = (e ≡ NoReading) × NoReadingBelowWorst m c

-- What an answered number n and the buffer after it mean: the recorded reading is complete, no complete reading is
-- cheaper, it has n moves, for which there was room, they stand in this form at the front of the buffer, whose rest is as it
-- was, and the check accepts them, packed, at the reading's cost.
pub record WritesCheapest {A : Type 0} (form : Move → A) (m : Meaning) (c : Content) (log : List Record) (buffer : List A) (n : ℕ) (after : List A) : Type 0 where
  pub cost : ℕ
  pub reading : List Move
  pub recorded : RecordedReading m c log cost reading
  pub complete : Complete m c reading cost
  pub cheapest : (other : List Move) (x : ℕ) → Complete m c other x → NoDearer m cost x
  pub room : n ≤ length buffer
  pub few : n ≤ most_written
  pub number : n ≡ length reading
  pub written : after ≡ map form reading ++ drop n buffer
  pub checked : check_answer m c (map packed reading) ≡ Ok cost

-- the recorded reading is longer than the buffer or than 65,535 moves
pub record ReadingTooLong {A : Type 0} (m : Meaning) (c : Content) (log : List Record) (buffer : List A) : Type 0 where
  pub cost : ℕ
  pub reading : List Move
  pub recorded : RecordedReading m c log cost reading
  pub longer : (length buffer < length reading) ⊎ (most_written < length reading)

-- why writing the reading is declined
abbrev pub WritingDeclined : {A : Type 0} → Meaning → Content → List Record → List A → Refusal → Type 0
WritingDeclined m c log buffer e = ((e ≡ NoReading) × NoReadingBelowWorst m c) ⊎ ((e ≡ TooLong) × ReadingTooLong m c log buffer)

-- what an answer and the buffer after it mean: the cheapest complete reading is written, each move in this form, or the buffer
-- is as it was
abbrev pub WritesCheapestReading : {A : Type 0} → (Move → A) → Meaning → Content → List Record → List A → Result ℕ Refusal → List A → Type 0
WritesCheapestReading form m c log buffer (Ok n) after = WritesCheapest form m c log buffer n after
WritesCheapestReading form m c log buffer (Err e) after = WritingDeclined m c log buffer e × (after ≡ buffer)

-- the places that the two numbers stand for
pub record Pair (c : Content) (s q : ℕ) : Type 0 where
  pub from : Place
  pub to : Place
  pub from_on : On c from
  pub to_on : On c to
  pub from_number : place_number c from ≡ s
  pub to_number : place_number c to ≡ q

-- both numbers stand for places, k is the least cost from the one to the other, and it is below the worst
pub record LeastBetween (m : Meaning) (c : Content) (s q k : ℕ) : Type 0 where
  pub pair : Pair c s q
  pub least : LeastCost m c pair.from pair.to k
  pub below : Cheaper m k m.worst

-- both numbers stand for places, and no balanced path from the one to the other costs less than the worst
pub record NoneBetween (m : Meaning) (c : Content) (s q : ℕ) : Type 0 where
  pub pair : Pair c s q
  pub none : (vs : List Move) (k : ℕ) → BalancedPath m c vs pair.from pair.to k → NoDearer m m.worst k

-- what between's answer means: the least cost of the pair, that a number stands for no place, or that no balanced path
-- below the worst joins the pair
abbrev pub BetweenIsLeast : Meaning → Content → ℕ → ℕ → Result ℕ Refusal → Type 0
BetweenIsLeast m c s q (Ok k) = LeastBetween m c s q k
BetweenIsLeast m c s q (Err e) = ((e ≡ PlaceOut) × (Pair c s q → ⊥)) ⊎ ((e ≡ Unsettled) × NoneBetween m c s q)
