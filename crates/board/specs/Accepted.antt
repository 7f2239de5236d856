-- What it means that the check accepts: the numbers pack a complete reading.
use Rattle.std.specs.Prelude.{◌≡◌, ℕ, ◌≤◌, ◌↔◌, List, [], ◌++◌, map, length, Some, Ok, Result}
use Rattle.costs.specs.Meaning.{Meaning}
use Rattle.board.specs.Bounds.{most_open}
use Rattle.board.specs.declared.moves.Move.{Move}
use Rattle.board.specs.declared.moves.Effect.{Effect}
use Rattle.board.specs.declared.check.Fault.{Fault}
use Rattle.board.specs.Content.{Content}
use Rattle.board.specs.Paths.{stack, Complete}
use Rattle.board.specs.Packing.{unpacked}

-- never more than 4,096 brackets are open, with st open before
abbrev pub ShallowFrom : List ℕ → List Effect → Type 0
ShallowFrom st es = (front rest : List Effect) (now-open : List ℕ) → es ≡ front ++ rest → stack front st ≡ Some now-open → length now-open ≤ most_open

-- The numbers pack a complete reading, whose cost is k and which never has more than 4,096 brackets open.
pub record PacksReading (m : Meaning) (c : Content) (xs : List ℕ) (k : ℕ) : Type 0 where
  pub moves : List Move
  pub packs : map unpacked xs ≡ map Some moves
  pub complete : Complete m c moves k
  pub shallow : ShallowFrom [] complete.body

-- the check accepts exactly the complete readings with at most 4,096 brackets open at any time, at their cost
abbrev pub AcceptsReadings : Meaning → Content → List ℕ → Result ℕ Fault → Type 0
AcceptsReadings m c xs r = (k : ℕ) → (r ≡ Ok k) ↔ PacksReading m c xs k
