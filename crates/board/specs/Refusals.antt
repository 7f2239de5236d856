-- The numbers of the refusals, and 'the first that applies'.
use Rattle.std.specs.Prelude.{ℕ, Bool, cond, List, [], ◌∷◌, ◌++◌, Some, None, Ok, Err, codes, decimal, Option, Result}
use Rattle.std.specs.Option.{option_map_or}
use Rattle.board.specs.declared.refusal.Refusal.{Refusal}
use Rattle.board.specs.declared.refusal.Refusal.TheVariants.{NotEmpty, SizeOut, RowsFull, ModeOut, BadRow, LinesFull, MomentOut, NoEvent, NoSuch, NotACost, NoReading, TooLong, PlaceOut, Unsettled, BadMove, NotNext, BadBracket, TooDeep, NoEnd}
use Rattle.board.specs.declared.check.Fault.{Fault}

-- the number of each refusal
abbrev pub number : Refusal → ℕ
number NotEmpty = 1
number SizeOut = 2
number RowsFull = 3
number ModeOut = 4
number BadRow = 5
number LinesFull = 6
number MomentOut = 7
number NoEvent = 8
number NoSuch = 9
number NotACost = 10
number NoReading = 11
number TooLong = 12
number PlaceOut = 13
number Unsettled = 14
number BadMove = 15
number NotNext = 16
number BadBracket = 17
number TooDeep = 18
number NoEnd = 19

-- the first refusal whose reason applies
abbrev pub first_refusal : List (Bool × Refusal) → Option Refusal
first_refusal [] = None
first_refusal (r ∷ rs) = cond r.0 (Some r.1) (first_refusal rs)

-- what a call answers: x, or the refusal where there is one
abbrev pub answer : {X : Type 0} → Option Refusal → X → Result X Refusal
answer o x = option_map_or Err o (Ok x)

-- what a call leaves: the new, or the old where it is refused
abbrev pub unless : {X : Type 0} → Option Refusal → X → X → X
unless o done old = option_map_or (λ e. old) o done

-- how a refusal is told: `no` and its number
abbrev pub refusal_text : Refusal → List ℕ
refusal_text e = codes "no " ++ decimal (number e)

-- how a faulty move is told: the refusal and the move's index
abbrev pub fault_text : Fault → List ℕ
fault_text e = refusal_text e.refusal ++ (codes " at " ++ decimal e.index)
