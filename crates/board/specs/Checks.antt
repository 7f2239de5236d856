-- Checking a list of packed moves, move by move.
use Rattle.std.specs.Prelude.{ℕ, suc, Bool, false, cond, not, ◌||◌, List, [], ◌∷◌, length, Some, None, Ok, Err, Option, Result, ◌==◌, nat_lt}
use Rattle.std.specs.Result.{result_map_both}
use Rattle.std.specs.Option.{option_and_then}
use Rattle.costs.specs.Meaning.{Meaning}
use Rattle.board.specs.Bounds.{most_open}
use Rattle.board.specs.declared.moves.Move.{Move}
use Rattle.board.specs.declared.moves.Effect.{Effect}
use Rattle.board.specs.declared.moves.Effect.TheVariants.{Quiet, Opens, Closes, Ends}
use Rattle.board.specs.declared.moves.Arrival.{Arrival}
use Rattle.board.specs.declared.named.Named.{Named}
use Rattle.board.specs.declared.refusal.Refusal.{Refusal}
use Rattle.board.specs.declared.refusal.Refusal.TheVariants.{BadMove, NotNext, BadBracket, TooDeep, NoEnd}
use Rattle.board.specs.declared.check.Fault.{Fault}
use Rattle.board.specs.Content.{Content}
use Rattle.board.specs.Moves.{Place, origin, is_end}
use Rattle.board.specs.Arrivals.{named, starts_at, arrival_by}
use Rattle.board.specs.Packing.{unpacked}

-- the brackets open after one effect, the last one first: at most 4,096 (else 18); what closes closes the last one, and an
-- end row comes only where none is open (else 17)
abbrev pub bracketed : Effect → List ℕ → Result (List ℕ) Refusal
bracketed Quiet st = Ok st
bracketed (Opens n) st = cond (nat_lt (length st) most_open) (Ok (n ∷ st)) (Err TooDeep)
bracketed (Closes n) [] = Err BadBracket
bracketed (Closes n) (x ∷ st) = cond (x == n) (Ok st) (Err BadBracket)
bracketed Ends [] = Ok []
bracketed Ends (x ∷ st) = Err BadBracket

-- How far a check has come: the place reached, the brackets open there, whether an end row was met, and the costs so
-- far joined.
pub record Progress : Type 0 where
  pub place : Place
  pub unclosed : List ℕ
  pub ended : Bool
  pub cost : ℕ

-- before the first move: at place 0, no bracket open, nothing joined
abbrev pub before_moves : Meaning → Progress
before_moves m = record { place = origin; unclosed = []; ended = false; cost = m.free }

-- after a move that leads to a, with these brackets open then, or refused for its brackets
abbrev pub arrived : Meaning → ℕ → Arrival → Result (List ℕ) Refusal → Result Progress Refusal
arrived m k a r = result_map_both (λ st. record { place = a.to; unclosed = st; ended = is_end a.effect; cost = m.join k a.cost }) (λ e. e) r

-- one move, by what it names: 15 where that is nothing; then 16 where an end row came before or it does not start at the
-- place reached; then its brackets
abbrev pub take_named : Meaning → ℕ → Progress → Option Named → Result Progress Refusal
take_named m moments w None = Err BadMove
take_named m moments w (Some n) =
    cond (w.ended || not (starts_at moments n w.place))
    (Err NotNext)
    (arrived m w.cost (arrival_by m n w.place) (bracketed (arrival_by m n w.place).effect w.unclosed))

-- what a packed move names: nothing where the number breaks the packing
abbrev pub named_by_number : Content → Option Move → Option Named
named_by_number c o = option_and_then (named c) o

-- one packed move
abbrev pub take_move : Meaning → Content → Progress → ℕ → Result Progress Refusal
take_move m c w x = take_named m c.moments w (named_by_number c (unpacked x))

-- goes on from there, or stops with the fault of move i
abbrev pub or_fault : ℕ → Result Progress Refusal → (Progress → Result ℕ Fault) → Result ℕ Fault
or_fault i (Ok w) f = f w
or_fault i (Err e) f = Err (record { index = i; refusal = e })

-- all moves, the first of which has the index i: the cost, or the first faulty move's index with the refusal; the
-- list's length with NoEnd where it stops without an end row
abbrev pub checked_from : Meaning → Content → Progress → ℕ → List ℕ → Result ℕ Fault
checked_from m c w i [] = cond w.ended (Ok w.cost) (Err (record { index = i; refusal = NoEnd }))
checked_from m c w i (x ∷ xs) = or_fault i (take_move m c w x) (λ v. checked_from m c v (suc i) xs)

-- Check: the cost of the complete reading that the packed moves are, or the first faulty move.
abbrev pub check_answer : Meaning → Content → List ℕ → Result ℕ Fault
check_answer m c xs = checked_from m c (before_moves m) 0 xs
