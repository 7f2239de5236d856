-- What a settled board answers, from its content and its log.
use Rattle.std.specs.Prelude.{ℕ, ◌*◌, min, Bool, cond, ◌&&◌, ◌||◌, List, ◌++◌, map, length, drop, Ok, Err, Option, Result, nat_le}
use Rattle.std.specs.Option.{ok_or, option_map, option_map_or}
use Rattle.costs.specs.Meaning.{Meaning}
use Rattle.board.specs.Bounds.{many_moves, most_written}
use Rattle.board.specs.declared.moves.Move.{Move}
use Rattle.board.specs.declared.refusal.Refusal.{Refusal}
use Rattle.board.specs.declared.refusal.Refusal.TheVariants.{NoReading, TooLong, PlaceOut, Unsettled}
use Rattle.board.specs.Content.{Content}
use Rattle.board.specs.Packing.{packed}
use Rattle.board.specs.Settling.{Record}
use Rattle.board.specs.Computing.{record_between, Reading, recorded_reading}

-- the cost of a pair's record, if it has one
abbrev pub recorded_cost : Option Record → Result ℕ Refusal
recorded_cost o = ok_or (option_map (λ (a : Record). a.cost) o) Unsettled

-- Between: the recorded cost of a pair of places, given by their numbers.
abbrev pub between_answer : Content → List Record → ℕ → ℕ → Result ℕ Refusal
between_answer c log s q =
    cond (nat_le (c.modes * c.moments) s || nat_le (c.modes * c.moments) q) (Err PlaceOut) (recorded_cost (record_between c log s q))

-- a reading's cost and number of moves, the number standing at 65,536 where it is more
abbrev pub cost_told : Option Reading → Result (ℕ × ℕ) Refusal
cost_told o = ok_or (option_map (λ (f : Reading). (f.cost, min (length f.moves) many_moves)) o) NoReading

-- Cost: the recorded reading's cost and number of moves.
abbrev pub cost_answer : Meaning → Content → List Record → Result (ℕ × ℕ) Refusal
cost_answer m c log = cost_told (recorded_reading m c log)

-- whether the reading's moves are no more than the buffer holds, and no more than 65,535
abbrev pub fits : {A : Type 0} → Reading → List A → Bool
fits f buffer = nat_le (length f.moves) (length buffer) && nat_le (length f.moves) most_written

-- how many moves a reading has, if it fits
abbrev pub written_told : {A : Type 0} → Option Reading → List A → Result ℕ Refusal
written_told o buffer = option_map_or (λ (f : Reading). cond (fits f buffer) (Ok (length f.moves)) (Err TooLong)) o (Err NoReading)

-- the buffer with a reading's moves in front, in order and each in a form, and then what stood there; if it fits
abbrev pub moves_written : {A : Type 0} → (Move → A) → Option Reading → List A → List A
moves_written form o buffer = option_map_or (λ (f : Reading). cond (fits f buffer) (map form f.moves ++ drop (length f.moves) buffer) buffer) o buffer

-- The recorded reading's moves are written in order to the front of a buffer, each in a form: how many they are, unless they
-- are more than the buffer holds or than 65,535,
abbrev pub reading_answer : {A : Type 0} → Meaning → Content → List Record → List A → Result ℕ Refusal
reading_answer m c log buffer = written_told (recorded_reading m c log) buffer

-- and the buffer afterwards
abbrev pub reading_after : {A : Type 0} → (Move → A) → Meaning → Content → List Record → List A → List A
reading_after form m c log buffer = moves_written form (recorded_reading m c log) buffer

-- Path: writes them packed, and answers how many.
abbrev pub path_answer : Meaning → Content → List Record → List ℕ → Result ℕ Refusal
path_answer m c log buffer = reading_answer m c log buffer

abbrev pub path_after : Meaning → Content → List Record → List ℕ → List ℕ
path_after m c log buffer = reading_after packed m c log buffer

-- Moves: writes the moves themselves, and answers how many.
abbrev pub moves_answer : Meaning → Content → List Record → List Move → Result ℕ Refusal
moves_answer m c log buffer = reading_answer m c log buffer

abbrev pub moves_after : Meaning → Content → List Record → List Move → List Move
moves_after m c log buffer = reading_after (λ v. v) m c log buffer
