-- Settling as functions, with which cases are computed: the candidates of a log, the rounds, and the recorded reading.
use Rattle.std.specs.Prelude.{ℕ, zero, suc, ◌*◌, Bool, true, false, cond, not, ◌&&◌, List, [], ◌∷◌, ◌++◌, map, length, Some, None, Option, ◌==◌}
use Rattle.std.specs.Option.{option_and_then, option_map_or}
use Rattle.std.specs.List.{filter, list_all, find, flat_map, fold}
use Rattle.std.specs.Ordering.{is_le, nat_cmp}
use Rattle.std.specs.Cmp.Lexicographic.{slice_cmp}
use Rattle.costs.specs.Meaning.{Meaning}
use Rattle.board.specs.declared.row.Row.{Row}
use Rattle.board.specs.declared.moves.Move.{Move}
use Rattle.board.specs.declared.moves.Effect.{Effect}
use Rattle.board.specs.declared.moves.Effect.TheVariants.{Quiet, Opens, Closes, Ends}
use Rattle.board.specs.declared.moves.Arrival.{Arrival}
use Rattle.board.specs.Content.{Content}
use Rattle.board.specs.Moves.{Place, mode, moment, place_number, is_end}
use Rattle.board.specs.Arrivals.{arrival_on}
use Rattle.board.specs.Settling.{Record, bare, step_record, call_record, diagonal, key}

-- the numbers below n
abbrev pub below : ℕ → List ℕ
below zero = []
below (suc n) = n ∷ below n

-- the moves by row i: alone, and with each of these lines
abbrev pub moves_by_row : List ℕ → ℕ → List Move
moves_by_row ls i = bare i ∷ map (λ j. record { row = i; line = Some j }) ls

-- the moves by every row, alone and with every line
abbrev pub all_moves : Content → List Move
all_moves c = flat_map (moves_by_row (below (length c.lines))) (below (length c.rows))

-- whether the two places are one
abbrev pub same_place : Place → Place → Bool
same_place p q = mode p == mode q && moment p == moment q

-- the record a with the step v, which leads to h and does e to the brackets
abbrev pub step_effect : Meaning → Record → Move → Arrival → Effect → List Record
step_effect m a v h Quiet = step_record m a v h.to h.cost ∷ []
step_effect m a v h (Opens n) = []
step_effect m a v h (Closes n) = []
step_effect m a v h Ends = []

-- the same, if the step leads somewhere
abbrev pub step_by : Meaning → Record → Move → Option Arrival → List Record
step_by m a v o = option_map_or (λ h. step_effect m a v h h.effect) o []

-- the record a with the call of bracket n opened by o at the cost k, b inside it, closed by w, which leads to h and does e
abbrev pub close_effect : Meaning → Record → Move → ℕ → Record → Move → ℕ → Arrival → Effect → List Record
close_effect m a o k b w n h Quiet = []
close_effect m a o k b w n h (Opens x) = []
close_effect m a o k b w n h (Closes x) = cond (n == x) (call_record m a o k b w h.cost h.to ∷ []) []
close_effect m a o k b w n h Ends = []

-- the same, if the close leads somewhere
abbrev pub close_by : Meaning → Record → Move → ℕ → Record → Move → ℕ → Option Arrival → List Record
close_by m a o k b w n l = option_map_or (λ h. close_effect m a o k b w n h h.effect) l []

-- the calls of bracket n opened by o at the cost k, with b inside, if b starts where o leads
abbrev pub inside_if : Meaning → Content → Record → Move → ℕ → ℕ → Record → Bool → List Record
inside_if m c a o k n b true = flat_map (λ w. close_by m a o k b w n (arrival_on m c w b.to)) (all_moves c)
inside_if m c a o k n b false = []

-- the same, where o leads to t
abbrev pub inside_by : Meaning → Content → Record → Move → Place → ℕ → ℕ → Record → List Record
inside_by m c a o t k n b = inside_if m c a o k n b (same_place t b.from)

-- the calls opened by o, which leads to h and does e
abbrev pub open_effect : Meaning → Content → List Record → Record → Move → Arrival → Effect → List Record
open_effect m c log a o h Quiet = []
open_effect m c log a o h (Opens n) = flat_map (inside_by m c a o h.to h.cost n) log
open_effect m c log a o h (Closes n) = []
open_effect m c log a o h Ends = []

-- the same, if the open leads somewhere
abbrev pub open_by : Meaning → Content → List Record → Record → Move → Option Arrival → List Record
open_by m c log a o l = option_map_or (λ h. open_effect m c log a o h h.effect) l []

-- the candidates that go on from the record a by the move v
abbrev pub from_arrival : Meaning → Content → List Record → Record → Move → Option Arrival → List Record
from_arrival m c log a v h = step_by m a v h ++ open_by m c log a v h

-- the same, by where the move leads from the record's end
abbrev pub from_record : Meaning → Content → List Record → Record → Move → List Record
from_record m c log a v = from_arrival m c log a v (arrival_on m c v a.to)

-- all candidates of a log
abbrev pub candidates : Meaning → Content → List Record → List Record
candidates m c log = flat_map (λ a. flat_map (from_record m c log a) (all_moves c)) log

-- whether no record of the log is of the pair of x
abbrev pub unrecorded? : List Record → Record → Bool
unrecorded? log x = list_all (λ a. not (same_place a.from x.from && same_place a.to x.to)) log

-- the test of the lexicographic order
abbrev pub lex? : List ℕ → List ℕ → Bool
lex? xs ys = is_le (slice_cmp nat_cmp xs ys)

-- whether x precedes y
abbrev pub precedes? : Meaning → Content → Record → Record → Bool
precedes? m c x y =
    cond
    (m.no_dearer y.cost x.cost)
    (cond (m.no_dearer x.cost y.cost) (lex? (key c x) (key c y)) false)
    true

-- of x and the list the first by a test
abbrev pub first_by : {A : Type 0} → (A → A → Bool) → A → List A → A
first_by test x ys = fold (λ b y. cond (test b y) b y) x ys

-- the first of these candidates, if it costs less than the worst
abbrev pub next_of : Meaning → Content → List Record → Option Record
next_of m c [] = None
next_of m c (x ∷ xs) =
    let b = first_by (precedes? m c) x xs in cond (m.no_dearer m.worst b.cost) None (Some b)

-- the record that the next round adds, if there is one
abbrev pub next : Meaning → Content → List Record → Option Record
next m c log = next_of m c (filter (unrecorded? log) (candidates m c log))

-- the log as it is where there is no next record, else what f makes of the next record
abbrev pub run_on : List Record → (Record → List Record) → Option Record → List Record
run_on log f o = option_map_or f o log

-- the log after n rounds more, or after fewer where no round is left
abbrev pub run : Meaning → Content → ℕ → List Record → List Record
run m c zero log = log
run m c (suc n) log = run_on log (λ x. run m c n (x ∷ log)) (next m c log)

-- how many pairs of places there are
abbrev pub pair_count : Content → ℕ
pair_count c = (c.modes * c.moments) * (c.modes * c.moments)

-- the log after as many rounds as there are pairs of places
unfoldable pub settled_log : Meaning → Content → List Record
settled_log m c = run m c (pair_count c) (diagonal m c)

-- whether the record goes from the place numbered s to the place numbered q
abbrev pub joins? : Content → Record → ℕ → ℕ → Bool
joins? c a s q = place_number c a.from == s && place_number c a.to == q

-- the record of the log from the place numbered s to the place numbered q, if it has one
unfoldable pub record_between : Content → List Record → ℕ → ℕ → Option Record
record_between c log s q = find (λ a. joins? c a s q) log

-- a reading that was found: its end row, its cost and its moves
pub record Reading : Type 0 where
  pub row : ℕ
  pub cost : ℕ
  pub moves : List Move

-- the record a and then the row i, which leads to h, if that is an end row
abbrev pub ending : Meaning → ℕ → Option Arrival → Option Record → Option Reading
ending m i l o = option_and_then (λ h. option_and_then (λ a. cond (is_end h.effect) (Some (record { row = i; cost = m.join a.cost h.cost; moves = a.moves ++ (bare i ∷ []) })) None) o) l

-- the reading by the row i at the place p: the record from place 0 to p, and that row
abbrev pub reading_at : Meaning → Content → List Record → ℕ → Place → Option Reading
reading_at m c log i p = ending m i (arrival_on m c (bare i) p) (record_between c log 0 (place_number c p))

-- what the next must cost less than, to be better
abbrev pub limit_by : {A : Type 0} → Meaning → (A → ℕ) → Option A → ℕ
limit_by m cost o = option_map_or cost o m.worst

-- the better of two by their costs, of which the first comes first where they tie; one that is no cheaper than the worst is
-- none
abbrev pub better_by : {A : Type 0} → Meaning → (A → ℕ) → Option A → Option A → Option A
better_by m cost b o = option_map_or (λ x. cond (m.no_dearer (limit_by m cost b) (cost x)) b (Some x)) o b

-- the better of two readings
abbrev pub better : Meaning → Option Reading → Option Reading → Option Reading
better m b o = better_by m (λ f. f.cost) b o

-- the best of b and the readings by the row i in the mode n at the moments below t
unfoldable pub best_moments : Meaning → Content → List Record → ℕ → ℕ → ℕ → Option Reading → Option Reading
best_moments m c log i n zero b = b
best_moments m c log i n (suc t) b = better m (best_moments m c log i n t b) (reading_at m c log i (n, t))

-- the best of b and the readings by these rows, of which the first is row i
unfoldable pub best_rows : Meaning → Content → List Record → ℕ → List Row → Option Reading → Option Reading
best_rows m c log i [] b = b
best_rows m c log i (r ∷ rs) b = best_rows m c log (suc i) rs (best_moments m c log i r.from c.moments b)

-- the recorded reading of a log, if it has one
unfoldable pub recorded_reading : Meaning → Content → List Record → Option Reading
recorded_reading m c log = best_rows m c log 0 c.rows None
