-- The main promise: whatever calls led to a settled board, its answer is the cheapest complete reading there is.
use Rattle.std.specs.Prelude.{◌≡◌, ℕ, ◌<◌, ◌≤◌, min, ◌⊎◌, ◌↔◌, List, ◌++◌, map, length, drop, Ok, Err, Result}
use Rattle.costs.specs.Meaning.{Meaning, NoDearer}
use Rattle.board.specs.Bounds.{many_moves, most_written}
use Rattle.board.specs.declared.moves.Move.{Move}
use Rattle.board.specs.declared.refusal.Refusal.{Refusal}
use Rattle.board.specs.declared.refusal.Refusal.TheVariants.{NoReading, TooLong}
use Rattle.board.specs.Content.{Content}
use Rattle.board.specs.Paths.{Complete}
use Rattle.board.specs.Packing.{packed}
use Rattle.board.specs.Checks.{check_answer}
use Rattle.board.specs.Settling.{RecordedReading}
use Rattle.board.specs.Computing.{settled_log}
use Rattle.board.specs.Promises.{NoReadingBelowWorst}
use Rattle.board.specs.Questions.{cost_answer, path_answer, path_after}
use Rattle.file.specs.declared.call.Call.{Call}
use Rattle.file.specs.States.{settled, state_after}
use Rattle.file.specs.Easing.{AllEase}

-- what a settled board with content c answers to cost,
abbrev pub settled_cost : Meaning → Content → Result (ℕ × ℕ) Refusal
settled_cost m c = cost_answer m c (settled_log m c)

-- to path into that buffer,
abbrev pub settled_path : Meaning → Content → List ℕ → Result ℕ Refusal
settled_path m c buffer = path_answer m c (settled_log m c) buffer

-- and what path leaves of it
abbrev pub path_left : Meaning → Content → List ℕ → List ℕ
path_left m c buffer = path_after m c (settled_log m c) buffer

-- the answer as one cost; no reading counts as the worst
abbrev pub cost_or_worst : Meaning → Result (ℕ × ℕ) Refusal → ℕ
cost_or_worst m (Ok a) = a.0
cost_or_worst m (Err e) = m.worst

-- that of a settled board with content c
abbrev pub answered_cost : Meaning → Content → ℕ
answered_cost m c = cost_or_worst m (settled_cost m c)

-- Path writes these moves to the front of the buffer, changes no later number and answers how many; or they are too many
-- for the buffer or for the number, and it declines and leaves the buffer.
pub data Writes (vs : List Move) (buffer : List ℕ) : Result ℕ Refusal → List ℕ → Type 0 where
  written : length vs ≤ length buffer → length vs ≤ most_written → Writes vs buffer (Ok (length vs)) (map packed vs ++ drop (length vs) buffer)
  declined : (length buffer < length vs) ⊎ (most_written < length vs) → Writes vs buffer (Err TooLong) buffer

-- The reading behind an answered cost k and number of moves n.
pub record AnsweredReading (m : Meaning) (c : Content) (k n : ℕ) : Type 0 where
  pub reading : List Move
  -- it is the recorded one
  pub recorded : RecordedReading m c (settled_log m c) k reading
  -- it is complete, at the answered cost
  pub complete : Complete m c reading k
  -- it has the answered number of moves, 65,536 where it has more
  pub number : n ≡ min (length reading) many_moves
  -- it is what path writes, into every buffer
  pub written : (buffer : List ℕ) → Writes reading buffer (settled_path m c buffer) (path_left m c buffer)
  -- the check accepts it, at the answered cost
  pub checked : check_answer m c (map packed reading) ≡ Ok k
  -- every complete reading costs at least as much
  pub cheapest : (other : List Move) (x : ℕ) → Complete m c other x → NoDearer m k x

-- A list of calls has left a new board settled with content c.
pub record AnswersCheapest (m : Meaning) (calls : List Call) (c : Content) : Type 0 where
  -- if a cost is answered, the cheapest complete reading stands behind it
  pub answered : (k n : ℕ) → settled_cost m c ≡ Ok (k, n) → AnsweredReading m c k n
  -- no cost is answered exactly when no complete reading costs less than the worst
  pub none_below_worst : (settled_cost m c ≡ Err NoReading) ↔ NoReadingBelowWorst m c
  -- if since an earlier time when it stood settled each call was one that eases, the answer is no dearer than then
  pub no_dearer_since : (before after : List Call) (c₀ : Content) → calls ≡ before ++ after → state_after m before ≡ settled c₀ → AllEase m (settled c₀) after → NoDearer m (answered_cost m c) (answered_cost m c₀)

-- The main promise over a list of calls.
abbrev pub AnswersCheapestWhenSettled : Meaning → List Call → Type 0
AnswersCheapestWhenSettled m calls = (c : Content) → state_after m calls ≡ settled c → AnswersCheapest m calls c
