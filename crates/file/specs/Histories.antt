-- A board after a history of calls, and what one call more makes of it.
use Rattle.std.specs.Prelude.{◌≡◌, ℕ, List, [], ◌∷◌, ◌++◌, refl}
use Rattle.costs.specs.declared.kind.Kind.{Ghosts}
use Rattle.costs.specs.Meaning.{Meaning}
use Rattle.board.specs.Held.{draft_content}
use Rattle.board.specs.Boards.{settled_content, settled_records, settled_defined}
use Rattle.board.specs.Settling.{Record}
use Rattle.board.specs.Computing.{settled_log}
use Rattle.file.specs.declared.call.Call.{Call}
use Rattle.file.specs.declared.boards.Board.{Board}
use Rattle.file.specs.declared.boards.Board.TheVariants as board
use Rattle.file.specs.States.{State, draft, settled, state_after}
use Rattle.file.specs.declared.call.Answer.{Answer}
use Rattle.file.specs.Answers.{step_answer, step_buffer}
use Rattle.file.specs.Promise.{AnswersCheapestWhenSettled}

-- the state of a board
abbrev pub state_of : {K : Type 0} {k : Ghosts K} → Board K k → State
state_of (board.Drafted d) = draft (draft_content d)
state_of (board.Settled s) = settled (settled_content s)

-- the records it holds; a draft holds none
abbrev pub records_of : {K : Type 0} {k : Ghosts K} → Board K k → List Record
records_of (board.Drafted d) = []
records_of (board.Settled s) = settled_records s

-- the records that a state is defined to have
abbrev pub defined_records : Meaning → State → List Record
defined_records m (draft c) = []
defined_records m (settled c) = settled_log m c

-- every board's records are the defined ones of its state
pub records_defined : {K : Type 0} {k : Ghosts K} (b : Board K k) → records_of b ≡ defined_records k.meaning (state_of b)
records_defined (board.Drafted d) = refl
records_defined (board.Settled s) = settled_defined s

-- The board is what these calls make of a new one: it stands in their state.
abbrev pub MadeBy : {K : Type 0} {k : Ghosts K} → Meaning → List Call → Board K k → Type 0
MadeBy m calls b = state_of b ≡ state_after m calls

-- One call more after a history: the board is what all these calls make of a new one, with exactly the defined records, the
-- answer and the buffer are the defined ones, and the main promise holds of the whole list.
pub record OneCallMore {K : Type 0} {k : Ghosts K} (m : Meaning) (calls : List Call) (x : Call) (buffer : List ℕ) (after : Board K k) (told : Answer) (left : List ℕ) : Type 0 where
  pub holds : MadeBy m (calls ++ (x ∷ [])) after
  pub records : records_of after ≡ defined_records m (state_after m (calls ++ (x ∷ [])))
  pub answered : told ≡ step_answer m (state_after m calls) (defined_records m (state_after m calls)) x buffer
  pub written : left ≡ step_buffer m (state_after m calls) (defined_records m (state_after m calls)) x buffer
  pub cheapest : AnswersCheapestWhenSettled m (calls ++ (x ∷ []))
