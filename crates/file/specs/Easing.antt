-- Calls after which a board's answer is no dearer.
use Rattle.std.specs.Prelude.{◌≡◌, ℕ, Bool, true, false, List, [], ◌∷◌, Some}
use Rattle.std.specs.List.{slice_get}
use Rattle.costs.specs.Meaning.{Meaning, NoDearer}
use Rattle.board.specs.declared.row.Row.{Row}
use Rattle.board.specs.declared.row.Line.{Line}
use Rattle.board.specs.Content.{Content}
use Rattle.file.specs.declared.call.Call.{Call}
use Rattle.file.specs.declared.call.Call.TheVariants.{AddRow, AddLine, RepriceRow, RepriceLine, Load, Settle, Cost, Path, Between, Check, Reopen}
use Rattle.file.specs.States.{State, draft, settled, stepped}
use Rattle.file.specs.Answers.{draft_answer, refused_with}

-- the questions
pub data Question : Call → Type 0 where
  cost : Question Cost
  path : Question Path
  between : {s q : ℕ} → Question (Between s q)
  check : {moves : _} → Question (Check moves)

-- whether a call is a load
abbrev pub is_load : Call → Bool
is_load (Load file) = true
is_load x = false

-- A row or line is added, or repriced no dearer than it stands; the board is settled, reopened or asked; or the call is no
-- load, and its answer holds a refusal.
pub data Eases (m : Meaning) : State → Call → Type 0 where
  adds_row : {c : Content} {r : Row} → Eases m (draft c) (AddRow r)
  adds_line : {c : Content} {l : Line} → Eases m (draft c) (AddLine l)
  reprices_row : {c : Content} {i k : ℕ} (r : Row) → slice_get c.rows i ≡ Some r → NoDearer m k r.cost → Eases m (draft c) (RepriceRow i k)
  reprices_line : {c : Content} {i k : ℕ} (l : Line) → slice_get c.lines i ≡ Some l → NoDearer m k l.cost → Eases m (draft c) (RepriceLine i k)
  settles : {c : Content} → Eases m (draft c) Settle
  reopens : {c : Content} → Eases m (settled c) Reopen
  asks : {c : Content} {x : Call} → Question x → Eases m (settled c) x
  declined : {c : Content} {x : Call} (n : ℕ) → is_load x ≡ false → refused_with (draft_answer m c x) ≡ Some n → Eases m (draft c) x

-- each call of a list does, at its time
pub data AllEase (m : Meaning) : State → List Call → Type 0 where
  none : {s : State} → AllEase m s []
  next : {s : State} {x : Call} {xs : List Call} → Eases m s x → AllEase m (stepped m s x) xs → AllEase m s (x ∷ xs)
