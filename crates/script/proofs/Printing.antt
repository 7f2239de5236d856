-- What a call on a board prints, and what lines print one after another.
use Rattle.std.proofs.Common.{◌≡◌, ℕ, List, ◌++◌, length, take, drop, Some, codes, Option, refl, ap, ◌∙◌, append-nil, arith}
use Rattle.std.proofs.lemmas.List.{drop_all, take_all}
use Rattle.costs.specs.Meaning.{Meaning}
use Rattle.board.specs.Settling.{Record}
use Rattle.file.specs.declared.call.Call.{Call}
use Rattle.file.specs.declared.call.Call.TheVariants as board
use Rattle.file.specs.States.{State, draft, settled}
use Rattle.file.specs.Answers.{step_answer, step_buffer}
use Rattle.file.specs.Histories.{defined_records}
use Rattle.costs.specs.declared.kind_name.KindName.{KindName}
use Rattle.script.specs.declared.command.Command.{Command as VecCommand}
use Rattle.script.specs.declared.command.Command.TheVariants.{Kind, Size, AddRow, AddLine, RepriceRow, RepriceLine, ClearLines, Load, Settle, Reopen, Cost, Path, Between, Check}
use Rattle.script.specs.Commands.{Command, kind, size, row, line, reprice_row, reprice_line, clear, load, settle, reopen, cost, path, between, check, command_of, on_board}
use Rattle.script.specs.Sessions.{without_address}
use Rattle.script.specs.Telling.{file_of, told_text}
use Rattle.script.specs.Printing.{SessionState, made_text, board_text, board_after, command_text, command_after}

-- where a call's bytes or moves lie changes nothing
same_text : (m : Meaning) (s : State) (log : List Record) (x : Call) (buffer : List ℕ) → told_text (step_answer m s log x buffer) (file_of x) (step_buffer m s log x buffer) ≡ told_text (step_answer m s log (without_address x) buffer) (file_of (without_address x)) (step_buffer m s log (without_address x) buffer)
same_text m (draft c) log (board.Load bs) buffer = refl
same_text m (draft c) log (board.Check xs) buffer = refl
same_text m (draft c) log (board.Size a b) buffer = refl
same_text m (draft c) log (board.AddRow r) buffer = refl
same_text m (draft c) log (board.AddLine l) buffer = refl
same_text m (draft c) log (board.RepriceRow i k) buffer = refl
same_text m (draft c) log (board.RepriceLine i k) buffer = refl
same_text m (draft c) log board.ClearLines buffer = refl
same_text m (draft c) log board.Settle buffer = refl
same_text m (draft c) log board.Cost buffer = refl
same_text m (draft c) log board.Path buffer = refl
same_text m (draft c) log (board.Between s q) buffer = refl
same_text m (draft c) log board.Reopen buffer = refl
same_text m (settled c) log (board.Load bs) buffer = refl
same_text m (settled c) log (board.Check xs) buffer = refl
same_text m (settled c) log (board.Size a b) buffer = refl
same_text m (settled c) log (board.AddRow r) buffer = refl
same_text m (settled c) log (board.AddLine l) buffer = refl
same_text m (settled c) log (board.RepriceRow i k) buffer = refl
same_text m (settled c) log (board.RepriceLine i k) buffer = refl
same_text m (settled c) log board.ClearLines buffer = refl
same_text m (settled c) log board.Settle buffer = refl
same_text m (settled c) log board.Cost buffer = refl
same_text m (settled c) log board.Path buffer = refl
same_text m (settled c) log (board.Between s q) buffer = refl
same_text m (settled c) log board.Reopen buffer = refl

-- the text of a call on a board that holds the defined records
pub answered_so : (m : Meaning) (s : State) (log : List Record) (x : Call) (o : Option Call) (buffer : List ℕ) → log ≡ defined_records m s → Some (without_address x) ≡ o → told_text (step_answer m s log x buffer) (file_of x) (step_buffer m s log x buffer) ≡ made_text m s o buffer
answered_so m s log x o buffer r e =
    same_text m s log x buffer
    ∙ ap (λ (l : List Record). told_text (step_answer m s l (without_address x) buffer) (file_of (without_address x)) (step_buffer m s l (without_address x) buffer)) r
    ∙ ap (λ (c : Option Call). made_text m s c buffer) e

-- a vector whose whole slice was written
pub written_over : (n : ℕ) (xs ys : List ℕ) → n ≡ length ys → length xs ≡ length ys → take n (xs ++ drop (length xs) ys) ≡ xs
written_over n xs ys h k =
    ap (λ (l : List ℕ). take n (xs ++ l)) (drop_all (length xs) ys (omega (arith, k)))
    ∙ ap (take n) (append-nil xs)
    ∙ take_all n xs (omega (arith, h, k))

-- a command that makes a call on a board
pub board_command : (s : Option SessionState) (c : Command) (x : Call) → on_board c ≡ Some x → (command_text s c ≡ codes " -> " ++ board_text s c) × (command_after s c ≡ board_after s c)
board_command s (kind k) x e = absurd cc
board_command s (size a b) x e = (refl, refl)
board_command s (row r) x e = (refl, refl)
board_command s (line l) x e = (refl, refl)
board_command s (reprice_row i k) x e = (refl, refl)
board_command s (reprice_line i k) x e = (refl, refl)
board_command s clear x e = (refl, refl)
board_command s (load bs) x e = (refl, refl)
board_command s settle x e = (refl, refl)
board_command s reopen x e = (refl, refl)
board_command s cost x e = (refl, refl)
board_command s (path n) x e = (refl, refl)
board_command s (between p q) x e = (refl, refl)
board_command s (check xs) x e = (refl, refl)

-- a command that names no kind makes a call
pub made_call : (c : VecCommand) → ((k : KindName) → c ≡ Kind k → ⊥) → (x : Call) × (on_board (command_of c) ≡ Some x)
made_call (Kind k) other = absurd (other k refl)
made_call (Size a b) other = (_, refl)
made_call (AddRow r) other = (_, refl)
made_call (AddLine l) other = (_, refl)
made_call (RepriceRow i k) other = (_, refl)
made_call (RepriceLine i k) other = (_, refl)
made_call ClearLines other = (_, refl)
made_call (Load bs) other = (_, refl)
made_call Settle other = (_, refl)
made_call Reopen other = (_, refl)
made_call Cost other = (_, refl)
made_call (Path n) other = (_, refl)
made_call (Between p q) other = (_, refl)
made_call (Check xs) other = (_, refl)
