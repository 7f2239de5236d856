-- What the checker's state means.
use Rattle.std.specs.Prelude.{ℕ, List, reverse, Ok, Result}
use Rattle.std.specs.Result.{result_and}
use Rattle.board.specs.declared.checker.OpenBrackets.{OpenBrackets}
use Rattle.board.specs.declared.checker.Checker.{Checker}
use Rattle.board.specs.declared.refusal.Refusal.{Refusal}
use Rattle.board.specs.Checks.{Progress}

-- the brackets that are open, the last one first
abbrev pub unclosed_of : OpenBrackets → List ℕ
unclosed_of b = reverse b.open.items

-- how far the checker has come
abbrev pub progress_of : Checker → Progress
progress_of w = record { place = w.place; unclosed = unclosed_of w.brackets; ended = w.ended; cost = w.cost }

-- what a step that may be refused leaves
abbrev pub left : {X : Type 0} → Result (Unit {0}) Refusal → X → Result X Refusal
left r x = result_and r (Ok x)
