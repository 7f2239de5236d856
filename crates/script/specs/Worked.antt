-- Worked scripts, and what is printed of them.
use Rattle.std.specs.Prelude.{◌≡◌, ℕ, List, [], ◌∷◌, ◌++◌, replicate, codes}
use Rattle.std.specs.List.{flat_map}
use Rattle.script.specs.Printing.{printed}

-- a comment; a row that is added and one that is refused; a question to a draft; a line that is no command; an empty line;
-- a command with spacing before it and another answer behind it; the cheapest reading; a check that fails
abbrev pub small_script : List ℕ
small_script =
    codes
    "# the smallest reading\nkind P\nrow 3 0 0 0 0 7\nrow 3 0 1 0 0 7\ncost\nrows 1\nsettle\n\n\tcost -> 9 9\npath 2\ncheck 0000 0000\nreopen\n"

abbrev pub small_answers : List ℕ
small_answers =
    codes
    "kind P\nrow 3 0 0 0 0 7 -> 0\nrow 3 0 1 0 0 7 -> no 4\ncost -> not taken\nrows 1 -> unreadable\nsettle -> ok\ncost -> 7 1\npath 2 -> 1 0000 aaaa\ncheck 0000 0000 -> no 16 at 1\nreopen -> ok\n"

-- Every command, with what is printed behind it. In severity: a plain row with a line and an end row, repriced, cost 6. A path
-- that does not fit, one into the longest buffer that is printed and one into a longer one. In points: no file; a file whose
-- note 'hi' stands at 16; a file with one byte behind its header, which leaves a new board.
abbrev pub each_call : List (List ℕ × List ℕ)
each_call =
    (codes "kind S", [])
    ∷ (codes "size 2 2", codes " -> ok")
    ∷ (codes "row 0 0 1 1 9 5", codes " -> 0")
    ∷ (codes "row 3 1 1 0 0 2", codes " -> 1")
    ∷ (codes "line 0 1 1 3", codes " -> 0")
    ∷ (codes "line 0 2 1 3", codes " -> no 7")
    ∷ (codes "reprice-row 1 4", codes " -> ok")
    ∷ (codes "reprice-row 9 4", codes " -> no 9")
    ∷ (codes "reprice-line 0 6", codes " -> ok")
    ∷ (codes "settle", codes " -> ok")
    ∷ (codes "size 1 1", codes " -> not taken")
    ∷ (codes "cost", codes " -> 6 2")
    ∷ (codes "path 1", codes " -> no 12 aaaa")
    ∷ (codes "path 40", codes " -> 2 0080 0100" ++ flat_map (λ (n : ℕ). codes " aaaa") (replicate 38 0))
    ∷ (codes "path 41", codes " -> 2")
    ∷ (codes "between 0 3", codes " -> 6")
    ∷ (codes "between 0 4", codes " -> no 13")
    ∷ (codes "check 0080 100", codes " -> 6")
    ∷ (codes "check 80*2", codes " -> no 16 at 1")
    ∷ (codes "reopen", codes " -> ok")
    ∷ (codes "clear", codes " -> 1")
    ∷ (codes "kind P", [])
    ∷ (codes "load", codes " -> bad 20 1 0")
    ∷ (codes "load 500204101001C00000000000000030026869", codes " -> note 16 6869")
    ∷ (codes "load 5002041010", codes " -> bad 20 1 4")
    ∷ (codes "settle", codes " -> ok")
    ∷ (codes "cost", codes " -> no 11")
    ∷ []

-- the lines of such a table without what is printed behind them, and with it
abbrev pub asked : List (List ℕ × List ℕ) → List ℕ
asked = flat_map (λ p. p.0 ++ codes "\n")

abbrev pub with_answers : List (List ℕ × List ℕ) → List ℕ
with_answers = flat_map (λ p. p.0 ++ (p.1 ++ codes "\n"))

pub record WorkedScripts : Type 0 where
  pub small : printed small_script ≡ small_answers
  pub each : printed (asked each_call) ≡ with_answers each_call
