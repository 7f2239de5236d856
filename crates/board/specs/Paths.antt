-- Paths, balance, and complete readings.
use Rattle.std.specs.Prelude.{◌≡◌, ℕ, Bool, true, false, cond, ◌↔◌, List, [], ◌∷◌, ◌++◌, Some, None, Option, ◌==◌}
use Rattle.std.specs.List.{filter}
use Rattle.costs.specs.Meaning.{Meaning}
use Rattle.costs.specs.Lists.{joined}
use Rattle.board.specs.declared.moves.Move.{Move}
use Rattle.board.specs.declared.moves.Effect.{Effect}
use Rattle.board.specs.declared.moves.Effect.TheVariants.{Quiet, Opens, Closes, Ends}
use Rattle.board.specs.Content.{Content}
use Rattle.board.specs.Moves.{Place, origin, Transition}

-- A list of moves that follow one another from p to q: each starts where the last one ended. Beside it the moves' costs
-- and what each does to the brackets, in order.
pub data Path (m : Meaning) (c : Content) : List Move → Place → Place → List ℕ → List Effect → Type 0 where
  stop : {p : Place} → Path m c [] p p [] []
  go : {v : Move} {vs : List Move} {p r q : Place} {k : ℕ} {ks : List ℕ} {e : Effect} {es : List Effect} → Transition m c v p r k e → Path m c vs r q ks es → Path m c (v ∷ vs) p q (k ∷ ks) (e ∷ es)

-- The Dyck language over numbered brackets: the empty word, two words one after the other, a word between an open and
-- the close of the same bracket.
pub data Dyck : List Effect → Type 0 where
  empty : Dyck []
  both : {a b : List Effect} → Dyck a → Dyck b → Dyck (a ++ b)
  pair : {a : List Effect} (n : ℕ) → Dyck a → Dyck (Opens n ∷ (a ++ (Closes n ∷ [])))

-- whether an effect is a bracket, opened or closed
abbrev pub is_bracket : Effect → Bool
is_bracket Quiet = false
is_bracket (Opens n) = true
is_bracket (Closes n) = true
is_bracket Ends = false

-- the brackets alone
abbrev pub brackets : List Effect → List Effect
brackets es = filter is_bracket es

-- the brackets form a word of the Dyck language
abbrev pub Balanced : List Effect → Type 0
Balanced es = Dyck (brackets es)

-- The same by a stack: the brackets left open after these effects, the last one first, with st open before; none where
-- one closes that is not the last one open.
abbrev pub stack : List Effect → List ℕ → Option (List ℕ)
stack [] st = Some st
stack (Quiet ∷ es) st = stack es st
stack (Opens n ∷ es) st = stack es (n ∷ st)
stack (Closes n ∷ es) [] = None
stack (Closes n ∷ es) (x ∷ st) = cond (x == n) (stack es st) None
stack (Ends ∷ es) st = stack es st

-- the grammar and the stack say the same
abbrev pub GrammarIsStack : Type 0
GrammarIsStack = (es : List Effect) → Balanced es ↔ (stack es [] ≡ Some [])

-- no end row among the moves
abbrev pub Running : List Effect → Type 0
Running [] = Unit {0}
Running (Quiet ∷ es) = Running es
Running (Opens n ∷ es) = Running es
Running (Closes n ∷ es) = Running es
Running (Ends ∷ es) = ⊥

-- A balanced path without end rows from p to q, whose cost k is its moves' costs joined from first to last.
pub record BalancedPath (m : Meaning) (c : Content) (vs : List Move) (p q : Place) (k : ℕ) : Type 0 where
  pub costs : List ℕ
  pub effects : List Effect
  pub path : Path m c vs p q costs effects
  pub balanced : Balanced effects
  pub running : Running effects
  pub price : k ≡ joined m costs

-- A complete reading starts at place 0, follows on place by place, is balanced, and has one end row, as its last move.
-- Its cost k is its moves' costs joined from first to last.
pub record Complete (m : Meaning) (c : Content) (vs : List Move) (k : ℕ) : Type 0 where
  pub costs : List ℕ
  pub body : List Effect
  pub stops : Place
  pub path : Path m c vs origin stops costs (body ++ (Ends ∷ []))
  pub balanced : Balanced (body ++ (Ends ∷ []))
  pub running : Running body
  pub price : k ≡ joined m costs
