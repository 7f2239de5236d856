-- What it means that the check refuses: which move is at fault, and why.
use Rattle.std.specs.Prelude.{◌≡◌, ℕ, ◌⊎◌, ◌↔◌, List, [], ◌∷◌, map, length, take, Some, Err, Result}
use Rattle.std.specs.List.{slice_get}
use Rattle.costs.specs.Meaning.{Meaning}
use Rattle.board.specs.Bounds.{most_open}
use Rattle.board.specs.declared.moves.Move.{Move}
use Rattle.board.specs.declared.moves.Effect.{Effect}
use Rattle.board.specs.declared.moves.Effect.TheVariants.{Opens, Closes, Ends}
use Rattle.board.specs.declared.check.Fault.{Fault}
use Rattle.board.specs.declared.refusal.Refusal.{Refusal}
use Rattle.board.specs.declared.refusal.Refusal.TheVariants.{BadMove, NotNext, BadBracket, TooDeep, NoEnd}
use Rattle.board.specs.Content.{Content}
use Rattle.board.specs.Moves.{Place, origin, Transition}
use Rattle.board.specs.Paths.{Path, stack, Running}
use Rattle.board.specs.Packing.{unpacked}
use Rattle.board.specs.Accepted.{ShallowFrom, PacksReading}

-- The numbers pack a path from place 0 on which no end row comes, each close row closes the bracket opened last of those
-- still open, and never more than 4,096 are open. It comes to a place, and leaves the brackets unclosed, if any, the last one
-- first.
pub record Underway (m : Meaning) (c : Content) (xs : List ℕ) : Type 0 where
  pub moves : List Move
  pub packs : map unpacked xs ≡ map Some moves
  pub reached : Place
  pub costs : List ℕ
  pub effects : List Effect
  pub path : Path m c moves origin reached costs effects
  pub running : Running effects
  pub unclosed : List ℕ
  pub brackets : stack effects [] ≡ Some unclosed
  pub shallow : ShallowFrom [] effects

-- the numbers pack a complete reading that never has more than 4,096 brackets open: an end row came
abbrev pub Over : Meaning → Content → List ℕ → Type 0
Over m c xs = (k : ℕ) × PacksReading m c xs k

-- The number packs a move that goes on from the place p, and does e to the brackets.
pub record GoesFrom (m : Meaning) (c : Content) (x : ℕ) (p : Place) (e : Effect) : Type 0 where
  pub move : Move
  pub packs : unpacked x ≡ Some move
  pub to : Place
  pub cost : ℕ
  pub goes : Transition m c move p to cost e

-- it goes on from some place
abbrev pub GoesSomewhere : Meaning → Content → ℕ → Type 0
GoesSomewhere m c x = (p : Place) × (e : Effect) × GoesFrom m c x p e

-- Why the number x is refused behind those before it, of which none is at fault:
pub data Refused (m : Meaning) (c : Content) (before : List ℕ) (x : ℕ) : Refusal → Type 0 where
  -- 15: it packs no move that goes on from any place
  bad_move : Underway m c before ⊎ Over m c before → (GoesSomewhere m c x → ⊥) → Refused m c before x BadMove
  -- 16: it goes on from some place, but not from the one reached
  not_here : (w : Underway m c before) → GoesSomewhere m c x → ((e : Effect) → GoesFrom m c x w.reached e → ⊥) → Refused m c before x NotNext
  -- 16: it goes on from some place, but an end row came
  not_now : Over m c before → GoesSomewhere m c x → Refused m c before x NotNext
  -- 17: it closes a bracket that is not the last one open
  bad_close : {n : ℕ} (w : Underway m c before) → GoesFrom m c x w.reached (Closes n) → ((rest : List ℕ) → w.unclosed ≡ n ∷ rest → ⊥) → Refused m c before x BadBracket
  -- 17: it ends while a bracket is open
  bad_end : (w : Underway m c before) → GoesFrom m c x w.reached Ends → (w.unclosed ≡ [] → ⊥) → Refused m c before x BadBracket
  -- 18: it opens a bracket while 4,096 are open
  too_deep : {n : ℕ} (w : Underway m c before) → GoesFrom m c x w.reached (Opens n) → length w.unclosed ≡ most_open → Refused m c before x TooDeep

-- The list is at fault at the index i, for this reason:
pub data FirstFault (m : Meaning) (c : Content) (xs : List ℕ) (i : ℕ) : Refusal → Type 0 where
  -- 15 to 18: the number there is refused
  at_move : {e : Refusal} (x : ℕ) → slice_get xs i ≡ Some x → Refused m c (take i xs) x e → FirstFault m c xs i e
  -- 19: the list is over there, and no end row came
  no_end : i ≡ length xs → Underway m c xs → FirstFault m c xs i NoEnd

-- the check refuses exactly at the first fault, by its index and its reason
abbrev pub RefusesFaults : Meaning → Content → List ℕ → Result ℕ Fault → Type 0
RefusesFaults m c xs r = (f : Fault) → (r ≡ Err f) ↔ FirstFault m c xs f.index f.refusal
