-- What a move does: from which place to which, at what cost, and what it does to the brackets.
use Rattle.std.specs.Prelude.{◌≡◌, ℕ, suc, ◌+◌, ◌*◌, ◌<◌, Bool, true, false, ◌⊎◌, Some, None, Option, ◌==◌}
use Rattle.std.specs.List.{slice_get}
use Rattle.costs.specs.Meaning.{Meaning}
use Rattle.board.specs.declared.row.RowKind.{RowKind}
use Rattle.board.specs.declared.row.RowKind.TheVariants.{Plain, Open, Close, End}
use Rattle.board.specs.declared.row.Row.{Row}
use Rattle.board.specs.declared.row.Line.{Line}
use Rattle.board.specs.declared.moves.Move.{Move}
use Rattle.board.specs.declared.moves.Effect.{Effect}
use Rattle.board.specs.declared.moves.Effect.TheVariants.{Quiet, Opens, Closes, Ends}
use Rattle.board.specs.Content.{Content}

-- a place: a mode and a moment
abbrev pub Place : Type 0
Place = ℕ × ℕ

-- its mode
abbrev pub mode : Place → ℕ
mode p = p.0

-- its moment
abbrev pub moment : Place → ℕ
moment p = p.1

-- the place where every reading starts: mode 0, moment 0
abbrev pub origin : Place
origin = (0, 0)

-- a place's number: mode times T plus moment
abbrev pub place_number : Content → Place → ℕ
place_number c p = mode p * c.moments + moment p

-- a place of the board
abbrev pub On : Content → Place → Type 0
On c p = (mode p < c.modes) × (moment p < c.moments)

-- what a row of this kind and label does to the brackets
abbrev pub effect_of : RowKind → ℕ → Effect
effect_of Plain n = Quiet
effect_of Open n = Opens n
effect_of Close n = Closes n
effect_of End n = Ends

-- what the row does to the brackets
abbrev pub effect : Row → Effect
effect r = effect_of r.kind r.label

-- whether it ends the reading
abbrev pub is_end : Effect → Bool
is_end Quiet = false
is_end (Opens n) = false
is_end (Closes n) = false
is_end Ends = true

-- Which rows are moves: each that the content holds, by its number.
abbrev pub move_row : Content → ℕ → Option Row
move_row c i = slice_get c.rows i

-- the move of number i is by the row r
abbrev pub IsMove : Content → ℕ → Row → Type 0
IsMove c i r = move_row c i ≡ Some r

-- At which moments an end row may stand: the last one only.
abbrev pub end_moment? : ℕ → ℕ → Bool
end_moment? moments t = suc t == moments

-- an end row may stand at the moment t
abbrev pub EndMoment : ℕ → ℕ → Type 0
EndMoment moments t = end_moment? moments t ≡ true

-- Of moments t before and u after, at cost k: a row that is no plain row with an event takes no line, keeps the moment, any
-- of the board's, and costs its own cost; an end row stands at the last moment only.
pub record Untimed (c : Content) (r : Row) (line : Option ℕ) (t u k : ℕ) : Type 0 where
  pub alone : line ≡ None
  pub no_event : r.kind ≡ Plain → r.label ≡ 0
  pub at_end : r.kind ≡ End → EndMoment c.moments t
  pub there : t < c.moments
  pub keeps : t ≡ u
  pub price : k ≡ r.cost

-- A plain row with an event goes with a line of that event: moment by the line, at the row's cost joined with the line's.
pub record Timed (m : Meaning) (c : Content) (r : Row) (line : Option ℕ) (t u k : ℕ) : Type 0 where
  pub number : ℕ
  pub taken : Line
  pub along : line ≡ Some number
  pub found : slice_get c.lines number ≡ Some taken
  pub is_plain : r.kind ≡ Plain
  pub some_event : r.label ≡ 0 → ⊥
  pub same_event : taken.event ≡ r.label
  pub depart : t ≡ taken.from
  pub arrive : u ≡ taken.to
  pub price : k ≡ m.join r.cost taken.cost

-- On content c the move v goes from p to q at the cost k, and does e to the brackets.
pub record Transition (m : Meaning) (c : Content) (v : Move) (p q : Place) (k : ℕ) (e : Effect) : Type 0 where
  pub by : Row
  pub found : IsMove c v.row by
  pub leaves : mode p ≡ by.from
  pub enters : mode q ≡ by.to
  pub does : e ≡ effect by
  pub time : Untimed c by v.line (moment p) (moment q) k ⊎ Timed m c by v.line (moment p) (moment q) k
