-- A board's content, and what every content that calls can reach keeps.
use Rattle.std.specs.Prelude.{◌≡◌, ℕ, ◌*◌, ◌<◌, ◌≤◌, true, List, [], length, Some}
use Rattle.std.specs.List.{slice_get}
use Rattle.costs.specs.Meaning.{Meaning, Cost}
use Rattle.board.specs.Bounds.{most_places, most_rows, most_lines}
use Rattle.board.specs.declared.row.Row.{Row}
use Rattle.board.specs.declared.row.Line.{Line}
use Rattle.board.specs.Rows.{formed}

-- its size, M modes and T moments, its rows and its lines
pub record Content : Type 0 where
  pub modes : ℕ
  pub moments : ℕ
  pub rows : List Row
  pub lines : List Line

-- the content of this size, with these rows and lines
abbrev pub content : ℕ → ℕ → List Row → List Line → Content
content modes moments rows lines = record { modes = modes; moments = moments; rows = rows; lines = lines }

-- a new board: one mode, one moment, nothing on it
abbrev pub new : Content
new = record { modes = 1; moments = 1; rows = []; lines = [] }

-- A row's modes are in range, it is formed as its kind asks, and its cost is a cost of the kind.
pub record SoundRow (m : Meaning) (c : Content) (r : Row) : Type 0 where
  pub from_in : r.from < c.modes
  pub to_in : r.to < c.modes
  pub well_formed : formed r.kind r ≡ true
  pub price : Cost m r.cost

-- A line's moments are in range, it has an event, and its cost is a cost of the kind.
pub record SoundLine (m : Meaning) (c : Content) (l : Line) : Type 0 where
  pub from_in : l.from < c.moments
  pub to_in : l.to < c.moments
  pub some_event : 0 < l.event
  pub price : Cost m l.cost

-- What the calls keep: the size has 1 to 64 places, there are at most 128 rows and 128 lines, and each is sound.
pub record Sound (m : Meaning) (c : Content) : Type 0 where
  pub some_mode : 0 < c.modes
  pub some_moment : 0 < c.moments
  pub few_places : c.modes * c.moments ≤ most_places
  pub few_rows : length c.rows ≤ most_rows
  pub few_lines : length c.lines ≤ most_lines
  pub sound_rows : (i : ℕ) (r : Row) → slice_get c.rows i ≡ Some r → SoundRow m c r
  pub sound_lines : (i : ℕ) (l : Line) → slice_get c.lines i ≡ Some l → SoundLine m c l
