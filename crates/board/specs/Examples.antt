-- A worked example of settling: a content, its settled log, and the recorded reading.
use Rattle.std.specs.Prelude.{◌≡◌, ℕ, List, [], ◌∷◌, length, Some}
use Rattle.costs.specs.Kinds.{points}
use Rattle.board.specs.declared.row.RowKind.{RowKind}
use Rattle.board.specs.declared.row.RowKind.TheVariants.{Plain, Open, Close, End}
use Rattle.board.specs.declared.row.Row.{Row}
use Rattle.board.specs.declared.row.Line.{Line}
use Rattle.board.specs.declared.moves.Move.{Move}
use Rattle.board.specs.Content.{Content}
use Rattle.board.specs.Settling.{bare}
use Rattle.board.specs.Computing.{settled_log, recorded_reading}

-- a row by its kind, modes, label, action and cost
abbrev pub row : RowKind → ℕ → ℕ → ℕ → ℕ → ℕ → Row
row k f t l a x = record { kind = k; from = f; to = t; label = l; action = a; cost = x }

-- a line by its moments, event and cost
abbrev pub line : ℕ → ℕ → ℕ → ℕ → Line
line f t e x = record { from = f; to = t; event = e; cost = x }

-- the move by a row with a line
abbrev with_a_line : ℕ → ℕ → Move
with_a_line i j = record { row = i; line = Some j }

-- Three modes and three moments. Row 0 opens bracket 0 and row 3 closes it; rows 1 and 2 take a line of event 1 or 2
-- inside it, row 4 one of event 2 outside; rows 5 and 6 end a reading in mode 2 and in mode 0.
abbrev pub flight : Content
flight = record {
  modes = 3;
  moments = 3;
  rows =
      row Open 0 1 0 0 1
      ∷ (row Plain 1 1 1 7 4
      ∷ (row Plain 1 1 2 8 9
      ∷ (row Close 1 0 0 0 1 ∷ (row Plain 0 2 2 9 3 ∷ (row End 2 2 0 0 0 ∷ (row End 0 0 0 0 20 ∷ []))))));
  lines = line 0 1 1 0 ∷ (line 1 2 2 0 ∷ []);
}

-- its recorded reading: rows 0, 1 with line 0, 3, 4 with line 1, and 5
abbrev pub flight_moves : List Move
flight_moves = bare 0 ∷ (with_a_line 1 0 ∷ (bare 3 ∷ (with_a_line 4 1 ∷ (bare 5 ∷ []))))

-- what is computed of it, with points
pub record SettlingExamples : Type 0 where
  -- the nine places and eight rounds
  pub flight_log : length (settled_log points flight) ≡ 17
  -- the reading at cost 9: open, the first line, close, the second line, end
  pub flight_reading : recorded_reading points flight (settled_log points flight) ≡ Some (record { row = 5; cost = 9; moves = flight_moves })
