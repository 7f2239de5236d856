-- The bounds of a board, of a check, and of what is told.
use Rattle.std.specs.Prelude.{ℕ}

-- places, M times T, at most
abbrev pub most_places : ℕ
most_places = 64

-- pairs of places, so records of a log, at most: 64 times 64
abbrev pub most_pairs : ℕ
most_pairs = 4096

-- rows at most
abbrev pub most_rows : ℕ
most_rows = 128

-- lines at most
abbrev pub most_lines : ℕ
most_lines = 128

-- brackets open at once in a list that is checked, at most
abbrev pub most_open : ℕ
most_open = 4096

-- the number of moves that stands for itself and for every greater one
abbrev pub many_moves : ℕ
many_moves = 65536

-- moves of a reading that is written into a buffer, at most
abbrev pub most_written : ℕ
most_written = 65535
