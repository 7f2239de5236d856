-- The content and the records of a settled board.
use Rattle.std.specs.Prelude.{◌≡◌, List}
use Rattle.costs.specs.declared.kind.Kind.{Ghosts}
use Rattle.board.specs.declared.settled.Settled.{Settled}
use Rattle.board.specs.Content.{Content, Sound}
use Rattle.board.specs.Held.{held}
use Rattle.board.specs.Settling.{Record}
use Rattle.board.specs.Logged.{records}
use Rattle.board.specs.Computing.{settled_log}

-- the content of a settled board
abbrev pub settled_content : {K : Type 0} {k : Ghosts K} → Settled K k → Content
settled_content s = held s.tables

-- its records, the newest first
abbrev pub settled_records : {K : Type 0} {k : Ghosts K} → Settled K k → List Record
settled_records s = records s.log

-- every settled board's content is sound
pub settled_sound : {K : Type 0} {k : Ghosts K} (s : Settled K k) → Sound k.meaning (settled_content s)
settled_sound s = s.tables.sound

-- every settled board's records are the defined ones
pub settled_defined : {K : Type 0} {k : Ghosts K} (s : Settled K k) → settled_records s ≡ settled_log k.meaning (settled_content s)
settled_defined s = s.settled
