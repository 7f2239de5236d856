-- A board that is being filled, and answers together with what stands then.
use Rattle.std.specs.Prelude.{Ok, Err, Result, ℕ}
use Rattle.costs.specs.declared.kind.Kind.{Ghosts}
use Rattle.costs.specs.Meaning.{Meaning}
use Rattle.board.specs.Content.{Content}
use Rattle.board.specs.Held.{draft_content}
use Rattle.file.specs.declared.refusal.FileRefusal.{FileRefusal}
use Rattle.file.specs.declared.refusal.LoadFault.{LoadFault}
use Rattle.file.specs.declared.reader.Stage.{Stage}
use Rattle.file.specs.declared.reader.Stage.TheVariants as stage
use Rattle.file.specs.declared.part.Part.{Part}
use Rattle.file.specs.declared.filling.Filling.{Filling}
use Rattle.file.specs.Parts.{PartRead, part_read}
use Rattle.file.specs.Load.{Loaded, Opened, at_end, from_lines, from_note, from_rows, loaded_as}

-- an answer together with what stands after it; a refusal leaves that out
abbrev pub told : {X Y E : Type 0} → Result X E → Y → Result Y E
told (Ok x) y = Ok y
told (Err e) y = Err e

-- a board that is being filled, and the note so far
abbrev pub so_far : {K : Type 0} {k : Ghosts K} → Filling K k → Loaded
so_far f = loaded_as (draft_content f.draft.now) (part_read f.note)

-- the sections that may come at each stage
abbrev pub from_stage : Meaning → ℕ → Stage → PartRead → Loaded → Result Loaded LoadFault
from_stage m trust stage.Rows = from_rows m trust
from_stage m trust stage.Lines = from_lines m trust
from_stage m trust stage.Note = from_note m trust
from_stage m trust stage.End = at_end

-- an answered trust together with the content that stands then; a refusal leaves that out
abbrev pub told_trust : Result ℕ FileRefusal → Content → Result Opened FileRefusal
told_trust (Ok trust) c = Ok (record { content = c; trust = trust })
told_trust (Err e) c = Err e

-- an answered note together with the content that stands then; a fault leaves that out
abbrev pub told_note : Result Part LoadFault → Content → Result Loaded LoadFault
told_note (Ok p) c = Ok (loaded_as c (part_read p))
told_note (Err e) c = Err e
