-- Parts of a file, and faults at their places.
use Rattle.std.specs.Prelude.{ℕ, List, Result}
use Rattle.std.specs.Result.{result_map_both}
use Rattle.file.specs.declared.part.Part.{Part}
use Rattle.file.specs.declared.refusal.FileRefusal.{FileRefusal}
use Rattle.file.specs.declared.refusal.LoadFault.{LoadFault}

-- a part's bytes, and the place of the first of them in the file
pub record PartRead : Type 0 where
  pub bytes : List ℕ
  pub place : ℕ

-- the bytes and the place of a part that is handed on
abbrev pub part_read : Part → PartRead
part_read p = record { bytes = p.bytes.now; place = p.place }

-- an answered part, or the fault
abbrev pub answered : Result Part LoadFault → Result PartRead LoadFault
answered r = result_map_both part_read (λ e. e) r

-- a refusal in the part at that place
abbrev pub fault_at : FileRefusal → ℕ → LoadFault
fault_at e place = record { refusal = e; place = place }
