-- What is left gives what the whole does.
use Rattle.std.proofs.Common.{◌≡◌, length}
use Rattle.file.specs.Readers.{read_so_far}
use Rattle.file.specs.Fillings.{so_far, from_stage}
use Rattle.file.proofs.filling.Filling.add_sections.Given as goal

abbrev pub invariant-loop-section : goal.invariant-loop-section
invariant-loop-section g l = record {
  left : from_stage g.K.Kind.meaning l.self.trust l.reader.stage (read_so_far l.reader).left (so_far l.self)
      ≡ from_stage g.K.Kind.meaning l.fn.self.trust l.fn.reader.stage (read_so_far l.fn.reader).left (so_far l.fn.self);
  same : (l.self.draft.ghost_name ≡ l.fn.self.draft.ghost_name) × (l.self.trust ≡ l.fn.self.trust);
}

abbrev pub decreases-loop-section : goal.decreases-loop-section
decreases-loop-section g l = length l.reader.left.bytes.now
