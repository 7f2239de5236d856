-- What is left gives what the whole does.
use Rattle.std.proofs.Common.{◌≡◌, ◌-◌}
use Rattle.board.specs.Held.{draft_content}
use Rattle.file.specs.Records.{record_added, records_added}
use Rattle.file.proofs.filling.Filling.add_records.Given as goal

abbrev pub invariant-loop : goal.invariant-loop
invariant-loop g l = record {
  left : records_added (record_added g.R.SectionRecord.read_as (g.R.SectionRecord.added g.K.Kind.meaning l.self.trust)) (l.count - l.counter) l.part.bytes.now l.part.place (draft_content l.self.draft.now)
      ≡ records_added (record_added g.R.SectionRecord.read_as (g.R.SectionRecord.added g.K.Kind.meaning l.fn.self.trust)) l.count l.fn.part.bytes.now l.fn.part.place (draft_content l.fn.self.draft.now);
  same : (l.self.draft.ghost_name ≡ l.fn.self.draft.ghost_name) × (l.self.trust ≡ l.fn.self.trust) × (l.self.note ≡ l.fn.self.note);
}
