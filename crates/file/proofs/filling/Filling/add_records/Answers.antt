use Rattle.std.proofs.Common.{◌≡◌, ◌+◌, ◌-◌, drop, Ok, Err, sym, ◌∙◌, arith, rules}
use Rattle.std.proofs.lemmas.Result.{err_from_is_err_and}
use Rattle.board.specs.Held.{draft_content}
use Rattle.file.specs.Records.{at_place, record_added, record_next}
use Rattle.file.specs.Fillings.{told}
use Rattle.file.proofs.Loads.Steps.{records_none, records_refused, records_more}
use Rattle.file.proofs.filling.Filling.add_records.Goals as goal

pub returns-in_err-map_err-clause-after : goal.returns-in_err-map_err-clause-after
returns-in_err-map_err-clause-after g c =
    let l = c.loop in
    let add = record_added g.R.SectionRecord.read_as (g.R.SectionRecord.added g.K.Kind.meaning l.self.trust) in
    let p = err_from_is_err_and c.from_residual.result c.from_residual.ensures.1 in
    let t : told c.add_record.result (draft_content c.add_record.new.self.draft.now) ≡ record_next add l.part.bytes.now (draft_content l.self.draft.now) = c.add_record.ensures.after in
    let o : at_place c.add_record.result l.part.place ≡ Err c.in_err-map_err.field-0.0 = search rules in
    rw (p.1, p.2) (sym (records_refused add l.part.bytes.now l.part.place (draft_content l.self.draft.now) c.add_record.result (draft_content c.add_record.new.self.draft.now) c.in_err-map_err.field-0.0 (c.args.count - l.counter) (c.args.count - (l.counter + 1)) (omega arith) t o) ∙ l.invariant.left)

pub loop-preserved : goal.loop-preserved
loop-preserved g c =
    let l = c.loop in
    let add = record_added g.R.SectionRecord.read_as (g.R.SectionRecord.added g.K.Kind.meaning l.self.trust) in
    let o : c.add_record.result ≡ Ok tt = search rules in
    let d = draft_content c.add_record.new.self.draft.now in
    let t : c.add_record.new.self.trust ≡ l.self.trust = search rules in
    let r : Ok d ≡ record_next add l.part.bytes.now (draft_content l.self.draft.now) = rw o at c.add_record.ensures.after in
    let more = records_more add l.part.bytes.now l.part.place (draft_content l.self.draft.now) (c.args.count - l.counter) (c.args.count - (l.counter + 1)) d (omega arith) r in
    let b : c.add_record.new.part.bytes.now ≡ drop 8 l.part.bytes.now = search rules in
    let p : c.add_record.new.part.place ≡ l.part.place + 8 = search rules in
    record { left = rw (t, b, p) (sym more ∙ l.invariant.left); same = search rules }

pub returns-clause-after : goal.returns-clause-after
returns-clause-after g c =
    let z : c.args.count - c.loop.counter ≡ 0 = omega arith in
    sym (records_none _ c.loop.part.bytes.now c.loop.part.place (draft_content c.loop.self.draft.now)) ∙ rw z at c.loop.invariant.left
