use Rattle.std.proofs.Common.{◌≡◌, ℕ, ◌≤◌, List, length, Err, Result, rules}
use Rattle.std.proofs.lemmas.Bool.{le-ltb}
use Rattle.std.proofs.lemmas.Result.{err_from_is_err_and}
use Rattle.board.specs.Content.{Content}
use Rattle.board.specs.Held.{draft_content}
use Rattle.file.specs.declared.refusal.FileRefusal.{FileRefusal}
use Rattle.file.specs.Fields.{word8}
use Rattle.file.specs.Records.{record_added, record_next}
use Rattle.file.proofs.filling.Filling.add_record.Goals as goal

unread : {A : Type 0} (read : ℕ → Result A FileRefusal) (add : Content → A → Result Content FileRefusal) (bs : List ℕ) (c : Content) (w : ℕ) (e : FileRefusal) → 8 ≤ length bs → w ≡ word8 bs → Err e ≡ read w → Err e ≡ record_next (record_added read add) bs c
unread read add bs c w e long is h = let l = le-ltb (length bs) 8 long in rw (l, ← is, ← h)

pub returns-in_err-record-clause-after : goal.returns-in_err-record-clause-after
returns-in_err-record-clause-after g c =
    let bs = c.args.part.now.bytes.now in
    let p = err_from_is_err_and c.from_residual.result c.from_residual.ensures.1 in
    let long : 8 ≤ length bs = search rules in
    let w : c.from_be_bytes-word.result ≡ word8 bs = search rules in
    let h : Err c.in_err-record.field-0.0 ≡ g.R.SectionRecord.read_as c.from_be_bytes-word.result = search rules in
    rw (p.1, p.2) (unread (g.R.SectionRecord.read_as) (g.R.SectionRecord.added g.K.Kind.meaning c.args.self.now.trust) bs (draft_content c.args.self.now.draft.now) c.from_be_bytes-word.result c.in_err-record.field-0.0 long w h)
