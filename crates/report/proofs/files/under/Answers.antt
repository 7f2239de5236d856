use Rattle.std.proofs.Common.{string_bytes, subst, sym, ◌∙◌}
use Rattle.board.specs.Content.{Content, Sound}
use Rattle.report.specs.Least.{SettledText, FileText, loaded, declined}
use Rattle.report.proofs.Showing.{if_ok, prints, prints_some}
use Rattle.report.proofs.files.under.Goals as goal

pub returns-in-Ok-clause-text : goal.returns-in-Ok-clause-text
returns-in-Ok-clause-text g c =
    let m = g.K.Kind.meaning in
    let l = c.in-Ok.ensures in
    let only = prints g.met.K.Kind.lawful c.settle.ensures.calls_and_settling c.args.bytes.now (subst (Sound m) l.after l.sound) in
    if_ok (λ x s. only (string_bytes x) (loaded (sym l.answer) (subst (λ (d : Content). SettledText m d (string_bytes x)) (c.settle.ensures.content ∙ l.after) s))) c.reading.result c.reading.ensures

pub returns-in-Ok-clause-some : goal.returns-in-Ok-clause-some
returns-in-Ok-clause-some g c =
    let l = c.in-Ok.ensures in
    prints_some g.met.K.Kind.lawful c.settle.ensures.calls_and_settling c.args.bytes.now (subst (Sound g.K.Kind.meaning) l.after l.sound)

pub returns-in-Err-clause-text : goal.returns-in-Err-clause-text
returns-in-Err-clause-text g c =
    let m = g.K.Kind.meaning in
    let l = c.in-Err.ensures in
    let only = prints g.met.K.Kind.lawful c.new-draft.ensures.calls_and_settling c.args.bytes.now (subst (Sound m) l.after l.sound) in
    if_ok (λ x e. only (string_bytes x) (subst (FileText m c.args.bytes.now) (sym e) (declined (sym l.answer)))) c.format.result c.format.ensures.ok

pub returns-in-Err-clause-some : goal.returns-in-Err-clause-some
returns-in-Err-clause-some g c =
    let l = c.in-Err.ensures in
    prints_some g.met.K.Kind.lawful c.new-draft.ensures.calls_and_settling c.args.bytes.now (subst (Sound g.K.Kind.meaning) l.after l.sound)
