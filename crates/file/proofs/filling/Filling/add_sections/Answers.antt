use Rattle.std.proofs.Common.{◌≡◌, length, Some, None, Ok, sym, ap, ◌∙◌, rules}
use Rattle.std.proofs.lemmas.Result.{err_from_is_err_and}
use Rattle.file.specs.Readers.{ReadSoFar, read_so_far, section_read, next_answer, next_after}
use Rattle.file.specs.Records.{go_on}
use Rattle.file.specs.Load.{section_added}
use Rattle.file.specs.Fillings.{so_far, from_stage}
use Rattle.file.proofs.Loads.Turns.{came, came_less, reader_end, reader_refused, reader_more}
use Rattle.file.proofs.filling.Filling.add_sections.Given as given
use Rattle.file.proofs.filling.Filling.add_sections.Goals as goal
use Rattle.file.proofs.filling.Filling.add_sections.Goals.{In-Some}

-- what the reader answered in a turn
at_some : (g : given.Over) (c : In-Some g) → next_answer (read_so_far c.loop-section.reader) ≡ Ok (Some (section_read c.in-Some.section))
at_some g c = rw c.in-Some.is at (sym c.in_ok-section.ensures.answer)

pub returns-in_err-section-clause-after : goal.returns-in_err-section-clause-after
returns-in_err-section-clause-after g c =
    let p = err_from_is_err_and c.from_residual.result c.from_residual.ensures.1 in
    let l = c.loop-section in
    rw (p.1, p.2) (sym (reader_refused g.K.Kind.meaning l.self.trust (read_so_far l.reader) (so_far l.self) _ (sym c.in_err-section.ensures.answer)) ∙ l.invariant.left)

pub loop-section-smaller : goal.loop-section-smaller
loop-section-smaller g c =
    let r = read_so_far c.loop-section.reader in
    let e = ap (λ (x : ReadSoFar). length x.left.bytes) c.next.ensures.after in
    rw e (came_less r _ (came r _ (at_some g (goal.at.loop-section-smaller g c).In-Some)))

-- what the turn makes of what is left
turn : (g : given.Over) (c : In-Some g) → from_stage g.K.Kind.meaning c.loop-section.self.trust c.loop-section.reader.stage (read_so_far c.loop-section.reader).left (so_far c.loop-section.self) ≡ go_on (section_added g.K.Kind.meaning c.loop-section.self.trust (section_read c.in-Some.section) (so_far c.loop-section.self)) (from_stage g.K.Kind.meaning c.loop-section.self.trust (next_after (read_so_far c.loop-section.reader)).stage (next_after (read_so_far c.loop-section.reader)).left)
turn g c = reader_more g.K.Kind.meaning c.loop-section.self.trust (read_so_far c.loop-section.reader) (so_far c.loop-section.self) (section_read c.in-Some.section) (at_some g c)

pub loop-section-preserved : goal.loop-section-preserved
loop-section-preserved g c =
    let l = c.loop-section in
    let t = turn g (goal.at.loop-section-preserved g c).In-Some in
    let h = c.in_ok-add_section.ensures.after in
    let same = ap (λ (r : ReadSoFar). from_stage g.K.Kind.meaning l.self.trust r.stage r.left (so_far c.add_section.new.self)) c.next.ensures.after in
    let k = c.add_section.ensures.same in
    record { left = rw k.1 (same ∙ (sym (rw (← h) at t) ∙ l.invariant.left)); same = (k.0 ∙ l.invariant.same.0, k.1 ∙ l.invariant.same.1) }

pub returns-in_err-add_section-clause-after : goal.returns-in_err-add_section-clause-after
returns-in_err-add_section-clause-after g c =
    let p = err_from_is_err_and c.from_residual-in_err-add_section.result c.from_residual-in_err-add_section.ensures.1 in
    let t = turn g (goal.at.returns-in_err-add_section-clause-after g c).In-Some in
    let h = c.in_err-add_section.ensures.after in
    rw (p.1, p.2) (sym (rw (← h) at t) ∙ c.loop-section.invariant.left)

pub returns-clause-after : goal.returns-clause-after
returns-clause-after g c =
    let l = c.loop-section in
    let a : next_answer (read_so_far l.reader) ≡ Ok None = search rules in
    sym (reader_end g.K.Kind.meaning l.self.trust (read_so_far l.reader) (so_far l.self) a) ∙ l.invariant.left
