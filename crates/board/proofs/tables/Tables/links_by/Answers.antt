use Rattle.std.proofs.Common.{length, arith, sym, ◌∙◌}
use Rattle.board.specs.Held.{held}
use Rattle.board.specs.Minima.{PlainlyAt, PlainlyAlong}
use Rattle.board.proofs.Basics.Membership.{none_some}
use Rattle.board.proofs.Least.Lowering.{lowered_start, lowered_then, lowered_more, among_all}
use Rattle.board.proofs.Least.Plain.{plain_cost, by_no_row, at_fits, along_fits, along_one, along_none, by_split}
use Rattle.board.proofs.tables.Tables.links_by.Goals as goal
use Rattle.board.proofs.tables.Tables.links_by.Goals.{in-Some-line, in_default-line}

pub returns-in_default : goal.returns-in_default
returns-in_default g c = by_no_row g.met.K.Kind.lawful c.args.self.now.sound c.args.row _ c.requires.ok (λ r e. none_some _ r (sym c.row.ensures ∙ c.in_default.is) e)

pub loop-moment-init : goal.loop-moment-init
loop-moment-init g c = lowered_start g.met.K.Kind.lawful (plain_cost g.met.K.Kind.lawful c.args.self.now.sound) _ _ c.requires.ok

pub loop-moment-preserved : goal.loop-moment-preserved
loop-moment-preserved g c = lowered_more g.met.K.Kind.lawful (plain_cost g.met.K.Kind.lawful c.args.self.now.sound) _ _ _ _ c.loop-moment.moment c.requires.ok (at_fits g.met.K.Kind.lawful c.args.self.now.sound c.args.row c.in-Some.r (sym c.row.ensures ∙ c.in-Some.is) _ c.requires.long c.loop-moment.moment) c.loop-moment.invariant c.link_from.ensures

pub loop-number-init : goal.loop-number-init
loop-number-init g c = lowered_start g.met.K.Kind.lawful (plain_cost g.met.K.Kind.lawful c.args.self.now.sound) _ _ c.loop-moment.invariant.attained

pub loop-number-preserved : goal.loop-number-preserved
loop-number-preserved g c =
    let laws = g.met.K.Kind.lawful in
    let sound = c.args.self.now.sound in
    let is = sym c.row.ensures ∙ c.in-Some.is in
    lowered_more laws (plain_cost laws sound) _ _ _ _ c.loop-number.number c.loop-moment.invariant.attained (along_fits laws sound c.args.row c.in-Some.r is _ (c.loop-moment.invariant.long ∙ c.requires.long) c.loop-number.number) c.loop-number.invariant (elim c.match-line.branch [
      | in-Some-line w ↦ rw w.links-is (along_one laws sound c.args.row c.in-Some.r is _ _ c.loop-number.number w.in-Some-line.line (sym c.line.ensures ∙ w.in-Some-line.is) w.link_from-in-Some-line.ensures)
      | in_default-line w ↦ rw w.links-is (along_none laws sound c.args.row c.in-Some.r is _ c.loop-number.number c.loop-number.invariant.attained (sym c.line.ensures ∙ w.in_default-line.is))
    ])

pub returns : goal.returns
returns g c =
    let laws = g.met.K.Kind.lawful in
    let sound = c.args.self.now.sound in
    let is = sym c.row.ensures ∙ c.in-Some.is in
    let m = g.K.Kind.meaning in
    let t = held c.args.self.now in
    lowered_then laws (plain_cost laws sound) _ _ _ c.requires.ok (at_fits laws sound c.args.row c.in-Some.r is _ c.requires.long t.moments)
    (among_all (PlainlyAt m t c.args.row c.in-Some.r) _ t.moments (omega arith) (omega arith) c.loop-moment.invariant)
    (among_all (PlainlyAlong m t c.args.row c.in-Some.r) _ (length t.lines) (omega arith) (omega arith) c.loop-number.invariant)
    (by_split laws sound c.args.row c.in-Some.r is)
