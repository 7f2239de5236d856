use Rattle.std.proofs.Common.{rules, ℕ, ◌+◌, ◌*◌, None, get_or, sym, ap, ◌∙◌, arith}
use Rattle.board.proofs.Least.Knowing.{ready_of}
use Rattle.board.proofs.Least.Gathering.{gathered_push, tight_in, tight_none, tight_dear}
use Rattle.board.proofs.settling.Known.tight.Goals as goal
use Rattle.board.proofs.settling.Known.tight.Goals.{in-Some+then-no_dearer, in-Some+else-no_dearer, in_default}

pub offset_bounds-self-i : goal.offset_bounds-self-i
offset_bounds-self-i g c =
    let a = c.args.self.now in
    let e = sym (c.at.ensures ∙ ap (λ (n : ℕ). get_or a.log.now.index (n * 64 + c.loop-r.r) None) c.place_number-s.ensures.number) ∙ c.in-Some.is in
    let h = (tight_in g.met.K.Kind.lawful (ready_of a) c.args.goal c.requires.on c.loop-r.r c.in-Some.i c.loop-r-test.true e).0 in
    omega (arith, h, a.book.spells.room)

pub bounds-self-i : goal.bounds-self-i
bounds-self-i g c =
    let a = c.args.self.now in
    let e = sym (c.at.ensures ∙ ap (λ (n : ℕ). get_or a.log.now.index (n * 64 + c.loop-r.r) None) c.place_number-s.ensures.number) ∙ c.in-Some.is in
    let h = (tight_in g.met.K.Kind.lawful (ready_of a) c.args.goal c.requires.on c.loop-r.r c.in-Some.i c.loop-r-test.true e).0 in
    omega (arith, h, a.book.spells.room)

pub loop-r-preserved : goal.loop-r-preserved
loop-r-preserved g c =
    let a = c.args.self.now in
    let at = c.at.ensures ∙ ap (λ (n : ℕ). get_or a.log.now.index (n * 64 + c.loop-r.r) None) c.place_number-s.ensures.number in
    elim c.match-at.branch [
      | in-Some+then-no_dearer w ↦ rw (w.found-is, w.push.ensures.items) (gathered_push c.loop-r.invariant)
      | in-Some+else-no_dearer w ↦ rw w.found-is (tight_dear g.met.K.Kind.lawful (ready_of a) c.args.goal c.requires.on c.loop-r.invariant c.loop-r-test.true c.args.links.now w.in-Some.i c.requires.links.long c.requires.links.attained c.requires.bounds (sym at ∙ w.in-Some.is) (search rules) c.requires.cost)
      | in_default w ↦ rw w.found-is (tight_none g.met.K.Kind.lawful (ready_of a) c.args.goal c.requires.on c.loop-r.invariant c.loop-r-test.true (sym at ∙ w.in_default.is))
    ]
