use Rattle.std.proofs.Common.{ℕ, None, get_or, sym, ap, ◌∙◌, arith}
use Rattle.board.specs.Held.{held}
use Rattle.board.specs.Logs.{numbered}
use Rattle.board.proofs.Least.Knowing.{ready_of}
use Rattle.board.proofs.Basics.Numbers.{pair_in}
use Rattle.board.proofs.Paths.Standing.{leaves_on, enters_on}
use Rattle.board.proofs.Least.Calling.{between_places, none_by_more, none_by_all, serves_no_row, serves_no_inside, serves_dear}
use Rattle.board.proofs.settling.Known.reaches_from.Goals as goal
use Rattle.board.proofs.settling.Known.reaches_from.Goals.{in-Some+in-Some-at+else-no_dearer, in-Some+in_default-at, in_default}

pub offset_bounds-self-i : goal.offset_bounds-self-i
offset_bounds-self-i g c =
    let a = c.args.self.now in
    let h = (between_places (ready_of a) c.args.goal.from (c.args.a.from, c.args.moment) c.requires.on.0 (leaves_on c.args.self.now.tables.now.sound c.args.o c.args.a c.requires.row _ c.requires.moment) c.args.i c.requires.front).0 in
    omega (arith, h, a.book.spells.room)

pub bounds-self-i : goal.bounds-self-i
bounds-self-i g c =
    let a = c.args.self.now in
    let h = (between_places (ready_of a) c.args.goal.from (c.args.a.from, c.args.moment) c.requires.on.0 (leaves_on c.args.self.now.tables.now.sound c.args.o c.args.a c.requires.row _ c.requires.moment) c.args.i c.requires.front).0 in
    omega (arith, h, a.book.spells.room)

pub at-requires : goal.at-requires
at-requires g c =
    let h = pair_in (held c.args.self.now.tables.now) (c.args.a.to, c.args.moment) (c.in-Some.b.from, c.args.goal.to.1) c.args.self.now.tables.now.sound.few_places (enters_on c.args.self.now.tables.now.sound c.args.o c.args.a c.requires.row _ c.requires.moment) (leaves_on c.args.self.now.tables.now.sound _ c.in-Some.b (sym c.row.ensures ∙ c.in-Some.is) _ c.requires.on.1.1) in
    omega (arith, h, c.pair-inside.ensures)

pub offset_bounds-self-j : goal.offset_bounds-self-j
offset_bounds-self-j g c =
    let a = c.args.self.now in
    let h = (between_places (ready_of a) (c.args.a.to, c.args.moment) (c.in-Some.b.from, c.args.goal.to.1) (enters_on c.args.self.now.tables.now.sound c.args.o c.args.a c.requires.row _ c.requires.moment) (leaves_on c.args.self.now.tables.now.sound _ c.in-Some.b (sym c.row.ensures ∙ c.in-Some.is) _ c.requires.on.1.1) c.in-Some-at.j (sym (c.at.ensures ∙ ap (λ (p : ℕ). get_or c.args.self.now.log.now.index p None) c.pair-inside.ensures) ∙ c.in-Some-at.is)).0 in
    omega (arith, h, a.book.spells.room)

pub bounds-self-j : goal.bounds-self-j
bounds-self-j g c =
    let a = c.args.self.now in
    let h = (between_places (ready_of a) (c.args.a.to, c.args.moment) (c.in-Some.b.from, c.args.goal.to.1) (enters_on c.args.self.now.tables.now.sound c.args.o c.args.a c.requires.row _ c.requires.moment) (leaves_on c.args.self.now.tables.now.sound _ c.in-Some.b (sym c.row.ensures ∙ c.in-Some.is) _ c.requires.on.1.1) c.in-Some-at.j (sym (c.at.ensures ∙ ap (λ (p : ℕ). get_or c.args.self.now.log.now.index p None) c.pair-inside.ensures) ∙ c.in-Some-at.is)).0 in
    omega (arith, h, a.book.spells.room)

pub loop-n-preserved : goal.loop-n-preserved
loop-n-preserved g c = none_by_more g.met.K.Kind.lawful (ready_of c.args.self.now) c.args.goal c.requires.on c.args.o c.args.a c.requires.row c.requires.opens c.args.moment c.args.i c.requires.moment c.requires.front c.args.closers.now c.loop-n.n c.loop-n.invariant (λ close x s. elim c.match-row.branch [
  | in-Some+in-Some-at+else-no_dearer w ↦
      let cost = w.join-cost.ensures ∙ ap (λ (n : ℕ). g.K.Kind.meaning.join n w.in-Some.b.cost) (w.join.ensures ∙ ap (λ (n : ℕ). g.K.Kind.meaning.join n (numbered c.args.self.now.log.now w.in-Some-at.j).cost) c.join-front.ensures) in
      serves_dear g.met.K.Kind.lawful (ready_of c.args.self.now) c.args.goal c.requires.on c.args.o c.args.a c.requires.row c.requires.opens c.args.moment c.args.i c.requires.moment c.requires.front (get_or c.args.closers.now c.loop-n.n 0) close x s w.in-Some.b (sym c.row.ensures ∙ w.in-Some.is) c.requires.cost w.in-Some-at.j (sym (w.at.ensures ∙ ap (λ (p : ℕ). get_or c.args.self.now.log.now.index p None) w.pair-inside.ensures) ∙ w.in-Some-at.is) (ap (λ (n : ℕ). g.K.Kind.meaning.no_dearer n c.args.goal.cost) (sym cost) ∙ (sym w.no_dearer.ensures ∙ w.if-no_dearer.false))
  | in-Some+in_default-at w ↦ serves_no_inside g.met.K.Kind.lawful (ready_of c.args.self.now) c.args.goal c.requires.on c.args.o c.args.a c.requires.row c.requires.opens c.args.moment c.args.i c.requires.moment c.requires.front (get_or c.args.closers.now c.loop-n.n 0) close x s w.in-Some.b (sym c.row.ensures ∙ w.in-Some.is) (sym (w.at.ensures ∙ ap (λ (p : ℕ). get_or c.args.self.now.log.now.index p None) w.pair-inside.ensures) ∙ w.in_default-at.is)
  | in_default w ↦ serves_no_row g.met.K.Kind.lawful (ready_of c.args.self.now) c.args.goal c.requires.on c.args.o c.args.a c.requires.row c.requires.opens c.args.moment c.args.i c.requires.moment c.requires.front (get_or c.args.closers.now c.loop-n.n 0) close x s (sym c.row.ensures ∙ w.in_default.is)
])

pub returns : goal.returns
returns g c = λ no. none_by_all g.met.K.Kind.lawful (ready_of c.args.self.now) c.args.goal c.requires.on c.args.o c.args.a c.requires.row c.requires.opens c.args.moment c.args.i c.requires.moment c.requires.front c.args.closers.now c.requires.closers c.loop-n.n c.loop-n-test.false c.loop-n.invariant
