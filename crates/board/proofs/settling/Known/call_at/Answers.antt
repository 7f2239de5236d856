use Rattle.std.proofs.Common.{ℕ, None, get_or, sym, ap, ◌∙◌, arith}
use Rattle.board.specs.Held.{held}
use Rattle.board.specs.Logs.{numbered}
use Rattle.board.proofs.Least.Knowing.{ready_of}
use Rattle.board.proofs.Basics.Numbers.{pair_in}
use Rattle.board.proofs.Paths.Standing.{leaves_on, enters_on}
use Rattle.board.proofs.Least.Calling.{between_places, call_no_front, call_no_inside, call_no_cost, call_wins}
use Rattle.board.proofs.settling.Known.call_at.Goals as goal

pub at-requires : goal.at-requires
at-requires g c =
    let h = pair_in (held c.args.self.now.tables.now) c.args.goal.from (c.args.a.from, c.args.moment) c.args.self.now.tables.now.sound.few_places c.requires.on.0 (leaves_on c.args.self.now.tables.now.sound c.args.o c.args.a c.requires.rows.opening _ c.requires.moment) in
    omega (arith, h, c.pair.ensures)

pub returns-in_default : goal.returns-in_default
returns-in_default g c = call_no_front g.met.K.Kind.lawful (ready_of c.args.self.now) c.args.goal c.requires.on c.args.o c.args.a c.requires.rows.opening c.requires.rows.opens c.args.w c.args.b c.requires.rows c.args.moment (sym (c.at.ensures ∙ ap (λ (p : ℕ). get_or c.args.self.now.log.now.index p None) c.pair.ensures) ∙ c.in_default.is)

pub at-requires-2 : goal.at-requires-2
at-requires-2 g c =
    let h = pair_in (held c.args.self.now.tables.now) (c.args.a.to, c.args.moment) (c.args.b.from, c.args.goal.to.1) c.args.self.now.tables.now.sound.few_places (enters_on c.args.self.now.tables.now.sound c.args.o c.args.a c.requires.rows.opening _ c.requires.moment) (leaves_on c.args.self.now.tables.now.sound c.args.w c.args.b c.requires.rows.closing _ c.requires.on.1.1) in
    omega (arith, h, c.pair-inside.ensures)

pub returns-in_default-at : goal.returns-in_default-at
returns-in_default-at g c = call_no_inside g.met.K.Kind.lawful (ready_of c.args.self.now) c.args.goal c.requires.on c.args.o c.args.a c.requires.rows.opening c.requires.rows.opens c.args.w c.args.b c.requires.rows c.args.moment (sym (c.at-2.ensures ∙ ap (λ (p : ℕ). get_or c.args.self.now.log.now.index p None) c.pair-inside.ensures) ∙ c.in_default-at.is)

pub offset_bounds-self-i : goal.offset_bounds-self-i
offset_bounds-self-i g c =
    let a = c.args.self.now in
    let h = (between_places (ready_of a) c.args.goal.from (c.args.a.from, c.args.moment) c.requires.on.0 (leaves_on c.args.self.now.tables.now.sound c.args.o c.args.a c.requires.rows.opening _ c.requires.moment) c.in-Some.i (sym (c.at.ensures ∙ ap (λ (p : ℕ). get_or c.args.self.now.log.now.index p None) c.pair.ensures) ∙ c.in-Some.is)).0 in
    omega (arith, h, a.book.spells.room)

pub bounds-self-i : goal.bounds-self-i
bounds-self-i g c =
    let a = c.args.self.now in
    let h = (between_places (ready_of a) c.args.goal.from (c.args.a.from, c.args.moment) c.requires.on.0 (leaves_on c.args.self.now.tables.now.sound c.args.o c.args.a c.requires.rows.opening _ c.requires.moment) c.in-Some.i (sym (c.at.ensures ∙ ap (λ (p : ℕ). get_or c.args.self.now.log.now.index p None) c.pair.ensures) ∙ c.in-Some.is)).0 in
    omega (arith, h, a.book.spells.room)

pub offset_bounds-self-j : goal.offset_bounds-self-j
offset_bounds-self-j g c =
    let a = c.args.self.now in
    let h = (between_places (ready_of a) (c.args.a.to, c.args.moment) (c.args.b.from, c.args.goal.to.1) (enters_on c.args.self.now.tables.now.sound c.args.o c.args.a c.requires.rows.opening _ c.requires.moment) (leaves_on c.args.self.now.tables.now.sound c.args.w c.args.b c.requires.rows.closing _ c.requires.on.1.1) c.in-Some-at.j (sym (c.at-2.ensures ∙ ap (λ (p : ℕ). get_or c.args.self.now.log.now.index p None) c.pair-inside.ensures) ∙ c.in-Some-at.is)).0 in
    omega (arith, h, a.book.spells.room)

pub bounds-self-j : goal.bounds-self-j
bounds-self-j g c =
    let a = c.args.self.now in
    let h = (between_places (ready_of a) (c.args.a.to, c.args.moment) (c.args.b.from, c.args.goal.to.1) (enters_on c.args.self.now.tables.now.sound c.args.o c.args.a c.requires.rows.opening _ c.requires.moment) (leaves_on c.args.self.now.tables.now.sound c.args.w c.args.b c.requires.rows.closing _ c.requires.on.1.1) c.in-Some-at.j (sym (c.at-2.ensures ∙ ap (λ (p : ℕ). get_or c.args.self.now.log.now.index p None) c.pair-inside.ensures) ∙ c.in-Some-at.is)).0 in
    omega (arith, h, a.book.spells.room)

pub returns-then-join-goal : goal.returns-then-join-goal
returns-then-join-goal g c = call_no_cost g.met.K.Kind.lawful (ready_of c.args.self.now) c.args.goal c.requires.on c.args.o c.args.a c.requires.rows.opening c.requires.rows.opens c.args.w c.args.b c.requires.rows c.args.moment c.in-Some.i c.in-Some-at.j c.requires.moment (sym (c.at.ensures ∙ ap (λ (p : ℕ). get_or c.args.self.now.log.now.index p None) c.pair.ensures) ∙ c.in-Some.is) (sym (c.at-2.ensures ∙ ap (λ (p : ℕ). get_or c.args.self.now.log.now.index p None) c.pair-inside.ensures) ∙ c.in-Some-at.is) (λ e. c.if-join-goal.true ((c.join-2.ensures ∙ ap (λ (n : ℕ). g.K.Kind.meaning.join n c.args.b.cost) (c.join-cost.ensures ∙ ap (λ (n : ℕ). g.K.Kind.meaning.join n (numbered c.args.self.now.log.now c.in-Some-at.j).cost) c.join.ensures)) ∙ e))

pub returns : goal.returns
returns g c = call_wins g.met.K.Kind.lawful (ready_of c.args.self.now) c.args.goal c.requires.on c.args.o c.args.a c.requires.rows.opening c.requires.rows.opens c.args.w c.args.b c.requires.rows c.args.moment c.in-Some.i c.in-Some-at.j c.requires.moment (sym (c.at.ensures ∙ ap (λ (p : ℕ). get_or c.args.self.now.log.now.index p None) c.pair.ensures) ∙ c.in-Some.is) (sym (c.at-2.ensures ∙ ap (λ (p : ℕ). get_or c.args.self.now.log.now.index p None) c.pair-inside.ensures) ∙ c.in-Some-at.is) (sym (c.join-2.ensures ∙ ap (λ (n : ℕ). g.K.Kind.meaning.join n c.args.b.cost) (c.join-cost.ensures ∙ ap (λ (n : ℕ). g.K.Kind.meaning.join n (numbered c.args.self.now.log.now c.in-Some-at.j).cost) c.join.ensures)) ∙ c.if-join-goal.false)
