use Rattle.std.proofs.Common.{rules, ℕ, None, get_or, sym, ap, ◌∙◌, arith}
use Rattle.board.proofs.Least.Knowing.{ready_of}
use Rattle.board.proofs.Rounds.Candidates.{same_place_eq}
use Rattle.board.proofs.Least.Winning.{same_false, start_in, from_start, no_front, no_arrival, no_quiet, no_end, no_cost, step_wins}
use Rattle.board.proofs.settling.Known.step_from.Goals as goal

pub at-requires : goal.at-requires
at-requires g c =
    let h = start_in g.met.K.Kind.lawful (ready_of c.args.self.now) c.args.goal c.requires.on c.args.place c.requires.place in
    omega (arith, h, c.pair.ensures)

pub returns-in_default : goal.returns-in_default
returns-in_default g c = no_front g.met.K.Kind.lawful (ready_of c.args.self.now) c.args.goal c.requires.on c.args.v c.args.place c.requires.place c.requires.starts (sym (c.at.ensures ∙ ap (λ (p : ℕ). get_or c.args.self.now.log.now.index p None) c.pair.ensures) ∙ c.in_default.is)

pub returns-in_default-arrival : goal.returns-in_default-arrival
returns-in_default-arrival g c = no_arrival g.met.K.Kind.lawful (ready_of c.args.self.now) c.args.goal c.requires.on c.args.v c.args.place c.requires.place c.requires.starts (sym c.arrival.ensures ∙ c.in_default-arrival.is)

pub returns-in_default-effect : goal.returns-in_default-effect
returns-in_default-effect g c = no_quiet g.met.K.Kind.lawful (ready_of c.args.self.now) c.args.goal c.requires.on c.args.v c.args.place c.requires.place c.requires.starts c.in-Some-arrival.h (sym c.arrival.ensures ∙ c.in-Some-arrival.is) c.in_default-effect.not-Quiet

pub returns-then-ne : goal.returns-then-ne
returns-then-ne g c = no_end g.met.K.Kind.lawful (ready_of c.args.self.now) c.args.goal c.requires.on c.args.v c.args.place c.requires.place c.requires.starts c.in-Some-arrival.h (sym c.arrival.ensures ∙ c.in-Some-arrival.is) (same_false c.in-Some-arrival.h.to c.args.goal.to (search rules))

pub offset_bounds-self-i : goal.offset_bounds-self-i
offset_bounds-self-i g c =
    let a = c.args.self.now in
    let h = (from_start g.met.K.Kind.lawful (ready_of a) c.args.goal c.requires.on c.args.place c.requires.place c.in-Some.i (sym (c.at.ensures ∙ ap (λ (p : ℕ). get_or a.log.now.index p None) c.pair.ensures) ∙ c.in-Some.is)).0 in
    omega (arith, h, a.book.spells.room)

pub bounds-self-i : goal.bounds-self-i
bounds-self-i g c =
    let a = c.args.self.now in
    let h = (from_start g.met.K.Kind.lawful (ready_of a) c.args.goal c.requires.on c.args.place c.requires.place c.in-Some.i (sym (c.at.ensures ∙ ap (λ (p : ℕ). get_or a.log.now.index p None) c.pair.ensures) ∙ c.in-Some.is)).0 in
    omega (arith, h, a.book.spells.room)

pub returns-then-join-goal : goal.returns-then-join-goal
returns-then-join-goal g c =
    let a = c.args.self.now in
    no_cost g.met.K.Kind.lawful (ready_of a) c.args.goal c.requires.on c.args.v c.args.place c.requires.place c.requires.starts c.in-Some.i c.in-Some-arrival.h (sym (c.at.ensures ∙ ap (λ (p : ℕ). get_or a.log.now.index p None) c.pair.ensures) ∙ c.in-Some.is) (sym c.arrival.ensures ∙ c.in-Some-arrival.is) (λ e. c.if-join-goal.true (c.join.ensures ∙ e))

pub returns : goal.returns
returns g c =
    let a = c.args.self.now in
    step_wins g.met.K.Kind.lawful (ready_of a) c.args.goal c.requires.on c.args.v c.args.place c.requires.place c.requires.starts c.in-Some.i c.in-Some-arrival.h (sym (c.at.ensures ∙ ap (λ (p : ℕ). get_or a.log.now.index p None) c.pair.ensures) ∙ c.in-Some.is) (sym c.arrival.ensures ∙ c.in-Some-arrival.is) c.in-Quiet.is (same_place_eq c.in-Some-arrival.h.to c.args.goal.to (search rules)) (sym c.join.ensures ∙ c.if-join-goal.false)
