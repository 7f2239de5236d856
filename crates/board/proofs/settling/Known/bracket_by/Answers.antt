use Rattle.std.proofs.Common.{ℕ, ◌+◌, ◌*◌, sym, ap, ap₂, ◌∙◌, arith}
use Rattle.board.proofs.Least.Knowing.{ready_of}
use Rattle.board.proofs.Least.Lowering.{lowered_for}
use Rattle.board.proofs.Least.Links.{no_close_row, no_close_from, bracket_small, bracket_link, bracket_only, bracket_none}
use Rattle.board.proofs.settling.Known.bracket_by.Goals as goal

pub returns-in_default-clause-lower : goal.returns-in_default-clause-lower
returns-in_default-clause-lower g c = bracket_none g.met.K.Kind.lawful (ready_of c.args.self.now) c.args.j c.requires.within c.args.o _ c.args.w c.requires.ok.held_links.attained (no_close_row g.met.K.Kind.lawful (ready_of c.args.self.now) c.args.j c.requires.within c.args.o c.args.place c.args.way c.requires.opens c.args.w (sym c.row.ensures ∙ c.in_default.is))

pub returns-then-not-closes_from-clause-lower : goal.returns-then-not-closes_from-clause-lower
returns-then-not-closes_from-clause-lower g c = bracket_none g.met.K.Kind.lawful (ready_of c.args.self.now) c.args.j c.requires.within c.args.o _ c.args.w c.requires.ok.held_links.attained (no_close_from g.met.K.Kind.lawful (ready_of c.args.self.now) c.args.j c.requires.within c.args.o c.args.place c.args.way c.requires.opens c.args.w c.in-Some.close (sym c.row.ensures ∙ c.in-Some.is) (sym c.closes_from.ensures ∙ c.if-not-closes_from.true))

pub link-requires-clause-from : goal.link-requires-clause-from
link-requires-clause-from g c =
    let h = (bracket_small g.met.K.Kind.lawful (ready_of c.args.self.now) c.args.j c.requires.within c.args.o c.args.place c.args.way c.requires.opens c.args.w c.in-Some.close (sym c.row.ensures ∙ c.in-Some.is) (sym c.closes_from.ensures ∙ c.if-not-closes_from.false)).0 in
    omega (arith, h, c.place_number-r.ensures.number)

pub link-requires-clause-to : goal.link-requires-clause-to
link-requires-clause-to g c =
    let h = (bracket_small g.met.K.Kind.lawful (ready_of c.args.self.now) c.args.j c.requires.within c.args.o c.args.place c.args.way c.requires.opens c.args.w c.in-Some.close (sym c.row.ensures ∙ c.in-Some.is) (sym c.closes_from.ensures ∙ c.if-not-closes_from.false)).1 in
    omega (arith, h, c.place_number-q.ensures.number)

pub link-requires-clause-link : goal.link-requires-clause-link
link-requires-clause-link g c = rw (c.place_number-r.ensures.number, c.place_number-q.ensures.number) (bracket_link g.met.K.Kind.lawful (ready_of c.args.self.now) c.args.j c.requires.within c.args.o c.args.place c.args.way c.requires.opens c.args.w c.in-Some.close (sym c.row.ensures ∙ c.in-Some.is) (sym c.closes_from.ensures ∙ c.if-not-closes_from.false) _ (c.join-cost.ensures ∙ ap (g.K.Kind.meaning.join c.args.way.cost) c.join.ensures))

pub returns-clause-lower : goal.returns-clause-lower
returns-clause-lower g c =
    let only = bracket_only g.met.K.Kind.lawful (ready_of c.args.self.now) c.args.j c.requires.within c.args.o c.args.place c.args.way c.requires.opens c.args.w c.in-Some.close (sym c.row.ensures ∙ c.in-Some.is) (sym c.closes_from.ensures ∙ c.if-not-closes_from.false) _ (c.join-cost.ensures ∙ ap (g.K.Kind.meaning.join c.args.way.cost) c.join.ensures) in
    lowered_for c.link.ensures.lower (λ p k x. let o = only p k x in (o.0 ∙ sym (ap₂ (λ (r q : ℕ). r * 64 + q) c.place_number-r.ensures.number c.place_number-q.ensures.number), o.1))
