use Rattle.std.proofs.Common.{sym, ap, ◌∙◌, arith}
use Rattle.board.specs.declared.moves.Arrival.{Arrival}
use Rattle.board.proofs.Basics.Membership.{some_eq, none_some}
use Rattle.board.proofs.Least.Plain.{from_here, from_one, from_none}
use Rattle.board.proofs.tables.Tables.link_from.Goals as goal

pub lower-requires : goal.lower-requires
lower-requires g c =
    let h = from_here g.met.K.Kind.lawful c.args.self.now.sound c.args.v c.args.place c.in-Some.h (sym c.arrival.ensures ∙ c.in-Some.is) c.in-Quiet.is in
    omega (arith, h, c.pair.ensures, c.requires.long)

pub returns-in-Quiet : goal.returns-in-Quiet
returns-in-Quiet g c = from_one g.met.K.Kind.lawful c.args.self.now.sound c.args.v c.args.place _ _ c.in-Some.h _ c.requires.long c.requires.ok (sym c.arrival.ensures ∙ c.in-Some.is) c.in-Quiet.is c.pair.ensures c.lower.ensures.after

pub returns-in_default-effect : goal.returns-in_default-effect
returns-in_default-effect g c = from_none g.met.K.Kind.lawful c.args.self.now.sound c.args.v c.args.place _ c.requires.ok (λ h e f. c.in_default-effect.not-Quiet (ap (λ (x : Arrival). x.effect) (some_eq _ _ _ (sym c.arrival.ensures ∙ c.in-Some.is) e) ∙ f))

pub returns-in_default : goal.returns-in_default
returns-in_default g c = from_none g.met.K.Kind.lawful c.args.self.now.sound c.args.v c.args.place _ c.requires.ok (λ h e f. none_some _ h (sym c.arrival.ensures ∙ c.in_default.is) e)
