-- The function `arrival_on` and the relation `Transition` say the same.
use Rattle.std.proofs.Common.{◌≡◌, ℕ, Some, None, Option, refl, ap, ◌∙◌, subst}
use Rattle.std.proofs.lemmas.Option.{none-some, same_Some}
use Rattle.std.proofs.lemmas.Bool.{cond-true}
use Rattle.costs.specs.Meaning.{Meaning}
use Rattle.board.specs.declared.moves.Move.{Move}
use Rattle.board.specs.declared.moves.Effect.{Effect}
use Rattle.board.specs.declared.moves.Arrival.{Arrival}
use Rattle.board.specs.declared.named.Named.{Named}
use Rattle.board.specs.Content.{Content}
use Rattle.board.specs.Moves.{Place, Transition}
use Rattle.board.specs.Arrivals.{named, arrival_by, arrival_of, arrival_on}
use Rattle.board.proofs.Paths.Naming.{cond_some, named_goes, goes_named}

module _ (m : Meaning) (c : Content) (v : Move) (p : Place) (h : Arrival) where
  from_named : (o : Option Named) → named c v ≡ o → arrival_of m c.moments o p ≡ Some h → Transition m c v p h.to h.cost h.effect
  from_named None n e = absurd (none-some h e)
  from_named (Some a) n e =
      let z = cond_some _ _ _ e in
      subst (λ (h : Arrival). Transition m c v p h.to h.cost h.effect) (same_Some (arrival_by m a p) h z.1) (named_goes m c v p a n z.0)

  pub arrival_transition : arrival_on m c v p ≡ Some h → Transition m c v p h.to h.cost h.effect
  arrival_transition e = from_named _ refl e

pub transition_arrival : (m : Meaning) (c : Content) (v : Move) (p q : Place) (k : ℕ) (e : Effect) → Transition m c v p q k e → arrival_on m c v p ≡ Some (record { to = q; cost = k; effect = e })
transition_arrival m c v p q k e g =
    let z = goes_named m c v p q k e g in
    ap (λ o. arrival_of m c.moments o p) z.named_so ∙ cond-true _ _ _ z.starts ∙ ap Some z.leads_on
