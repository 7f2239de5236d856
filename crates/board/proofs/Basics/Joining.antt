-- What the laws give of a list of costs joined onto a cost.
use Rattle.std.proofs.Common.{◌≡◌, ℕ, List, [], ◌∷◌, ◌++◌, sym, refl, ap, ◌∙◌}
use Rattle.costs.specs.Meaning.{Meaning, Lawful, Cost}
use Rattle.costs.specs.Lists.{Costs, joined_onto, joined}

-- two lists on end
pub joined_append : (m : Meaning) (a : ℕ) (xs ys : List ℕ) → joined_onto m a (xs ++ ys) ≡ joined_onto m (joined_onto m a xs) ys
joined_append m a [] ys = refl
joined_append m a (x ∷ xs) ys = joined_append m (m.join a x) xs ys

module _ {m : Meaning} (laws : Lawful m) where
  -- a list joined onto a cost is a cost
  onto_cost : (a : ℕ) (xs : List ℕ) → Cost m a → Costs m xs → Cost m (joined_onto m a xs)
  onto_cost a [] h k = h
  onto_cost a (x ∷ xs) h k = onto_cost (m.join a x) xs (laws.join_cost a x h k.0) k.1

  pub joined_cost : (xs : List ℕ) → Costs m xs → Cost m (joined m xs)
  joined_cost xs k = onto_cost m.free xs laws.free_cost k

  -- a list joined onto a cost is that cost joined with the list's total
  pub onto_total : (a : ℕ) (xs : List ℕ) → Cost m a → Costs m xs → joined_onto m a xs ≡ m.join a (joined m xs)
  onto_total a [] h k = sym (laws.free_right a h)
  onto_total a (x ∷ xs) h k =
      let rest = joined_cost xs k.1 in
      let first : joined m (x ∷ xs) ≡ m.join x (joined m xs) = ap (λ b. joined_onto m b xs) (laws.free_left x k.0) ∙ onto_total x xs k.0 k.1 in
      onto_total (m.join a x) xs (laws.join_cost a x h k.0) k.1 ∙ laws.assoc a x (joined m xs) h k.0 rest ∙ ap (m.join a) (sym first)
