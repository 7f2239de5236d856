-- Joining a list of costs: onto what came before, and cut anywhere; the worked examples.
use Rattle.std.proofs.Common.{◌≡◌, ℕ, List, [], ◌∷◌, ◌++◌, sym, refl, ap, ◌∙◌}
use Rattle.costs.specs.Meaning.{Meaning, Lawful, Cost}
use Rattle.costs.specs.Examples.{JoiningExamples}
use Rattle.costs.specs.Lists.{Costs, joined_onto, joined, CutAnywhere}

-- two lists on end
pub joined_append : (m : Meaning) (a : ℕ) (xs ys : List ℕ) → joined_onto m a (xs ++ ys) ≡ joined_onto m (joined_onto m a xs) ys
joined_append m a [] ys = refl
joined_append m a (x ∷ xs) ys = joined_append m (m.join a x) xs ys

module _ {m : Meaning} (laws : Lawful m) where
  -- costs joined onto a cost are a cost
  pub onto_cost : (a : ℕ) (xs : List ℕ) → Cost m a → Costs m xs → Cost m (joined_onto m a xs)
  onto_cost a [] h k = h
  onto_cost a (x ∷ xs) h k = onto_cost (m.join a x) xs (laws.join_cost a x h k.0) k.1

  pub joined_cost : (xs : List ℕ) → Costs m xs → Cost m (joined m xs)
  joined_cost xs k = onto_cost m.free xs laws.free_cost k

  -- joining a list onto a cost is joining its total to that cost
  pub onto_total : (a : ℕ) (xs : List ℕ) → Cost m a → Costs m xs → joined_onto m a xs ≡ m.join a (joined m xs)
  onto_total a [] h k = sym (laws.free_right a h)
  onto_total a (x ∷ xs) h k =
      onto_total (m.join a x) xs (laws.join_cost a x h k.0) k.1
      ∙ laws.assoc a x (joined m xs) h k.0 (joined_cost xs k.1)
      ∙ ap (m.join a) (sym (ap (λ b. joined_onto m b xs) (laws.free_left x k.0) ∙ onto_total x xs k.0 k.1))

  -- the first cost joined with the rest
  pub joined_first : (x : ℕ) (xs : List ℕ) → Cost m x → Costs m xs → joined m (x ∷ xs) ≡ m.join x (joined m xs)
  joined_first x xs h k = ap (λ a. joined_onto m a xs) (laws.free_left x h) ∙ onto_total x xs h k

  pub cut_anywhere : CutAnywhere m
  cut_anywhere xs ys h k = joined_append m m.free xs ys ∙ onto_total (joined m xs) ys (joined_cost xs h) k

-- the worked examples
pub worked : JoiningExamples
worked = record { full_seconds = refl; no_rank = refl; last_rank = refl; too_many_breaches = refl; last_sum = refl; first_worst = refl }
