-- Lists of costs that only get cheaper.
use Rattle.std.specs.Prelude.{◌≡◌, ℕ, ◌<◌, ◌⊎◌, cond, List, length, slice_index, slice_set}
use Rattle.costs.specs.Meaning.{Meaning, NoDearer}

-- which costs a number can have
abbrev pub Costing : Type 1
Costing = ℕ → ℕ → Type 0

-- each cost of the list is the worst, or one that its number can have
abbrev pub Attained : Meaning → Costing → List ℕ → Type 0
Attained m R xs = (p : ℕ) → p < length xs → (slice_index xs p ≡ m.worst) ⊎ R p (slice_index xs p)

-- no number can have a cost cheaper than that of the list
abbrev pub LowerBound : Meaning → Costing → List ℕ → Type 0
LowerBound m P xs = (p k : ℕ) → P p k → NoDearer m (slice_index xs p) k

-- the list with the cost k at p, where what stands there is dearer
abbrev pub lowered : Meaning → List ℕ → ℕ → ℕ → List ℕ
lowered m xs p k = cond (m.no_dearer (slice_index xs p) k) xs (slice_set xs p k)

-- xs became xs': each cost is attained still and no dearer than before, and none of P is cheaper
pub record Lowered (m : Meaning) (R : Costing) (xs xs' : List ℕ) (P : Costing) : Type 0 where
  pub long : length xs' ≡ length xs
  pub attained : Attained m R xs'
  pub lower : (p : ℕ) → p < length xs → NoDearer m (slice_index xs' p) (slice_index xs p)
  pub bounds : LowerBound m P xs'

-- one of Q 0 to Q n, without the last
abbrev pub Among : (ℕ → Costing) → ℕ → Costing
Among Q n p k = (i : ℕ) × (i < n) × Q i p k

-- just the cost k at p
abbrev pub Just : ℕ → ℕ → Costing
Just p k p' k' = (p' ≡ p) × (k' ≡ k)
