-- What a kind of cost means, and the laws that every kind keeps.
use Rattle.std.specs.Prelude.{◌≡◌, ℕ, ◌^◌, ◌<◌, Bool, true, ◌⊎◌}

-- A kind's meaning: which numbers are its costs, which of two is no dearer, what two costs joined make, its free
-- cost, its worst cost, its letter, and whether trust scales it.
pub record Meaning : Type 0 where
  pub is_cost : ℕ → Bool
  pub no_dearer : ℕ → ℕ → Bool
  pub join : ℕ → ℕ → ℕ
  pub free : ℕ
  pub worst : ℕ
  pub letter : ℕ
  pub scaled : Bool

-- x is a cost of the kind
abbrev pub Cost : Meaning → ℕ → Type 0
Cost m x = m.is_cost x ≡ true

-- a is no dearer than b
abbrev pub NoDearer : Meaning → ℕ → ℕ → Type 0
NoDearer m a b = m.no_dearer a b ≡ true

-- The laws, over the costs of the kind.
pub record Lawful (m : Meaning) : Type 0 where
  -- a cost is a number of 32 bits; free and worst are costs
  pub fits : (x : ℕ) → Cost m x → x < 2 ^ 32
  pub free_cost : Cost m m.free
  pub worst_cost : Cost m m.worst
  -- no-dearer is a total order: any two costs compare, it is transitive, and two costs each no dearer than the other are equal
  pub compare : (a b : ℕ) → Cost m a → Cost m b → NoDearer m a b ⊎ NoDearer m b a
  pub trans : (a b c : ℕ) → Cost m a → Cost m b → Cost m c → NoDearer m a b → NoDearer m b c → NoDearer m a c
  pub antisym : (a b : ℕ) → Cost m a → Cost m b → NoDearer m a b → NoDearer m b a → a ≡ b
  -- two costs joined are a cost, and joining is associative
  pub join_cost : (a b : ℕ) → Cost m a → Cost m b → Cost m (m.join a b)
  pub assoc : (a b c : ℕ) → Cost m a → Cost m b → Cost m c → m.join (m.join a b) c ≡ m.join a (m.join b c)
  -- joining the free cost on either side changes nothing, and no cost is cheaper than free
  pub free_left : (a : ℕ) → Cost m a → m.join m.free a ≡ a
  pub free_right : (a : ℕ) → Cost m a → m.join a m.free ≡ a
  pub free_least : (a : ℕ) → Cost m a → NoDearer m m.free a
  -- joining is monotone on either side
  pub mono_left : (a b c : ℕ) → Cost m a → Cost m b → Cost m c → NoDearer m a b → NoDearer m (m.join a c) (m.join b c)
  pub mono_right : (a b c : ℕ) → Cost m a → Cost m b → Cost m c → NoDearer m a b → NoDearer m (m.join c a) (m.join c b)
  -- no cost is dearer than the worst, and the worst joined on either side is the worst
  pub worst_most : (a : ℕ) → Cost m a → NoDearer m a m.worst
  pub worst_left : (a : ℕ) → Cost m a → m.join m.worst a ≡ m.worst
  pub worst_right : (a : ℕ) → Cost m a → m.join a m.worst ≡ m.worst
  -- free and worst differ
  pub differ : m.free ≡ m.worst → ⊥
  -- a kind that trust scales has every number of 32 bits as a cost, and the greatest of them as its worst
  pub scaled_costs : m.scaled ≡ true → (x : ℕ) → x < 2 ^ 32 → Cost m x
  pub scaled_worst : m.scaled ≡ true → m.worst ≡ 4294967295
