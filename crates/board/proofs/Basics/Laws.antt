-- What the laws of costs give.
use Rattle.std.proofs.Common.{◌≡◌, ℕ, ◌⊎◌, subst, inl, inr, ⊎_elim}
use Rattle.std.proofs.lemmas.Bool.{both_ways, cases_Bool}
use Rattle.costs.specs.Meaning.{Meaning, Lawful, Cost, NoDearer}
use Rattle.board.specs.Settling.{Cheaper}

module _ {m : Meaning} (laws : Lawful m) where
  pub no_dearer_same : (a : ℕ) → Cost m a → NoDearer m a a
  no_dearer_same a h = ⊎_elim (λ w. w) (λ w. w) (laws.compare a a h h)

  pub no_dearer_eq : (a b : ℕ) → Cost m a → a ≡ b → NoDearer m a b
  no_dearer_eq a b h e = subst (λ x. NoDearer m a x) e (no_dearer_same a h)

  -- joining never makes cheaper
  pub no_dearer_left : (a b : ℕ) → Cost m a → Cost m b → NoDearer m a (m.join a b)
  no_dearer_left a b ha hb = subst (λ x. NoDearer m x (m.join a b)) (laws.free_right a ha) (laws.mono_right m.free b a laws.free_cost hb ha (laws.free_least b hb))

  no_dearer_right : (a b : ℕ) → Cost m a → Cost m b → NoDearer m b (m.join a b)
  no_dearer_right a b ha hb = subst (λ x. NoDearer m x (m.join a b)) (laws.free_left b hb) (laws.mono_left m.free a b laws.free_cost ha hb (laws.free_least a ha))

  pub cheaper_no_dearer : (a b : ℕ) → Cost m a → Cost m b → Cheaper m a b → NoDearer m a b
  cheaper_no_dearer a b ha hb c = ⊎_elim (λ w. w) (λ w. absurd (both_ways _ c w)) (laws.compare a b ha hb)

  pub join_no_dearer : (a b c d : ℕ) → Cost m a → Cost m b → Cost m c → Cost m d → NoDearer m a b → NoDearer m c d → NoDearer m (m.join a c) (m.join b d)
  join_no_dearer a b c d ha hb hc hd e f = laws.trans _ (m.join b c) _ (laws.join_cost a c ha hc) (laws.join_cost b c hb hc) (laws.join_cost b d hb hd) (laws.mono_left a b c ha hb hc e) (laws.mono_right c d b hc hd hb f)

  -- what is no dearer than something cheaper than w is cheaper than w
  pub cheaper_down : (a b w : ℕ) → Cost m a → Cost m b → Cost m w → NoDearer m a b → Cheaper m b w → Cheaper m a w
  cheaper_down a b w ha hb hw e f = ⊎_elim (λ t. absurd (both_ways _ f (laws.trans w a b hw ha hb t e))) (λ n. n) (cases_Bool (m.no_dearer w a))

  pub free_below : Cheaper m m.free m.worst
  free_below = ⊎_elim (λ w. absurd (laws.differ (laws.antisym _ _ laws.free_cost laws.worst_cost (laws.free_least _ laws.worst_cost) w))) (λ n. n) (cases_Bool (m.no_dearer m.worst m.free))

  -- a call is no cheaper than either of its two records
  pub call_first : (a k b l : ℕ) → Cost m a → Cost m k → Cost m b → Cost m l → NoDearer m a (m.join (m.join (m.join a k) b) l)
  call_first a k b l ha hk hb hl =
      let h1 = laws.join_cost a k ha hk in
      let h2 = laws.join_cost _ b h1 hb in
      let h3 = laws.join_cost _ l h2 hl in
      laws.trans _ _ _ ha h1 h3 (no_dearer_left a k ha hk) (laws.trans _ _ _ h1 h2 h3 (no_dearer_left _ b h1 hb) (no_dearer_left _ l h2 hl))

  pub call_second : (a k b l : ℕ) → Cost m a → Cost m k → Cost m b → Cost m l → NoDearer m b (m.join (m.join (m.join a k) b) l)
  call_second a k b l ha hk hb hl =
      let h1 = laws.join_cost a k ha hk in
      let h2 = laws.join_cost _ b h1 hb in
      let h3 = laws.join_cost _ l h2 hl in
      laws.trans _ _ _ hb h2 h3 (no_dearer_right _ b h1 hb) (no_dearer_left _ l h2 hl)

  -- cheaper than what is no dearer
  pub cheaper_up : (a b d : ℕ) → Cost m a → Cost m b → Cost m d → Cheaper m a b → NoDearer m b d → Cheaper m a d
  cheaper_up a b d ha hb hd c w = ⊎_elim (λ t. absurd (both_ways _ c (laws.trans b d a hb hd ha w t))) (λ n. n) (cases_Bool (m.no_dearer d a))

  pub cheaper_or : (a b : ℕ) → Cost m a → Cost m b → NoDearer m a b → Cheaper m a b ⊎ (a ≡ b)
  cheaper_or a b ha hb w = ⊎_elim (λ t. inr (laws.antisym a b ha hb w t)) (λ n. inl n) (cases_Bool (m.no_dearer b a))
