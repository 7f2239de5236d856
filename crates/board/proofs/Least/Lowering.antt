-- Lists of costs that get cheaper, step by step.
use Rattle.std.proofs.Common.{◌≡◌, ℕ, ◌+◌, ◌<◌, ◌≤◌, Bool, true, false, cond, ◌⊎◌, List, length, get_or, set, sym, refl, ap, ◌∙◌, subst, inl, inr, ⊎_elim, arith, length-set, get_or-set_other, get_or-set_same}
use Rattle.std.proofs.lemmas.Bool.{cases_eq}
use Rattle.costs.specs.Meaning.{Meaning, Lawful, Cost, NoDearer}
use Rattle.board.specs.Lowering.{Costing, Attained, LowerBound, lowered, Lowered, Among, Just}
use Rattle.board.proofs.Basics.Laws.{no_dearer_same, cheaper_no_dearer}

module _ {m : Meaning} {R : Costing} where
  pub lowered_for : {xs ys : List ℕ} {P Q : Costing} → Lowered m R xs ys P → ((p k : ℕ) → Q p k → P p k) → Lowered m R xs ys Q
  lowered_for g f = record { long = g.long; attained = g.attained; lower = g.lower; bounds = λ p k q. g.bounds p k (f p k q) }

  -- a loop's end
  pub among_all : {xs ys : List ℕ} (Q : ℕ → Costing) (i n : ℕ) → i ≤ n → n ≤ i → Lowered m R xs ys (Among Q i) → Lowered m R xs ys (Among Q n)
  among_all {xs} {ys} Q i n h k g = let e : i ≡ n = omega arith in subst (λ (j : ℕ). Lowered m R xs ys (Among Q j)) e g

module _ {m : Meaning} (laws : Lawful m) {R : Costing} (priced : (p k : ℕ) → R p k → Cost m k) where
  -- what is attained is a cost
  pub worst_or : (k : ℕ) → (p : ℕ) → (k ≡ m.worst) ⊎ R p k → Cost m k
  worst_or k p (inl e) = subst (Cost m) (sym e) laws.worst_cost
  worst_or k p (inr r) = priced p k r

  pub attained_cost : (xs : List ℕ) → Attained m R xs → (p : ℕ) → p < length xs → Cost m (get_or xs p 0)
  attained_cost xs a p h = worst_or _ p (a p h)

  pub lowered_same : (xs : List ℕ) {P : Costing} → Attained m R xs → ((p k : ℕ) → P p k → ⊥) → Lowered m R xs xs P
  lowered_same xs a none = record { long = refl; attained = a; lower = λ p h. no_dearer_same laws _ (attained_cost xs a p h); bounds = λ p k x. absurd (none p k x) }

  -- a loop's begin
  pub lowered_start : (xs : List ℕ) (Q : ℕ → Costing) → Attained m R xs → Lowered m R xs xs (Among Q 0)
  lowered_start xs Q a = lowered_same xs a (λ p k x. let h = x.1 in omega arith)

  pub lowered_then : (xs ys zs : List ℕ) {P Q S : Costing} → Attained m R xs → ((p k : ℕ) → P p k → (p < length xs) × Cost m k) → Lowered m R xs ys P → Lowered m R ys zs Q → ((p k : ℕ) → S p k → P p k ⊎ Q p k) → Lowered m R xs zs S
  lowered_then xs ys zs {P} {Q} a fits g h split = record {
    long = h.long ∙ g.long;
    attained = h.attained;
    lower = λ p i. laws.trans _ _ _ (attained_cost zs h.attained p (there p i)) (attained_cost ys g.attained p (here p i)) (attained_cost xs a p i) (h.lower p (here p i)) (g.lower p i);
    bounds = λ p k s. ⊎_elim (λ (x : P p k). let f = fits p k x in laws.trans _ _ _ (attained_cost zs h.attained p (there p f.0)) (attained_cost ys g.attained p (here p f.0)) f.1 (h.lower p (here p f.0)) (g.bounds p k x)) (λ (x : Q p k). h.bounds p k x) (split p k s);
  }
    where
      here : (p : ℕ) → p < length xs → p < length ys
      here p i = omega (arith, g.long)

      there : (p : ℕ) → p < length xs → p < length zs
      there p i = omega (arith, g.long, h.long)

  pub lowered_more : (xs ys zs : List ℕ) (Q : ℕ → Costing) (i : ℕ) → Attained m R xs → ((p k : ℕ) → Among Q i p k → (p < length xs) × Cost m k) → Lowered m R xs ys (Among Q i) → Lowered m R ys zs (Q i) → Lowered m R xs zs (Among Q (i + 1))
  lowered_more xs ys zs Q i a fits g h = lowered_then xs ys zs a fits g h (λ p k u. ⊎_elim (λ (e : u.0 ≡ i). inr (subst (λ (j : ℕ). Q j p k) e u.2)) (λ (n : u.0 ≡ i → ⊥). let l = u.1 in inl (u.0, omega arith, u.2)) (cases_eq u.0 i))

  -- one cost put at p
  pub lowered_one : (xs ys : List ℕ) (p k : ℕ) → Attained m R xs → p < length xs → (k ≡ m.worst) ⊎ R p k → ys ≡ lowered m xs p k → Lowered m R xs ys (Just p k)
  lowered_one xs ys p k a h r e = subst (λ (zs : List ℕ). Lowered m R xs zs (Just p k)) (sym e) (by (m.no_dearer (get_or xs p 0) k) refl)
    where
      at : (zs : List ℕ) → NoDearer m (get_or zs p 0) k → LowerBound m (Just p k) zs
      at zs n p' k' (f, g) = subst (λ (i : ℕ). NoDearer m (get_or zs i 0) k') (sym f) (subst (NoDearer m (get_or zs p 0)) (sym g) n)

      put : (q : ℕ) (C : ℕ → Type 0) → (q ≡ p → C k) → C (get_or xs q 0) → C (get_or (set xs p k) q 0)
      put q C new old = ⊎_elim
          (λ (z : q ≡ p). subst C (sym (ap (λ (i : ℕ). get_or (set xs p k) i 0) z ∙ get_or-set_same xs p k 0 h)) (new z))
          (λ (n : q ≡ p → ⊥). subst C (sym (get_or-set_other xs p q k 0 n)) old)
          (cases_eq q p)

      by : (b : Bool) → m.no_dearer (get_or xs p 0) k ≡ b → Lowered m R xs (cond b xs (set xs p k)) (Just p k)
      by true n = record { long = refl; attained = a; lower = λ q i. no_dearer_same laws _ (attained_cost xs a q i); bounds = at xs n }
      by false n =
          let hk = worst_or k p r in
          record {
            long = length-set xs p k;
            attained = λ q i. let j : q < length xs = omega (arith, length-set xs p k) in put q (λ (x : ℕ). (x ≡ m.worst) ⊎ R q x) (λ z. subst (λ (s : ℕ). (k ≡ m.worst) ⊎ R s k) (sym z) r) (a q j);
            lower = λ q i. put q (λ (x : ℕ). NoDearer m x (get_or xs q 0)) (λ z. subst (λ (s : ℕ). NoDearer m k (get_or xs s 0)) (sym z) (cheaper_no_dearer laws _ _ hk (attained_cost xs a p h) n)) (no_dearer_same laws _ (attained_cost xs a q i));
            bounds = at (set xs p k) (subst (λ (x : ℕ). NoDearer m x k) (sym (get_or-set_same xs p k 0 h)) (no_dearer_same laws _ hk));
          }
