-- The order of candidates is total and transitive, and its test decides it; the same of readings.
use Rattle.std.proofs.Common.{◌≡◌, ℕ, Bool, true, false, cond, eqb, ltb, Less, Equal, Greater, ◌⊎◌, List, [], ◌∷◌, sym, refl, ◌∙◌, subst, inl, inr, ⊎_elim, arith}
use Rattle.std.specs.Ordering.{is_le, nat_cmp, ordering_then}
use Rattle.std.specs.Cmp.Lexicographic.{slice_cmp}
use Rattle.std.proofs.lemmas.Bool.{ltb-true, ltb-false, eqb-true, eqb-false}
use Rattle.costs.specs.Meaning.{Meaning, Lawful, Cost}
use Rattle.board.specs.Content.{Content}
use Rattle.board.specs.Settling.{Cheaper, In, Record, Lex, key, Precedes}
use Rattle.board.specs.Computing.{lex?, precedes?, first_by}
use Rattle.board.proofs.Basics.Laws.{cheaper_no_dearer, cheaper_down}

lex_trans : (x y z : List ℕ) → Lex x y → Lex y z → Lex x z
lex_trans [] y z h g = tt
lex_trans (a ∷ x) [] z h g = absurd h
lex_trans (a ∷ x) (b ∷ y) [] h g = absurd g
lex_trans (a ∷ x) (b ∷ y) (d ∷ z) (inl h) (inl g) = inl (omega arith)
lex_trans (a ∷ x) (b ∷ y) (d ∷ z) (inl h) (inr g) = inl (omega (arith, g.0))
lex_trans (a ∷ x) (b ∷ y) (d ∷ z) (inr h) (inl g) = inl (omega (arith, h.0))
lex_trans (a ∷ x) (b ∷ y) (d ∷ z) (inr h) (inr g) = inr (h.0 ∙ g.0, lex_trans x y z h.1 g.1)

pub lex_refl : (x : List ℕ) → Lex x x
lex_refl [] = tt
lex_refl (a ∷ x) = inr (refl, lex_refl x)

-- two lists each no later than the other are equal
pub lex_antisym : (x y : List ℕ) → Lex x y → Lex y x → x ≡ y
lex_antisym [] [] h g = refl
lex_antisym [] (b ∷ y) h g = absurd g
lex_antisym (a ∷ x) [] h g = absurd h
lex_antisym (a ∷ x) (b ∷ y) (inl h) (inl g) = absurd (omega arith)
lex_antisym (a ∷ x) (b ∷ y) (inl h) (inr g) = absurd (omega (arith, g.0))
lex_antisym (a ∷ x) (b ∷ y) (inr h) (inl g) = absurd (omega (arith, h.0))
lex_antisym (a ∷ x) (b ∷ y) (inr h) (inr g) = let t = lex_antisym x y h.1 g.1 in let e = h.0 in cc

-- the test is true and P holds, or it is false and Q holds
abbrev pub Decided : Bool → Type 0 → Type 0 → Type 0
Decided b P Q = ((b ≡ true) × P) ⊎ ((b ≡ false) × Q)

pub lex_test : (x y : List ℕ) → Decided (lex? x y) (Lex x y) (Lex y x)
lex_test [] [] = inl (refl, tt)
lex_test [] (b ∷ y) = inl (refl, tt)
lex_test (a ∷ x) [] = inr (refl, tt)
lex_test (a ∷ x) (b ∷ y) = first (ltb a b) refl (eqb a b) refl (lex_test x y)
  where
    first : (s : Bool) → ltb a b ≡ s → (t : Bool) → eqb a b ≡ t → Decided (lex? x y) (Lex x y) (Lex y x) → Decided (is_le (ordering_then (cond s Less (cond t Equal Greater)) (slice_cmp nat_cmp x y))) (Lex (a ∷ x) (b ∷ y)) (Lex (b ∷ y) (a ∷ x))
    first true e t f d = inl (refl, inl (ltb-true a b e))
    first false e true f (inl d) = inl (d.0, inr (eqb-true a b f, d.1))
    first false e true f (inr d) = inr (d.0, inr (sym (eqb-true a b f), d.1))
    first false e false f d = inr (refl, inl (omega (arith, ltb-false a b e, eqb-false a b f)))

-- the first by a test is in the list, and before all others
module _ {A : Type 0} (R : A → A → Type 0) (Good : A → Type 0) (test : A → A → Bool) (decide : (x y : A) → Good x → Good y → Decided (test x y) (R x y) (R y x)) (trans : (x y z : A) → Good x → Good y → Good z → R x y → R y z → R x z) (same : (x : A) → R x x) where
  abbrev First : A → List A → A → Type 0
  First x xs b = In b (x ∷ xs) × ((y : A) → In y (x ∷ xs) → R b y)

  first_is : (x : A) (xs : List A) → ((a : A) → In a (x ∷ xs) → Good a) → First x xs (first_by test x xs)
  first_is x [] h = (inl refl, λ y i. ⊎_elim (λ (e : y ≡ x). subst (R x) (sym e) (same x)) (λ (e : ⊥). absurd e) i)
  first_is x (y ∷ ys) h = choose (test x y) (decide x y hx hy) (first_is x ys (λ a i. h a (⊎_elim (λ e. inl e) (λ j. inr (inr j)) i))) (first_is y ys (λ a i. h a (inr i)))
    where
      hx : Good x
      hx = h x (inl refl)

      hy : Good y
      hy = h y (inr (inl refl))

      widen_x : (b : A) → R x y → First x ys b → First x (y ∷ ys) b
      widen_x b g l =
          let hb : Good b = h b (⊎_elim (λ e. inl e) (λ j. inr (inr j)) l.0) in (
            ⊎_elim (λ e. inl e) (λ j. inr (inr j)) l.0,
            λ z i. ⊎_elim (λ (e : z ≡ x). l.1 z (inl e)) (λ (j : In z (y ∷ ys)). ⊎_elim (λ (e : z ≡ y). subst (R b) (sym e) (trans b x y hb hx hy (l.1 x (inl refl)) g)) (λ (k : In z ys). l.1 z (inr k)) j) i,
          )

      widen_y : (b : A) → R y x → First y ys b → First x (y ∷ ys) b
      widen_y b g l =
          let hb : Good b = h b (inr l.0) in
          (inr l.0, λ z i. ⊎_elim (λ (e : z ≡ x). subst (R b) (sym e) (trans b y x hb hy hx (l.1 y (inl refl)) g)) (λ (j : In z (y ∷ ys)). l.1 z j) i)

      choose : (t : Bool) → Decided t (R x y) (R y x) → First x ys (first_by test x ys) → First y ys (first_by test y ys) → First x (y ∷ ys) (first_by test (cond t x y) ys)
      choose true (inl d) p q = widen_x _ d.1 p
      choose true (inr d) p q = absurd (let e = d.0 in cc)
      choose false (inl d) p q = absurd (let e = d.0 in cc)
      choose false (inr d) p q = widen_y _ d.1 q

module _ {m : Meaning} (laws : Lawful m) (c : Content) where
  precedes_test : (x y : Record) → Cost m x.cost → Cost m y.cost → Decided (precedes? m c x y) (Precedes m c x y) (Precedes m c y x)
  precedes_test x y hx hy = first (m.no_dearer y.cost x.cost) refl (m.no_dearer x.cost y.cost) refl (lex_test (key c x) (key c y))
    where
      first : (s : Bool) → m.no_dearer y.cost x.cost ≡ s → (t : Bool) → m.no_dearer x.cost y.cost ≡ t → Decided (lex? (key c x) (key c y)) (Lex (key c x) (key c y)) (Lex (key c y) (key c x)) → Decided (cond s (cond t (lex? (key c x) (key c y)) false) true) (Precedes m c x y) (Precedes m c y x)
      first false e t f d = inl (refl, inl e)
      first true e false f d = inr (refl, inl f)
      first true e true f (inl d) = inl (d.0, inr (laws.antisym _ _ hx hy f e, d.1))
      first true e true f (inr d) = inr (d.0, inr (laws.antisym _ _ hy hx e f, d.1))

  pub precedes_trans : (x y z : Record) → Cost m x.cost → Cost m y.cost → Cost m z.cost → Precedes m c x y → Precedes m c y z → Precedes m c x z
  precedes_trans x y z hx hy hz (inl h) (inl g) = inl (cheaper_down laws _ _ _ hx hy hz (cheaper_no_dearer laws _ _ hx hy h) g)
  precedes_trans x y z hx hy hz (inl h) (inr g) = inl (subst (λ k. Cheaper m x.cost k) g.0 h)
  precedes_trans x y z hx hy hz (inr h) (inl g) = inl (subst (λ k. Cheaper m k z.cost) (sym h.0) g)
  precedes_trans x y z hx hy hz (inr h) (inr g) = inr (h.0 ∙ g.0, lex_trans (key c x) (key c y) (key c z) h.1 g.1)

  pub precedes_same : (x : Record) → Precedes m c x x
  precedes_same x = inr (refl, lex_refl (key c x))

  -- the first of some candidates is one of them, and precedes all
  pub first_candidate : (x : Record) (xs : List Record) → ((a : Record) → In a (x ∷ xs) → Cost m a.cost) → In (first_by (precedes? m c) x xs) (x ∷ xs) × ((y : Record) → In y (x ∷ xs) → Precedes m c (first_by (precedes? m c) x xs) y)
  first_candidate x xs h = first_is (Precedes m c) (λ (a : Record). Cost m a.cost) (precedes? m c) precedes_test precedes_trans precedes_same x xs h
