-- Members of lists.
use Rattle.std.proofs.Common.{◌≡◌, ℕ, zero, suc, ◌<◌, ◌⊎◌, List, [], ◌∷◌, ◌++◌, map, Some, None, Option, refl, ap, subst, inl, inr, ⊎_elim, arith}
use Rattle.std.specs.List.{flat_map}
use Rattle.std.proofs.lemmas.Bool.{cases_eq}
use Rattle.board.specs.Settling.{In}
use Rattle.board.specs.Computing.{below}

pub in_right : {A : Type 0} (x : A) (xs ys : List A) → In x ys → In x (xs ++ ys)
in_right x [] ys h = h
in_right x (z ∷ xs) ys h = inr (in_right x xs ys h)

pub in_left : {A : Type 0} (x : A) (xs ys : List A) → In x xs → In x (xs ++ ys)
in_left x [] ys h = absurd h
in_left x (z ∷ xs) ys (inl e) = inl e
in_left x (z ∷ xs) ys (inr h) = inr (in_left x xs ys h)

pub in_split : {A : Type 0} (x : A) (xs ys : List A) → In x (xs ++ ys) → In x xs ⊎ In x ys
in_split x [] ys h = inr h
in_split x (z ∷ xs) ys (inl e) = inl (inl e)
in_split x (z ∷ xs) ys (inr h) = ⊎_elim (λ g. inl (inr g)) (λ g. inr g) (in_split x xs ys h)

pub in_map : {A B : Type 0} (f : A → B) (x : A) (xs : List A) → In x xs → In (f x) (map f xs)
in_map f x [] h = absurd h
in_map f x (y ∷ xs) (inl e) = inl (ap f e)
in_map f x (y ∷ xs) (inr h) = inr (in_map f x xs h)

pub in_each : {A B : Type 0} (f : A → List B) (xs : List A) (x : A) (y : B) → In x xs → In y (f x) → In y (flat_map f xs)
in_each f [] x y i h = absurd i
in_each f (z ∷ xs) x y (inl e) h = in_left y (f z) (flat_map f xs) (subst (λ w. In y (f w)) e h)
in_each f (z ∷ xs) x y (inr i) h = in_right y (f z) (flat_map f xs) (in_each f xs x y i h)

pub each_in : {A B : Type 0} (f : A → List B) (xs : List A) (y : B) → In y (flat_map f xs) → (x : A) × In x xs × In y (f x)
each_in f [] y h = absurd h
each_in f (z ∷ xs) y h = ⊎_elim (λ (i : In y (f z)). (z, inl refl, i)) (λ (i : In y (flat_map f xs)). let r = each_in f xs y i in (r.0, inr r.1, r.2)) (in_split y (f z) (flat_map f xs) h)

pub in_below : (i n : ℕ) → i < n → In i (below n)
in_below i zero h = absurd (omega arith)
in_below i (suc n) h = ⊎_elim (λ (e : i ≡ n). inl e) (λ (f : i ≡ n → ⊥). inr (in_below i n (omega arith))) (cases_eq i n)

-- what two equations say of one option
pub some_eq : {A : Type 0} (o : Option A) (x y : A) → o ≡ Some x → o ≡ Some y → x ≡ y
some_eq o x y e f = cc

pub none_some : {A : Type 0} (o : Option A) (x : A) → o ≡ None → o ≡ Some x → ⊥
none_some o x e f = cc
