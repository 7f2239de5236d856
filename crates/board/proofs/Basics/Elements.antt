-- What stands at a number of a list: after one element is added or changed, and in a front.
use Rattle.std.proofs.Common.{◌≡◌, ◌≢◌, ℕ, zero, suc, ◌*◌, ◌<◌, ◌≤◌, ◌⊎◌, List, [], ◌∷◌, ◌++◌, length, get_or, set, Some, refl, ap, ◌∙◌, subst, ap₂, inl, inr, mul_comm, mul-zero, zero-mul, le-mul_of_pos_right, arith}
use Rattle.std.proofs.lemmas.Option.{none-some, slice_get_within}
use Rattle.std.specs.List.{slice_get, refill}
use Rattle.std.proofs.lemmas.List.{length-set}
use Rattle.std.proofs.Math.Seq.{take-append_seam}
use Rattle.board.specs.Calls.{changed}

pub nth_push : {A : Type 0} (xs : List A) (x : A) (i : ℕ) (y : A) → slice_get (xs ++ (x ∷ [])) i ≡ Some y → (slice_get xs i ≡ Some y) ⊎ (x ≡ y)
nth_push [] x zero y e = inr (cc)
nth_push [] x (suc i) y e = absurd (none-some y e)
nth_push (z ∷ xs) x zero y e = inl e
nth_push (z ∷ xs) x (suc i) y e = nth_push xs x i y e

-- what the changed list holds came from the list
pub nth_changed : {A : Type 0} (f : A → A) (xs : List A) (j i : ℕ) (y : A) → slice_get (changed f xs j) i ≡ Some y → (slice_get xs i ≡ Some y) ⊎ ((x : A) × (slice_get xs i ≡ Some x) × (y ≡ f x))
nth_changed f [] j i y e = absurd (none-some y e)
nth_changed f (x ∷ xs) zero zero y e = inr (x, refl, cc)
nth_changed f (x ∷ xs) zero (suc i) y e = inl e
nth_changed f (x ∷ xs) (suc j) zero y e = inl e
nth_changed f (x ∷ xs) (suc j) (suc i) y e = nth_changed f xs j i y e

-- every other element is as it was
pub nth_other : {A : Type 0} (f : A → A) (xs : List A) (j i : ℕ) → i ≢ j → slice_get (changed f xs j) i ≡ slice_get xs i
nth_other f [] j i h = refl
nth_other f (x ∷ xs) zero zero h = absurd (h refl)
nth_other f (x ∷ xs) zero (suc i) h = refl
nth_other f (x ∷ xs) (suc j) zero h = refl
nth_other f (x ∷ xs) (suc j) (suc i) h = nth_other f xs j i (λ e. h (ap suc e))

pub nth_empty : {A : Type 0} (xs : List A) (i : ℕ) (x : A) → length xs ≡ 0 → slice_get xs i ≡ Some x → ⊥
nth_empty xs i x n e = omega (arith, slice_get_within xs i x e)

pub length_changed : {A : Type 0} (f : A → A) (xs : List A) (i : ℕ) → length (changed f xs i) ≡ length xs
length_changed f [] i = refl
length_changed f (x ∷ xs) zero = refl
length_changed f (x ∷ xs) (suc i) = ap suc (length_changed f xs i)

-- the factors of a product that is not 0, and at most 64
pub factors : (a b : ℕ) → 0 < a * b → a * b ≤ 64 → (0 < a) × (0 < b) × (a ≤ 64) × (b ≤ 64)
factors zero b h k = absurd (omega (arith, zero-mul b))
factors (suc a) zero h k = absurd (omega (arith, mul-zero (suc a)))
factors (suc a) (suc b) h k =
    let left = le-mul_of_pos_right {m = suc b} (suc a) (omega arith) in
    let right = le-mul_of_pos_right {m = suc a} (suc b) (omega arith) in
    let turned = mul_comm (suc a) (suc b) in
    (omega arith, omega arith, omega arith, omega arith)

-- one element changed
set_changed : {A : Type 0} (f : A → A) (xs : List A) (i : ℕ) (d : A) → i < length xs → set xs i (f (get_or xs i d)) ≡ changed f xs i
set_changed f [] i d h = refl
set_changed f (x ∷ xs) zero d h = refl
set_changed f (x ∷ xs) (suc i) d h = ap (λ ys. x ∷ ys) (set_changed f xs i d (omega arith))

-- the same, as a write through a slice leaves the list
pub changed_set : {A : Type 0} (f : A → A) (xs ys : List A) (i : ℕ) (d x : A) → i < length xs → ys ≡ xs → x ≡ f (get_or ys i d) → refill (length xs) xs (set ys i x) ≡ changed f xs i
changed_set f xs ys i d x h same made =
    let at : set ys i x ≡ changed f xs i = ap₂ (λ zs y. set zs i y) same (made ∙ ap (λ zs. f (get_or zs i d)) same) ∙ set_changed f xs i d h in
    let long : length (set ys i x) ≡ length xs = length-set ys i x ∙ ap length same in
    subst (λ n. refill n xs (set ys i x) ≡ set ys i x) long (take-append_seam (set ys i x) _) ∙ at
