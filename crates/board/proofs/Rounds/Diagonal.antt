-- The records with which settling begins, and finding a pair in a log.
use Rattle.std.proofs.Common.{◌≡◌, ℕ, zero, suc, ◌<◌, ◌⊎◌, List, [], ◌∷◌, sym, refl, ap, subst, inl, inr, ⊎_elim, arith}
use Rattle.std.proofs.lemmas.Bool.{cases_eq}
use Rattle.costs.specs.Meaning.{Meaning}
use Rattle.board.specs.Content.{Content}
use Rattle.board.specs.Moves.{Place, mode, moment, On}
use Rattle.board.specs.Settling.{In, Record, start_record, moments_of, places, starts, diagonal, Unrecorded, Rounds, begin, round}
use Rattle.board.proofs.Basics.Membership.{in_left, in_right, in_split, in_map}

pub place_eq : (p q : Place) → mode p ≡ mode q → moment p ≡ moment q → p ≡ q
place_eq p q e f = λ i. (e i, f i)

in_moments : (p : Place) (n t : ℕ) → mode p ≡ n → moment p < t → In p (moments_of n t)
in_moments p n zero e h = absurd (omega arith)
in_moments p n (suc t) e h = ⊎_elim (λ (f : moment p ≡ t). inl (place_eq p (n, t) e f)) (λ (f : moment p ≡ t → ⊥). inr (in_moments p n t e (omega arith))) (cases_eq (moment p) t)

pub in_places : (p : Place) (n t : ℕ) → mode p < n → moment p < t → In p (places n t)
in_places p zero t e h = absurd (omega arith)
in_places p (suc n) t e h = ⊎_elim (λ (f : mode p ≡ n). in_left p (moments_of n t) (places n t) (in_moments p n t f h)) (λ (f : mode p ≡ n → ⊥). in_right p (moments_of n t) (places n t) (in_places p n t (omega arith) h)) (cases_eq (mode p) n)

in_diagonal : (m : Meaning) (c : Content) (p : Place) → On c p → In (start_record m p) (diagonal m c)
in_diagonal m c p on = in_map (start_record m) p _ (in_places p _ _ on.0 on.1)

-- every log holds the diagonal
pub in_rounds : {m : Meaning} {c : Content} {n : ℕ} {log : List Record} (p : Place) → Rounds m c n log → On c p → In (start_record m p) log
in_rounds {m} {c} p begin on = in_diagonal m c p on
in_rounds p (round s r) on = inr (in_rounds p s on)

pub started_in : (m : Meaning) (a : Record) (ps : List Place) → In a (starts m ps) → (p : Place) × (a ≡ start_record m p) × In p ps
started_in m a [] h = absurd h
started_in m a (p ∷ ps) (inl e) = (p, e, inl refl)
started_in m a (p ∷ ps) (inr h) = let r = started_in m a ps h in (r.0, r.1, inr r.2)

-- a record of the diagonal is one from a place to itself
pub started : (m : Meaning) (c : Content) (a : Record) → In a (diagonal m c) → (p : Place) × (a ≡ start_record m p)
started m c a h = let r = started_in m a _ h in (r.0, r.1)

-- what the diagonal holds lies on the board
pub moments_on : (p : Place) (n t : ℕ) → In p (moments_of n t) → (mode p ≡ n) × (moment p < t)
moments_on p n zero h = absurd h
moments_on p n (suc t) (inl e) = (ap (λ (x : Place). mode x) e, omega (arith, ap (λ (x : Place). moment x) e))
moments_on p n (suc t) (inr h) = let r = moments_on p n t h in (r.0, omega arith)

pub places_on : (p : Place) (n t : ℕ) → In p (places n t) → (mode p < n) × (moment p < t)
places_on p zero t h = absurd h
places_on p (suc n) t h = ⊎_elim (λ g. let r = moments_on p n t g in (omega arith, r.1)) (λ g. let r = places_on p n t g in (omega arith, r.1)) (in_split p (moments_of n t) (places n t) h)

pub diagonal_on : (m : Meaning) (c : Content) (a : Record) → In a (diagonal m c) → On c a.from
diagonal_on m c a h =
    let r = started_in m a _ h in
    subst (λ (x : Record). On c x.from) (sym r.1) (places_on r.0 _ _ r.2)

-- a pair has a record, or is unsettled
abbrev pub Held : List Record → Place → Place → Type 0
Held log s q = (a : Record) × In a log × (a.from ≡ s) × (a.to ≡ q)

place_cases : (p q : Place) → (p ≡ q) ⊎ (p ≡ q → ⊥)
place_cases p q = first (cases_eq (mode p) (mode q)) (cases_eq (moment p) (moment q))
  where
    first : (mode p ≡ mode q) ⊎ (mode p ≡ mode q → ⊥) → (moment p ≡ moment q) ⊎ (moment p ≡ moment q → ⊥) → (p ≡ q) ⊎ (p ≡ q → ⊥)
    first (inl e) (inl f) = inl (place_eq p q e f)
    first (inl e) (inr g) = inr (λ h. g (ap (λ (x : Place). moment x) h))
    first (inr g) f = inr (λ h. g (ap (λ (x : Place). mode x) h))

found : (x : Record) (log : List Record) (s q : Place) → (x.from ≡ s) ⊎ (x.from ≡ s → ⊥) → (x.to ≡ q) ⊎ (x.to ≡ q → ⊥) → Held log s q ⊎ Unrecorded log s q → Held (x ∷ log) s q ⊎ Unrecorded (x ∷ log) s q
found x log s q (inl e) (inl f) h = inl (x, inl refl, e, f)
found x log s q (inl e) (inr g) (inl h) = inl (h.0, inr h.1, h.2, h.3)
found x log s q (inl e) (inr g) (inr u) = inr (λ a i e' f'. ⊎_elim (λ (z : a ≡ x). g (cc)) (λ h. u a h e' f') i)
found x log s q (inr g) f (inl h) = inl (h.0, inr h.1, h.2, h.3)
found x log s q (inr g) f (inr u) = inr (λ a i e' f'. ⊎_elim (λ (z : a ≡ x). g (cc)) (λ h. u a h e' f') i)

pub find : (log : List Record) (s q : Place) → Held log s q ⊎ Unrecorded log s q
find [] s q = inr (λ a h e f. h)
find (x ∷ log) s q = found x log s q (place_cases x.from s) (place_cases x.to q) (find log s q)
