-- The log of an array's first records.
use Rattle.std.proofs.Common.{◌≡◌, ℕ, zero, suc, ◌+◌, ◌<◌, ◌≤◌, ◌≢◌, List, [], ◌∷◌, ◌++◌, length, set, sym, refl, ap, ◌∙◌, subst, ap₂, inl, inr, ⊎_elim, arith, length-append, get_or-set_other, get_or-set_same}
use Rattle.board.specs.declared.moves.Move.{Move}
use Rattle.std.proofs.lemmas.Bool.{eq-eqb, ne_eqb, cond-true, cond-false, cases_eq}
use Rattle.board.specs.Settling.{In, Record, bare}
use Rattle.board.specs.declared.log.Record.{Record as LogRecord}
use Rattle.board.specs.declared.log.Derivation.{Derivation as LogDerivation}
use Rattle.board.specs.declared.log.Derivation.TheVariants.{Start, Step, Call}
use Rattle.board.specs.Logged.{settled_as, spelled, derivation_of, record_of, blank, logged}
use Rattle.board.specs.Logs.{Refers, record_at}

pub logged_none : (rs : List LogRecord) → logged rs 0 ≡ []
unfolding logged
logged_none rs = refl

pub logged_length : (rs : List LogRecord) (n : ℕ) → length (logged rs n) ≡ n
unfolding logged
logged_length rs zero = refl
logged_length rs (suc n) = ap suc (logged_length rs n)

pub settled_here : (x : Record) (log : List Record) (i : ℕ) → i ≡ length log → settled_as (x ∷ log) i ≡ x
settled_here x log i e = cond-true _ _ _ (eq-eqb _ _ e)

pub settled_before : (x : Record) (log : List Record) (i : ℕ) → i < length log → settled_as (x ∷ log) i ≡ settled_as log i
settled_before x log i h = let ne : i ≡ length log → ⊥ = λ e. omega arith in cond-false _ _ _ (ne_eqb _ _ ne)

pub settled_is : (rs : List LogRecord) (n i : ℕ) → i < n → settled_as (logged rs n) i ≡ record_at rs i
unfolding logged
settled_is rs zero i h = absurd (omega arith)
settled_is rs (suc n) i h = ⊎_elim (λ (e : i ≡ n). settled_here _ (logged rs n) i (e ∙ sym (logged_length rs n)) ∙ ap (record_at rs) (sym e)) (λ (f : i ≡ n → ⊥). let l : i < n = omega arith in settled_before _ (logged rs n) i (subst (λ k. i < k) (sym (logged_length rs n)) l) ∙ settled_is rs n i l) (cases_eq i n)

pub in_logged : (rs : List LogRecord) (n i : ℕ) → i < n → In (record_at rs i) (logged rs n)
unfolding logged
in_logged rs zero i h = absurd (omega arith)
in_logged rs (suc n) i h = ⊎_elim (λ (e : i ≡ n). inl (ap (record_at rs) e)) (λ (f : i ≡ n → ⊥). inr (in_logged rs n i (omega arith))) (cases_eq i n)

pub logged_in : (rs : List LogRecord) (n : ℕ) (x : Record) → In x (logged rs n) → (i : ℕ) × (i < n) × (x ≡ record_at rs i)
unfolding logged
logged_in rs zero x h = absurd h
logged_in rs (suc n) x (inl e) = (n, omega arith, e)
logged_in rs (suc n) x (inr h) = let r = logged_in rs n x h in (r.0, omega arith, r.2)

-- a record of the array that refers to what stands spells out the same, and stands for the same, when the log has one more
pub spelled_stays : (x : Record) (log : List Record) (s : LogDerivation) → Refers (length log) s → spelled (x ∷ log) s ≡ spelled log s
spelled_stays x log Start h = refl
spelled_stays x log (Step i v) h = ap (λ (e : Record). e.moves ++ (v ∷ [])) (settled_before x log i h)
spelled_stays x log (Call i j o w t) h = ap₂ (λ (a b : Record). a.moves ++ (bare o ∷ (b.moves ++ (bare w ∷ [])))) (settled_before x log i h.0) (settled_before x log j h.1)

pub record_stays : (x : Record) (log : List Record) (r : LogRecord) → Refers (length log) r.derivation → record_of (x ∷ log) r ≡ record_of log r
record_stays x log r h = ap (λ (ms : List _). record { from = r.from; to = r.to; cost = r.cost; derivation = derivation_of r.derivation; moves = ms }) (spelled_stays x log r.derivation h)

-- a write past the first n changes nothing of them
pub logged_set : (rs : List LogRecord) (n i : ℕ) (r : LogRecord) → n ≤ i → logged (set rs i r) n ≡ logged rs n
unfolding logged
logged_set rs zero i r h = refl
logged_set rs (suc n) i r h =
    let ne : n ≢ i = omega arith in
    let e = logged_set rs n i r (omega arith) in
    ap₂ (λ (l : List Record) (x : LogRecord). record_of l x ∷ l) e (get_or-set_other rs i n r blank ne)

pub logged_push : (rs : List LogRecord) (n : ℕ) (r : LogRecord) → n < length rs → logged (set rs n r) (suc n) ≡ record_of (logged rs n) r ∷ logged rs n
unfolding logged
logged_push rs n r h = ap₂ (λ (l : List Record) (x : LogRecord). record_of l x ∷ l) (logged_set rs n n r (omega arith)) (get_or-set_same rs n r blank h)

-- how many moves are spelled out
pub step_length : (rs : List LogRecord) (n : ℕ) {s : LogDerivation} {i : ℕ} {v : Move} → s ≡ Step i v → Refers n s → (i < n) × (length (spelled (logged rs n) s) ≡ length (record_at rs i).moves + 1)
step_length rs n {s} {i} {v} is refers =
    let h : i < n = subst (Refers n) is refers in
    (h, ap (λ (z : LogDerivation). length (spelled (logged rs n) z)) is ∙ ap (λ (e : Record). length (e.moves ++ (v ∷ []))) (settled_is rs n i h) ∙ length-append (record_at rs i).moves (v ∷ []))

pub call_length : (rs : List LogRecord) (n : ℕ) {s : LogDerivation} {i j o w t : ℕ} → s ≡ Call i j o w t → Refers n s → (i < n) × (j < n) × (length (spelled (logged rs n) s) ≡ length (record_at rs i).moves + length (record_at rs j).moves + 2)
call_length rs n {s} {i} {j} {o} {w} {t} is refers =
    let h : (i < n) × (j < n) = subst (Refers n) is refers in
    let a = (record_at rs i).moves in
    let b = (record_at rs j).moves in
    let e = ap (λ (z : LogDerivation). length (spelled (logged rs n) z)) is in
    let d = ap₂ (λ (x y : Record). length (x.moves ++ (bare o ∷ (y.moves ++ (bare w ∷ []))))) (settled_is rs n i h.0) (settled_is rs n j h.1) in
    let f = length-append a (bare o ∷ (b ++ (bare w ∷ []))) in
    let g = length-append b (bare w ∷ []) in
    (h.0, h.1, omega (arith, e, d, f, g))
