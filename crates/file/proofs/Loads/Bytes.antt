-- Numbers as bytes, and back.
use Rattle.std.proofs.Common.{◌≡◌, ℕ, zero, suc, ◌+◌, ◌*◌, ◌/◌, ◌%◌, ◌^◌, ◌<◌, ◌≤◌, List, [], ◌∷◌, ◌++◌, length, get_or, take, drop, sym, refl, ap, ◌∙◌, append_assoc, append-nil, arith}
use Rattle.std.specs.List.{AllByRecursion}
use Rattle.file.specs.Fields.{word2, word4, word8}
use Rattle.file.specs.Layout.{in_bytes, Byte}

-- the bytes of a number make the number again
pub word2_bytes : (w : ℕ) (rest : List ℕ) → w < 2 ^ 16 → word2 (in_bytes 2 w ++ rest) ≡ w
word2_bytes w rest h = omega arith

pub word4_bytes : (w : ℕ) (rest : List ℕ) → w < 2 ^ 32 → word4 (in_bytes 4 w ++ rest) ≡ w
word4_bytes w rest h = omega arith

pub word8_bytes : (w : ℕ) (rest : List ℕ) → w < 2 ^ 64 → word8 (in_bytes 8 w ++ rest) ≡ w
word8_bytes w rest h = omega arith

-- one byte more
in_bytes_more : (n w b : ℕ) → b < 256 → in_bytes (suc n) (w * 256 + b) ≡ in_bytes n w ++ (b ∷ [])
in_bytes_more n w b h =
    let q : (w * 256 + b) / 256 ≡ w = omega arith in
    let r : (w * 256 + b) % 256 ≡ b = omega arith in
    rw (q, r)

-- each byte of a list, at every place
pub each_byte : (bs : List ℕ) → ((i : ℕ) → get_or bs i 0 < 256) → AllByRecursion Byte bs
each_byte [] h = tt
each_byte (b ∷ bs) h = (h 0, each_byte bs (λ i. h (suc i)))

pub each_take : (n : ℕ) (bs : List ℕ) → AllByRecursion Byte bs → AllByRecursion Byte (take n bs)
each_take zero [] h = tt
each_take zero (b ∷ bs) h = tt
each_take (suc n) [] h = tt
each_take (suc n) (b ∷ bs) h = (h.0, each_take n bs h.1)

pub each_drop : (n : ℕ) (bs : List ℕ) → AllByRecursion Byte bs → AllByRecursion Byte (drop n bs)
each_drop zero [] h = tt
each_drop zero (b ∷ bs) h = h
each_drop (suc n) [] h = tt
each_drop (suc n) (b ∷ bs) h = each_drop n bs h.1

-- the number that bytes make, the first the most significant, with w in front
abbrev value : ℕ → List ℕ → ℕ
value w [] = w
value w (b ∷ bs) = value (w * 256 + b) bs

value_bytes : (xs : List ℕ) (k n w : ℕ) → k ≡ n + length xs → AllByRecursion Byte xs → in_bytes k (value w xs) ≡ in_bytes n w ++ xs
value_bytes [] k n w h e = let same : k ≡ n = omega arith in rw same (sym (append-nil (in_bytes n w)))
value_bytes (b ∷ xs) k n w h e =
    value_bytes xs k (suc n) (w * 256 + b) (omega arith) e.1
    ∙ (ap (λ (ys : List ℕ). ys ++ xs) (in_bytes_more n w b e.0) ∙ append_assoc (in_bytes n w) (b ∷ []) xs)

-- the bytes of the number that the front of a list makes are that front
pub bytes_word2 : (bs : List ℕ) → 2 ≤ length bs → AllByRecursion Byte bs → bs ≡ in_bytes 2 (word2 bs) ++ drop 2 bs
bytes_word2 [] h e = absurd (omega arith)
bytes_word2 (a ∷ []) h e = absurd (omega arith)
bytes_word2 (a ∷ b ∷ rest) h (p, (q, e)) =
    let w : word2 (a ∷ b ∷ rest) ≡ value 0 (a ∷ b ∷ []) = omega arith in
    ap (λ (xs : List ℕ). xs ++ rest) (sym (ap (in_bytes 2) w ∙ value_bytes (a ∷ b ∷ []) 2 0 0 refl (p, (q, tt))))

pub bytes_word4 : (bs : List ℕ) → 4 ≤ length bs → AllByRecursion Byte bs → bs ≡ in_bytes 4 (word4 bs) ++ drop 4 bs
bytes_word4 [] h e = absurd (omega arith)
bytes_word4 (a ∷ []) h e = absurd (omega arith)
bytes_word4 (a ∷ b ∷ []) h e = absurd (omega arith)
bytes_word4 (a ∷ b ∷ c ∷ []) h e = absurd (omega arith)
bytes_word4 (a ∷ b ∷ c ∷ d ∷ rest) h (pa, (pb, (pc, (pd, e)))) =
    let w : word4 (a ∷ b ∷ c ∷ d ∷ rest) ≡ value 0 (a ∷ b ∷ c ∷ d ∷ []) = omega arith in
    ap (λ (xs : List ℕ). xs ++ rest) (sym (ap (in_bytes 4) w ∙ value_bytes (a ∷ b ∷ c ∷ d ∷ []) 4 0 0 refl (pa, (pb, (pc, (pd, tt))))))

pub bytes_word8 : (bs : List ℕ) → 8 ≤ length bs → AllByRecursion Byte bs → bs ≡ in_bytes 8 (word8 bs) ++ drop 8 bs
bytes_word8 [] h e = absurd (omega arith)
bytes_word8 (a ∷ []) h e = absurd (omega arith)
bytes_word8 (a ∷ b ∷ []) h e = absurd (omega arith)
bytes_word8 (a ∷ b ∷ c ∷ []) h e = absurd (omega arith)
bytes_word8 (a ∷ b ∷ c ∷ d ∷ []) h e = absurd (omega arith)
bytes_word8 (a ∷ b ∷ c ∷ d ∷ i ∷ []) h e = absurd (omega arith)
bytes_word8 (a ∷ b ∷ c ∷ d ∷ i ∷ j ∷ []) h e = absurd (omega arith)
bytes_word8 (a ∷ b ∷ c ∷ d ∷ i ∷ j ∷ k ∷ []) h e = absurd (omega arith)
bytes_word8 (a ∷ b ∷ c ∷ d ∷ i ∷ j ∷ k ∷ l ∷ rest) h (pa, (pb, (pc, (pd, (pi, (pj, (pk, (pl, e)))))))) =
    let w : word8 (a ∷ b ∷ c ∷ d ∷ i ∷ j ∷ k ∷ l ∷ rest) ≡ value 0 (a ∷ b ∷ c ∷ d ∷ i ∷ j ∷ k ∷ l ∷ []) = omega arith in
    ap (λ (xs : List ℕ). xs ++ rest) (sym (ap (in_bytes 8) w ∙ value_bytes (a ∷ b ∷ c ∷ d ∷ i ∷ j ∷ k ∷ l ∷ []) 8 0 0 refl (pa, (pb, (pc, (pd, (pi, (pj, (pk, (pl, tt))))))))))

-- the number that bytes make fits as many bits
front : (bs : List ℕ) (i : ℕ) → AllByRecursion Byte bs → get_or bs i 0 < 256
front [] i e = omega arith
front (b ∷ bs) zero e = e.0
front (b ∷ bs) (suc i) e = front bs i e.1

pub word2_fits : (bs : List ℕ) → AllByRecursion Byte bs → word2 bs < 2 ^ 16
word2_fits bs e = omega (arith, front bs 0 e, front bs 1 e)

pub word4_fits : (bs : List ℕ) → AllByRecursion Byte bs → word4 bs < 2 ^ 32
word4_fits bs e = omega (arith, front bs 0 e, front bs 1 e, front bs 2 e, front bs 3 e)

pub word8_fits : (bs : List ℕ) → AllByRecursion Byte bs → word8 bs < 2 ^ 64
word8_fits bs e = omega (arith, front bs 0 e, front bs 1 e, front bs 2 e, front bs 3 e, front bs 4 e, front bs 5 e, front bs 6 e, front bs 7 e)
