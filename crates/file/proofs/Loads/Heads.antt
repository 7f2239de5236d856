-- A section's head, its part and what is left after it, against the layout.
use Rattle.std.proofs.Common.{◌≡◌, ℕ, ◌+◌, ◌<◌, ◌≤◌, ◌⊎◌, List, ◌++◌, length, take, drop, sym, ap, ◌∙◌, subst, inl, inr, arith, take-append-drop, take_at, drop_at}
use Rattle.std.proofs.lemmas.List.{length-drop}
use Rattle.std.proofs.lemmas.Bool.{cases_eq, cases_lt}
use Rattle.std.specs.List.{AllByRecursion}
use Rattle.file.specs.Fields.{field, word2, head_code, head_count}
use Rattle.file.specs.Parts.{PartRead}
use Rattle.file.specs.Sections.{past}
use Rattle.file.specs.Layout.{in_bytes, head_word, Byte, Count}
use Rattle.file.proofs.Loads.Bytes.{word2_bytes, bytes_word2, word2_fits}
use Rattle.file.proofs.Loads.Words.{head_word_fits, head_word_code, head_word_count, head_read_word}

-- the head of a section of that code comes next, or not
pub next_or_not : (code : ℕ) (bs : List ℕ) → ((2 ≤ length bs) × (head_code bs ≡ code)) ⊎ ((length bs < 2) ⊎ (head_code bs ≡ code → ⊥))
next_or_not code bs =
    elim (cases_lt (length bs) 2) [
      | inl short ↦ inr (inl short)
      | inr long ↦ elim (cases_eq (head_code bs) code) [
        | inl is ↦ inl (long, is)
        | inr other ↦ inr (inr other)
      ]
    ]

-- what is left ends where the file ends
pub past_ends : (p : PartRead) → 2 ≤ length p.bytes → (past p).place + length (past p).bytes ≡ p.place + length p.bytes
past_ends p long = simp length-drop (omega arith)

-- a section as it is laid out: its head, so many bytes of body, and the rest
pub record HeadAt (bs : List ℕ) (code n size : ℕ) (body rest : List ℕ) : Type 0 where
  pub long : 2 ≤ length bs
  pub its_code : head_code bs ≡ code
  pub its_count : head_count bs ≡ n
  pub its_body : take size (drop 2 bs) ≡ body
  pub its_rest : drop size (drop 2 bs) ≡ rest

pub head_at : (bs : List ℕ) (code n size : ℕ) (body rest : List ℕ) → code < 16 → Count n → length body ≡ size → bs ≡ in_bytes 2 (head_word code n) ++ (body ++ rest) → HeadAt bs code n size body rest
head_at bs code n size body rest small few long laid =
    let w = word2_bytes (head_word code n) (body ++ rest) (head_word_fits code n small few) in
    subst (λ (xs : List ℕ). HeadAt xs code n size body rest) (sym laid) (
    record {
      long = omega arith;
      its_code = ap (λ (v : ℕ). field v 12 4) w ∙ head_word_code code n small few;
      its_count = ap (λ (v : ℕ). field v 0 12) w ∙ head_word_count code n small few;
      its_body = take_at body rest size long;
      its_rest = drop_at body rest size long;
    }
    )

-- and such a layout read back
pub laid_head : (bs : List ℕ) (code n : ℕ) → 2 ≤ length bs → AllByRecursion Byte bs → head_code bs ≡ code → n ≡ head_count bs → bs ≡ in_bytes 2 (head_word code n) ++ drop 2 bs
laid_head bs code n long e is count =
    let w = word2 bs in
    let made : head_word code n ≡ w = ap (λ (k : ℕ). head_word code k) count ∙ (ap (λ (k : ℕ). head_word k (head_count bs)) (sym is) ∙ head_read_word w (word2_fits bs e)) in
    bytes_word2 bs long e ∙ ap (λ (k : ℕ). in_bytes 2 k ++ drop 2 bs) (sym made)

pub laid_section : (bs : List ℕ) (code n size : ℕ) (body : List ℕ) → 2 ≤ length bs → AllByRecursion Byte bs → head_code bs ≡ code → n ≡ head_count bs → take size (drop 2 bs) ≡ body → bs ≡ in_bytes 2 (head_word code n) ++ (body ++ drop size (drop 2 bs))
laid_section bs code n size body long e is count whole =
    let split : drop 2 bs ≡ body ++ drop size (drop 2 bs) = sym (take-append-drop size (drop 2 bs)) ∙ ap (λ (xs : List ℕ). xs ++ drop size (drop 2 bs)) whole in
    laid_head bs code n long e is count ∙ ap (λ (xs : List ℕ). in_bytes 2 (head_word code n) ++ xs) split
