-- Repeated moves added one after another.
use Rattle.std.proofs.Common.{◌≡◌, ℕ, ◌+◌, ◌-◌, ◌<◌, List, [], ◌++◌, length, get_or, take, drop, replicate, Some, None, Option, Bor, sym, refl, ap, ◌∙◌, arith, map, ◌∷◌}
use Rattle.std.proofs.lemmas.List.{append_assoc, length-append, length-map, length-replicate, get_or-map, drop_more, take_all}
use Rattle.std.proofs.lemmas.Bool.{cond-false, lt-leb}
use Rattle.script.specs.Forms.{longest_list}
use Rattle.script.specs.Repeats.{repeat_of, repeat_moves, repeat_before, repeats_of, not_too_long}
use Rattle.script.specs.declared.check.Repeat.{Repeat}

-- a list filled up to a greater length
pub filled : (xs : List ℕ) (n m k x : ℕ) → n ≡ length xs + k → m ≡ length xs → take n xs ++ replicate (n - m) x ≡ xs ++ replicate k x
filled xs n m k x longer whole =
    ap (λ l. l ++ replicate (n - m) x) (take_all n xs (omega (arith, longer))) ∙ ap (λ i. xs ++ replicate i x) (omega (arith, longer, whole))

-- numbers that were added, before what follows them
abbrev pub after : List ℕ → Option (List ℕ) → Option (List ℕ)
after xs None = None
after xs (Some ys) = Some (xs ++ ys)

one_repeat : (xs : List ℕ) (r : Repeat) (o : Option (List ℕ)) → after (xs ++ repeat_moves r) o ≡ after xs (repeat_before (Some r) o)
one_repeat xs r None = refl
one_repeat xs r (Some ys) = ap Some (append_assoc xs (repeat_moves r) ys)

too_long : (xs : List ℕ) (o : Option (List ℕ)) → longest_list < length xs → not_too_long (after xs o) ≡ None
too_long xs None long = refl
too_long xs (Some ys) long = cond-false _ _ _ (lt-leb (length (xs ++ ys)) longest_list (omega (arith, length-append xs ys)))

-- what is left of the words
module _ (words : List (Bor (List ℕ))) (i : ℕ) (within : i < length words) (d : Bor (List ℕ)) (xs : List ℕ) where
  abbrev left : ℕ → List (List ℕ)
  left k = drop k (map (λ x. x.now) words)

  here : left i ≡ (get_or words i d).now ∷ left (i + 1)
  here =
      drop_more (map (λ x. x.now) words) i [] (omega (arith, within, length-map words (λ x. x.now)))
      ∙ ap (λ w. w ∷ left (i + 1)) (get_or-map (λ x. x.now) words i d [] within)

  pub repeat_next : (r : Repeat) → repeat_of (get_or words i d).now ≡ Some r → not_too_long (after (xs ++ repeat_moves r) (repeats_of (left (i + 1)))) ≡ not_too_long (after xs (repeats_of (left i)))
  repeat_next r e =
      ap not_too_long (one_repeat xs r (repeats_of (left (i + 1))) ∙ ap (λ o. after xs (repeat_before o (repeats_of (left (i + 1))))) (sym e))
      ∙ sym (ap (λ vs. not_too_long (after xs (repeats_of vs))) here)

  pub repeat_stop : repeat_of (get_or words i d).now ≡ None → not_too_long (after xs (repeats_of (left i))) ≡ None
  repeat_stop e = ap (λ vs. not_too_long (after xs (repeats_of vs))) here ∙ ap (λ o. not_too_long (after xs (repeat_before o (repeats_of (left (i + 1)))))) e

  pub repeat_too_long : (r : Repeat) → repeat_of (get_or words i d).now ≡ Some r → longest_list < length xs + r.times → not_too_long (after xs (repeats_of (left i))) ≡ None
  repeat_too_long r e long =
      sym (repeat_next r e)
      ∙ too_long (xs ++ repeat_moves r) (repeats_of (left (i + 1))) (omega (arith, long, length-append xs (repeat_moves r), length-replicate r.times r.number))
