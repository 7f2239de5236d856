-- Reading the words of a line.
use Rattle.std.proofs.Common.{◌≡◌, ℕ, ◌+◌, ◌<◌, List, [], ◌∷◌, ◌++◌, length, get_or, drop, Some, None, Ok, Err, Option, Result, subst, sym, refl, ap, ◌∙◌, append_assoc}
use Rattle.std.specs.Option.{ok_or}
use Rattle.std.specs.Borrow.{Bor}
use Rattle.std.proofs.lemmas.List.{drop_more}
use Rattle.words.specs.Numbers.{u32_max, number_of}
use Rattle.price.specs.declared.answer.LineFault.{LineFault}
use Rattle.price.specs.declared.answer.LineFault.TheVariants.{Unreadable}
use Rattle.price.specs.Lines.{cost_before, read_costs}
use Rattle.price.specs.Unread.{FirstUnread}

-- numbers that were read, before what is read after them
abbrev pub after : List ℕ → Result (List ℕ) (List ℕ) → Result (List ℕ) (List ℕ)
after ns (Ok ms) = Ok (ns ++ ms)
after ns (Err w) = Err w

one_number : (ns : List ℕ) (w : List ℕ) (n : ℕ) (rest : Result (List ℕ) (List ℕ)) → after (ns ++ (n ∷ [])) rest ≡ after ns (cost_before w (Some n) rest)
one_number ns w n (Ok ms) = ap Ok (append_assoc ns (n ∷ []) ms)
one_number ns w n (Err v) = refl

-- one word of the list
module _ (ws : List (List ℕ)) (i : ℕ) (within : i < length ws) (ns : List ℕ) where
  pub number_next : (n : ℕ) → number_of u32_max (get_or ws i []) ≡ Some n → after (ns ++ (n ∷ [])) (read_costs (drop (i + 1) ws)) ≡ after ns (read_costs (drop i ws))
  number_next n e =
      one_number ns (get_or ws i []) n (read_costs (drop (i + 1) ws))
      ∙ ap (λ o. after ns (cost_before (get_or ws i []) o (read_costs (drop (i + 1) ws)))) (sym e)
      ∙ sym (ap (λ vs. after ns (read_costs vs)) (drop_more ws i [] within))

  pub number_stop : number_of u32_max (get_or ws i []) ≡ None → after ns (read_costs (drop i ws)) ≡ Err (get_or ws i [])
  number_stop e =
      ap (λ vs. after ns (read_costs vs)) (drop_more ws i [] within)
      ∙ ap (λ o. after ns (cost_before (get_or ws i []) o (read_costs (drop (i + 1) ws)))) e

-- the word that is no number, as a fault
pub unread : (ws : List (List ℕ)) (w : Bor (List ℕ)) (o : Option ℕ) (f : LineFault) → o ≡ None → read_costs ws ≡ Err w.now → Err f ≡ ok_or o (Unreadable w) → FirstUnread ws f
unread ws w None f none stop e = let same : f ≡ Unreadable w = cc in subst (FirstUnread ws) (sym same) stop
unread ws w (Some n) f none stop e = absurd cc
