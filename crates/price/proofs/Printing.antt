-- Adding to what is printed.
use Rattle.std.proofs.Common.{◌≡◌, ℕ, ◌+◌, ◌<◌, List, [], ◌∷◌, ◌++◌, length, get_or, drop, Some, None, Option, IfSome, IsSomeAnd, sym, refl, ap, ◌∙◌, append_assoc, append-nil}
use Rattle.std.specs.Char.{is_newline}
use Rattle.std.specs.List.{flat_map}
use Rattle.std.proofs.lemmas.List.{drop_more}
use Rattle.words.specs.Pieces.{pieces_of, NoSeparator}
use Rattle.price.specs.Lines.{LineAnswer, line_answer}
use Rattle.price.specs.Printed.{answer_printed, line_printed, input_printed, LineByLine}
use Rattle.words.specs.Laws.{WordsCutAndReadBack}

-- what was printed of an outcome that is the line's answer
pub appended : (out new line : List ℕ) (o : Option LineAnswer) → IfSome o (λ a. a ≡ line_answer line) → IsSomeAnd o (λ a. new ≡ out ++ answer_printed a) → new ≡ out ++ line_printed line
appended out new line None is made = absurd made
appended out new line (Some a) is made = made ∙ ap (λ b. out ++ answer_printed b) is

-- one line more
module _ (lines : List (List ℕ)) (i : ℕ) (out : List ℕ) where
  pub line_next : i < length lines → (out ++ line_printed (get_or lines i [])) ++ flat_map line_printed (drop (i + 1) lines) ≡ out ++ flat_map line_printed (drop i lines)
  line_next within =
      append_assoc out (line_printed (get_or lines i [])) (flat_map line_printed (drop (i + 1) lines))
      ∙ ap (λ ls. out ++ flat_map line_printed ls) (sym (drop_more lines i [] within))

-- the laws
joined_append : (xs ys : List (List ℕ)) → flat_map line_printed (xs ++ ys) ≡ flat_map line_printed xs ++ flat_map line_printed ys
joined_append [] ys = refl
joined_append (x ∷ xs) ys =
    ap (λ l. line_printed x ++ l) (joined_append xs ys) ∙ sym (append_assoc (line_printed x) (flat_map line_printed xs) (flat_map line_printed ys))

module _ (laws : WordsCutAndReadBack) where
  one_line : (line : List ℕ) → NoSeparator is_newline line → input_printed line ≡ line_printed line
  one_line [] uncut = refl
  one_line (b ∷ bs) uncut = ap (flat_map line_printed) ((laws.cuts is_newline).one b bs uncut) ∙ append-nil (line_printed (b ∷ bs))

  pub line_by_line : LineByLine
  line_by_line = record {
    one = one_line;
    apart = λ xs ys. ap (flat_map line_printed) ((laws.cuts is_newline).apart xs 10 ys refl) ∙ joined_append (pieces_of is_newline xs) (pieces_of is_newline ys);
  }
