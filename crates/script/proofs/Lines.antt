-- Commands as lines of a script: how they are cut apart, and that nothing of a line is left away.
use Rattle.std.proofs.Common.{◌≡◌, ℕ, ◌<◌, Bool, List, [], ◌∷◌, ◌++◌, map, length, reverse, codes, Option, sym, refl, ap, ◌∙◌, append_assoc, subst, length-append, arith}
use Rattle.std.specs.Char.{is_newline}
use Rattle.std.specs.List.{AllByRecursion}
use Rattle.std.proofs.lemmas.List.{reverse-append, reverse-reverse, length-reverse}
use Rattle.std.proofs.lemmas.Bool.{cond-false}
use Rattle.words.specs.Pieces.{spacing, pieces_of, NoSeparator}
use Rattle.words.specs.Trims.{without_front, without_back, trimmed_of}
use Rattle.words.specs.Laws.{WordsCutAndReadBack}
use Rattle.script.specs.Commands.{Command}
use Rattle.script.specs.Script.{before_split, script_part_of}
use Rattle.script.specs.Written.{spaced, name_word, words_after, written_line, Fits}
use Rattle.script.specs.Printing.{script_of}
use Rattle.script.proofs.Unreserved.{Unreserved, reserved, fewer, no_spacing, no_newline, one_piece, line_ends}
use Rattle.script.proofs.Arrows.{no_arrow_split}
use Rattle.script.proofs.Writing.{unreserved_name, unreserved_words, written_without, unpointed}

-- separators at neither end are none to take away
module _ (laws : WordsCutAndReadBack) (sep : ℕ → Bool) where
  front_kept : (w xs : List ℕ) → 0 < length w → NoSeparator sep w → without_front sep (w ++ xs) ≡ w ++ xs
  front_kept [] xs some free = absurd (omega (arith, some))
  front_kept (b ∷ w) xs some free = cond-false _ _ _ free.0

  turned_free : (w : List ℕ) → NoSeparator sep w → NoSeparator sep (reverse w)
  turned_free [] free = tt
  turned_free (b ∷ w) free = subst (NoSeparator sep) (sym (reverse-append (b ∷ []) w)) (laws.uncut sep (reverse w) (b ∷ []) (turned_free w free.1) (free.0, tt))

  back_kept : (xs w : List ℕ) → 0 < length w → NoSeparator sep w → without_back sep (xs ++ w) ≡ xs ++ w
  back_kept xs w some free =
      ap (λ l. reverse (without_front sep l)) (reverse-append xs w)
      ∙ ap reverse (front_kept (reverse w) (reverse xs) (omega (arith, some, length-reverse w)) (turned_free w free))
      ∙ ap reverse (sym (reverse-append xs w))
      ∙ reverse-reverse (xs ++ w)

-- lines of commands
module _ (laws : WordsCutAndReadBack) where
  -- a line of unreserved words is not trimmed
  line_kept : (w : List ℕ) (ws : List (List ℕ)) → Unreserved w → AllByRecursion Unreserved ws → trimmed_of spacing (w ++ spaced ws) ≡ w ++ spaced ws
  unfolding trimmed_of
  line_kept w ws free others =
      let e = line_ends w ws free others in
      ap (without_back spacing) (front_kept laws spacing w (spaced ws) free.0 (fewer reserved spacing no_spacing w free.1))
      ∙ ap (without_back spacing) e.is
      ∙ back_kept laws spacing e.front e.last e.free.0 (fewer reserved spacing no_spacing e.last e.free.1)
      ∙ sym e.is

  -- the whole line of a command is the script
  pub whole_line : (c : Command) → Fits c → script_part_of (written_line c) ≡ written_line c
  whole_line c fits =
      ap (λ (o : Option (List ℕ × List ℕ)). trimmed_of spacing (before_split (written_line c) o)) (no_arrow_split (written_line c) (unpointed laws c fits))
      ∙ line_kept (name_word c) (words_after c) (unreserved_name c) (unreserved_words laws c fits)

  -- a script is cut into the lines of its commands
  one_line : (c : Command) → Fits c → pieces_of is_newline (written_line c) ≡ written_line c ∷ []
  one_line c fits = one_piece laws is_newline (written_line c) (let h = (unreserved_name c).0 in omega (arith, h, length-append (name_word c) (spaced (words_after c)))) (written_without laws is_newline no_newline refl c fits)

  pub line_first : (c : Command) → Fits c → (rest : List ℕ) → pieces_of is_newline (written_line c ++ (codes "\n" ++ rest)) ≡ written_line c ∷ pieces_of is_newline rest
  line_first c fits rest = (laws.cuts is_newline).apart (written_line c) 10 rest refl ∙ ap (λ ps. ps ++ pieces_of is_newline rest) (one_line c fits)

  pub lines_cut : (cs : List Command) → AllByRecursion Fits cs → pieces_of is_newline (script_of cs) ≡ map written_line cs
  lines_cut [] fits = (laws.cuts is_newline).none
  lines_cut (c ∷ cs) fits = ap (pieces_of is_newline) (append_assoc (written_line c) (codes "\n") (script_of cs)) ∙ line_first c fits.0 (script_of cs) ∙ ap (λ ps. written_line c ∷ ps) (lines_cut cs fits.1)
