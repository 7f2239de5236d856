-- What a script of commands prints: each command, and its answer after the calls before it.
use Rattle.std.proofs.Common.{◌≡◌, ℕ, List, [], ◌∷◌, ◌++◌, map, Some, None, codes, Option, sym, refl, ap, ap₂, ◌∙◌, append_assoc, append-nil}
use Rattle.std.specs.Char.{is_newline}
use Rattle.std.specs.List.{AllByRecursion}
use Rattle.std.proofs.lemmas.List.{map-append}
use Rattle.costs.specs.declared.kind_name.KindName.{KindName}
use Rattle.costs.specs.Names.{meaning_of}
use Rattle.board.specs.Content.{new}
use Rattle.file.specs.declared.call.Call.{Call}
use Rattle.file.specs.States.{State, draft, stepped, state_from, state_after}
use Rattle.words.specs.Pieces.{pieces_of}
use Rattle.words.specs.Laws.{WordsCutAndReadBack}
use Rattle.script.specs.Commands.{Command, kind, on_board}
use Rattle.script.specs.Script.{script_part_of, line_parsed, LineParsed}
use Rattle.script.specs.Written.{written_line, Fits}
use Rattle.script.specs.Printing.{SessionState, buffer_of, answer_text, made_text, made_state, command_text, line_text, after_line, printed_from, printed, script_of, answered_line, PrintsAnswers}
use Rattle.script.proofs.Writing.{reads_written}
use Rattle.script.proofs.Lines.{whole_line, line_first, lines_cut}
use Rattle.script.proofs.Printing.{board_command}

-- lines one after another
abbrev after_lines : Option SessionState → List (List ℕ) → Option SessionState
after_lines s [] = s
after_lines s (l ∷ ls) = after_lines (after_line s (line_parsed l)) ls

printed_on : (s : Option SessionState) (xs ys : List (List ℕ)) → printed_from s (xs ++ ys) ≡ printed_from s xs ++ printed_from (after_lines s xs) ys
printed_on s [] ys = refl
printed_on s (l ∷ ls) ys =
    let first = line_text s (script_part_of l) (line_parsed l) in
    let next = after_line s (line_parsed l) in
    ap (λ (t : List ℕ). first ++ t) (printed_on next ls ys) ∙ sym (append_assoc first (printed_from next ls) (printed_from (after_lines next ls) ys))

-- a board of the kind in that state
abbrev at : KindName → State → Option SessionState
at k s = Some (record { kind = k; state = s })

-- lines of commands
module _ (laws : WordsCutAndReadBack) where
  -- the line of a command
  command_line : (s : Option SessionState) (c : Command) → Fits c → line_text s (script_part_of (written_line c)) (line_parsed (written_line c)) ≡ written_line c ++ (command_text s c ++ codes "\n")
  command_line s c fits = ap₂ (line_text s) (whole_line laws c fits) ((reads_written laws).alone c fits)

  -- the board after calls
  module _ (k : KindName) where
    commands_after : (s : State) (cs : List Command) (xs : List Call) → AllByRecursion Fits cs → map on_board cs ≡ map Some xs → after_lines (at k s) (map written_line cs) ≡ at k (state_from (meaning_of k) s xs)
    commands_after s [] [] fits e = refl
    commands_after s [] (x ∷ xs) fits e = absurd cc
    commands_after s (c ∷ cs) [] fits e = absurd cc
    commands_after s (c ∷ cs) (x ∷ xs) fits e =
        let here : on_board c ≡ Some x = cc in
        let there : map on_board cs ≡ map Some xs = cc in
        let next = ap (after_line (at k s)) ((reads_written laws).alone c fits.0) ∙ (board_command (at k s) c x here).1 ∙ ap (λ (o : Option Call). at k (made_state (meaning_of k) s o)) here in
        ap (λ (t : Option SessionState). after_lines t (map written_line cs)) next ∙ commands_after (stepped (meaning_of k) s x) cs xs fits.1 there

    -- what is printed from a line on that names the kind
    kind_line : (s : Option SessionState) (rest : List ℕ) → printed_from s (pieces_of is_newline (written_line (kind k) ++ (codes "\n" ++ rest))) ≡ (written_line (kind k) ++ codes "\n") ++ printed_from (at k (draft new)) (pieces_of is_newline rest)
    kind_line s rest =
        ap (printed_from s) (line_first laws (kind k) tt rest)
        ∙ ap₂ (λ (t : List ℕ) (p : LineParsed). t ++ printed_from (after_line s p) (pieces_of is_newline rest)) (command_line s (kind k) tt) ((reads_written laws).alone (kind k) tt)

    -- a script that names the kind first
    named_first : (cs : List Command) → AllByRecursion Fits cs → printed (script_of (kind k ∷ cs)) ≡ (written_line (kind k) ++ codes "\n") ++ printed_from (at k (draft new)) (map written_line cs)
    named_first cs fits = ap printed (append_assoc (written_line (kind k)) (codes "\n") (script_of cs)) ∙ kind_line None (script_of cs) ∙ ap (λ (ls : List (List ℕ)). (written_line (kind k) ++ codes "\n") ++ printed_from (at k (draft new)) ls) (lines_cut laws cs fits)

fits_on : (cs : List Command) (c : Command) → AllByRecursion Fits cs → Fits c → AllByRecursion Fits (cs ++ (c ∷ []))
fits_on [] c fits last = (last, tt)
fits_on (b ∷ cs) c fits last = (fits.0, fits_on cs c fits.1 last)

pub prints_answers : WordsCutAndReadBack → PrintsAnswers
prints_answers laws = record {
  begins = λ k. named_first laws k [] tt;
  one_more = λ k before xs c x fits same last is.
      let m = meaning_of k in
      let first = written_line (kind k) ++ codes "\n" in
      let from = at k (draft new) in
      let after = at k (state_after m xs) in
      let lines = printed_from from (map written_line before) in
      let answer = answer_text m (state_after m xs) x (buffer_of c) in
      let line : printed_from after (written_line c ∷ []) ≡ answered_line c answer =
      append-nil _
      ∙ command_line laws after c last
      ∙ ap (λ (t : List ℕ). written_line c ++ (t ++ codes "\n")) ((board_command after c x is).0 ∙ ap (λ (o : Option Call). codes " -> " ++ made_text m (state_after m xs) o (buffer_of c)) is)
      ∙ ap (λ (t : List ℕ). written_line c ++ t) (append_assoc (codes " -> ") answer (codes "\n")) in
      named_first laws k (before ++ (c ∷ [])) (fits_on before c fits last)
      ∙ ap (λ (ls : List (List ℕ)). first ++ printed_from from ls) (map-append written_line before (c ∷ []))
      ∙ ap (λ (t : List ℕ). first ++ t) (printed_on from (map written_line before) (written_line c ∷ []))
      ∙ ap (λ (s : Option SessionState). first ++ (lines ++ printed_from s (written_line c ∷ []))) (commands_after laws k (draft new) before xs fits same)
      ∙ ap (λ (t : List ℕ). first ++ (lines ++ t)) line
      ∙ sym (append_assoc first lines (answered_line c answer))
      ∙ ap (λ (t : List ℕ). t ++ answered_line c answer) (sym (named_first laws k before fits));
  anew = λ k before rest.
      let lines = pieces_of is_newline before in
      ap (printed_from None) ((laws.cuts is_newline).apart before 10 (written_line (kind k) ++ (codes "\n" ++ rest)) refl)
      ∙ printed_on None lines (pieces_of is_newline (written_line (kind k) ++ (codes "\n" ++ rest)))
      ∙ ap (λ (t : List ℕ). printed before ++ t) (kind_line laws k (after_lines None lines) rest ∙ sym (kind_line laws k None rest));
}
