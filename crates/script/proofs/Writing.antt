-- Written commands read back.
use Rattle.std.proofs.Common.{◌≡◌, ℕ, ◌^◌, ◌<◌, ◌≤◌, Bool, true, false, List, [], ◌∷◌, map, length, get_or, Some, decimal, refl, ap, ◌∙◌, arith}
use Rattle.std.specs.Option.{option_map, option_and_then}
use Rattle.std.specs.List.{AllByRecursion, AllZip}
use Rattle.std.proofs.lemmas.Bool.{cond-true, le-leb}
use Rattle.costs.specs.Names.{letter_of}
use Rattle.costs.specs.declared.kind_name.KindName.{KindName}
use Rattle.costs.specs.declared.kind_name.KindName.TheVariants.{Points, Severity, Rank}
use Rattle.board.specs.declared.row.Row.{Row}
use Rattle.board.specs.declared.row.RowKind.{RowKind}
use Rattle.board.specs.declared.row.RowKind.TheVariants.{Plain as PlainRow, Open, Close, End}
use Rattle.board.specs.Rows.{kind_number, kind_of_number}
use Rattle.hex.specs.Hex.{decode_pairs}
use Rattle.words.specs.Hex.{written_u16}
use Rattle.words.specs.Numbers.{number_before, numbers_of}
use Rattle.words.specs.Pieces.{spacing, pieces_of, NoSeparator}
use Rattle.words.specs.Laws.{WordsCutAndReadBack}
use Rattle.script.specs.Commands.{Command, kind, size, row, line, reprice_row, reprice_line, clear, load, settle, reopen, cost, path, between, check}
use Rattle.script.specs.Forms.{longest_list, two_wide, row_number_limits, line_number_limits, kind_word, two_numbers_command, row_from, line_from, load_command}
use Rattle.script.specs.Names.{spells}
use Rattle.script.specs.Repeats.{repeat_of, repeat_from, split_repeat, repeat_before, repeats_of, not_too_long, check_command}
use Rattle.script.specs.Script.{command, command_parsed, words_parsed}
use Rattle.script.specs.Written.{file_words, row_numbers, line_numbers, name_word, words_after, written_line, Fits, CommandsReadBack}
use Rattle.script.proofs.Unreserved.{Unreserved, is_unreserved, reserved, point, star, fewer, no_star, unreserved_decimal, unreserved_bytes, unreserved_u16, unreserved_text, unreserved_letter, no_point, spaced_pieces, line_without}
use Rattle.script.proofs.Again.{said_again}
use Rattle.script.proofs.Arrows.{line_alone, line_answered, no_star_split}

-- as many numbers as limits, each at most its limit: of lists that are written out, what `Within` says
abbrev UpTo : List ℕ → List ℕ → Type 0
UpTo limits ns = AllZip (λ limit n. n ≤ limit) limits ns

-- numbers and moves
module _ (laws : WordsCutAndReadBack) where
  -- decimal numbers
  numbers_back : (limits ns : List ℕ) → AllByRecursion (λ m. m < 2 ^ 64) limits → UpTo limits ns → numbers_of limits (map decimal ns) ≡ Some ns
  numbers_back [] [] wide fits = refl
  numbers_back [] (n ∷ ns) wide fits = absurd fits
  numbers_back (m ∷ ms) [] wide fits = absurd fits
  numbers_back (m ∷ ms) (n ∷ ns) wide fits =
      ap (λ o. number_before o (numbers_of ms (map decimal ns))) (laws.numbers_back m wide.0 n fits.0)
      ∙ ap (number_before (Some n)) (numbers_back ms ns wide.1 fits.1)

  unreserved_decimals : (limits ns : List ℕ) → AllByRecursion (λ m. m < 2 ^ 64) limits → UpTo limits ns → AllByRecursion Unreserved (map decimal ns)
  unreserved_decimals [] [] wide fits = tt
  unreserved_decimals [] (n ∷ ns) wide fits = absurd fits
  unreserved_decimals (m ∷ ms) [] wide fits = absurd fits
  unreserved_decimals (m ∷ ms) (n ∷ ns) wide fits = (unreserved_decimal laws n (omega (arith, wide.0, fits.0)), unreserved_decimals ms ns wide.1 fits.1)

  -- packed moves
  repeat_back : (n : ℕ) → n < 2 ^ 16 → repeat_of (written_u16 n) ≡ Some (record { number = n; times = 1 })
  repeat_back n small =
      ap (split_repeat (written_u16 n)) (no_star_split (written_u16 n) (fewer reserved star no_star (written_u16 n) (unreserved_u16 n small).1))
      ∙ ap (λ o. repeat_from o (Some 1)) (laws.hex_back n small)

  repeats_back : (ms : List ℕ) → AllByRecursion (λ m. m < 2 ^ 16) ms → repeats_of (map written_u16 ms) ≡ Some ms
  repeats_back [] small = refl
  repeats_back (m ∷ ms) small =
      ap (λ o. repeat_before o (repeats_of (map written_u16 ms))) (repeat_back m small.0) ∙ ap (repeat_before (Some (record { number = m; times = 1 }))) (repeats_back ms small.1)

  unreserved_moves : (ms : List ℕ) → AllByRecursion (λ m. m < 2 ^ 16) ms → AllByRecursion Unreserved (map written_u16 ms)
  unreserved_moves [] small = tt
  unreserved_moves (m ∷ ms) small = (unreserved_u16 m small.0, unreserved_moves ms small.1)

-- the limits are numbers of 64 bits
two_wide_fit : AllByRecursion (λ m. m < 2 ^ 64) two_wide
two_wide_fit = (omega arith, (omega arith, tt))

row_number_limits_fit : AllByRecursion (λ m. m < 2 ^ 64) row_number_limits
row_number_limits_fit = (omega arith, (omega arith, (omega arith, (omega arith, (omega arith, (omega arith, tt))))))

line_number_limits_fit : AllByRecursion (λ m. m < 2 ^ 64) line_number_limits
line_number_limits_fit = (omega arith, (omega arith, (omega arith, (omega arith, tt))))

longest_fits : AllByRecursion (λ m. m < 2 ^ 64) (longest_list ∷ [])
longest_fits = (omega arith, tt)

-- the words of a command are unreserved
unreserved_names : (c : Command) → is_unreserved (name_word c) ≡ true
unreserved_names (kind k) = refl
unreserved_names (size m t) = refl
unreserved_names (row r) = refl
unreserved_names (line l) = refl
unreserved_names (reprice_row i c) = refl
unreserved_names (reprice_line i c) = refl
unreserved_names clear = refl
unreserved_names (load bs) = refl
unreserved_names settle = refl
unreserved_names reopen = refl
unreserved_names cost = refl
unreserved_names (path n) = refl
unreserved_names (between s q) = refl
unreserved_names (check ms) = refl

pub unreserved_name : (c : Command) → Unreserved (name_word c)
unreserved_name c = unreserved_text (name_word c) (unreserved_names c)

module _ (laws : WordsCutAndReadBack) where
  unreserved_file : (bs : List ℕ) → AllByRecursion (λ b. b < 2 ^ 8) bs → AllByRecursion Unreserved (file_words bs)
  unreserved_file [] small = tt
  unreserved_file (b ∷ bs) small = (unreserved_bytes b bs small, tt)

  pub unreserved_words : (c : Command) → Fits c → AllByRecursion Unreserved (words_after c)
  unreserved_words (kind k) fits = (unreserved_letter k, tt)
  unreserved_words (size m t) fits = unreserved_decimals laws two_wide (m ∷ t ∷ []) two_wide_fit fits
  unreserved_words (row r) fits = unreserved_decimals laws row_number_limits (row_numbers r) row_number_limits_fit fits
  unreserved_words (line l) fits = unreserved_decimals laws line_number_limits (line_numbers l) line_number_limits_fit fits
  unreserved_words (reprice_row i c) fits = unreserved_decimals laws two_wide (i ∷ c ∷ []) two_wide_fit fits
  unreserved_words (reprice_line i c) fits = unreserved_decimals laws two_wide (i ∷ c ∷ []) two_wide_fit fits
  unreserved_words clear fits = tt
  unreserved_words (load bs) fits = unreserved_file bs fits
  unreserved_words settle fits = tt
  unreserved_words reopen fits = tt
  unreserved_words cost fits = tt
  unreserved_words (path n) fits = unreserved_decimals laws (longest_list ∷ []) (n ∷ []) longest_fits (fits, tt)
  unreserved_words (between s q) fits = unreserved_decimals laws two_wide (s ∷ q ∷ []) two_wide_fit fits
  unreserved_words (check ms) fits = unreserved_moves laws ms fits.0

-- they say the command
says_kind : (k : KindName) → kind_word (letter_of k ∷ []) ≡ Some (kind k)
says_kind Points = refl
says_kind Severity = refl
says_kind Rank = refl

-- a kind of row is told by its number
kind_back : (k : RowKind) → kind_of_number (kind_number k) ≡ Some k
kind_back PlainRow = refl
kind_back Open = refl
kind_back Close = refl
kind_back End = refl

abbrev with_kind : Row → RowKind → Command
with_kind r k = row record { kind = k; from = r.from; to = r.to; label = r.label; action = r.action; cost = r.cost }

module _ (laws : WordsCutAndReadBack) where
  says_two : (make : ℕ → ℕ → Command) (a b : ℕ) → UpTo two_wide (a ∷ b ∷ []) → two_numbers_command make (map decimal (a ∷ b ∷ [])) ≡ Some (make a b)
  says_two make a b fits = ap (option_map (λ ns. make (get_or ns 0 0) (get_or ns 1 0))) (numbers_back laws two_wide (a ∷ b ∷ []) two_wide_fit fits)

  says_file : (bs : List ℕ) → AllByRecursion (λ b. b < 2 ^ 8) bs → load_command (file_words bs) ≡ Some (load bs)
  unfolding decode_pairs
  says_file [] small = refl
  says_file (b ∷ bs) small = ap (option_map load) (laws.bytes_back (b ∷ bs) small)

  says_moves : (ms : List ℕ) → AllByRecursion (λ m. m < 2 ^ 16) ms → length ms ≤ longest_list → check_command (map written_u16 ms) ≡ Some (check ms)
  says_moves ms small short =
      ap (λ o. option_map check (not_too_long o)) (repeats_back laws ms small) ∙ ap (option_map check) (cond-true _ _ _ (le-leb (length ms) longest_list short))

  says : (c : Command) → Fits c → words_parsed (name_word c ∷ words_after c) ≡ command c
  unfolding spells
  says (kind k) fits = ap command_parsed (says_kind k)
  says (size m t) fits = ap command_parsed (says_two size m t fits)
  says (row r) fits = ap (λ o. command_parsed (option_and_then row_from o)) (numbers_back laws row_number_limits (row_numbers r) row_number_limits_fit fits) ∙ ap (λ o. command_parsed (option_map (with_kind r) o)) (kind_back r.kind)
  says (line l) fits = ap (λ o. command_parsed (option_map line_from o)) (numbers_back laws line_number_limits (line_numbers l) line_number_limits_fit fits)
  says (reprice_row i c) fits = ap command_parsed (says_two reprice_row i c fits)
  says (reprice_line i c) fits = ap command_parsed (says_two reprice_line i c fits)
  says clear fits = refl
  says (load bs) fits = ap command_parsed (says_file bs fits)
  says settle fits = refl
  says reopen fits = refl
  says cost fits = refl
  says (path n) fits = ap (λ o. command_parsed (option_map (λ ns. path (get_or ns 0 0)) o)) (numbers_back laws (longest_list ∷ []) (n ∷ []) longest_fits (fits, tt))
  says (between s q) fits = ap command_parsed (says_two between s q fits)
  says (check ms) fits = ap command_parsed (says_moves ms fits.0 fits.1)

  -- no byte of a written command is one that no word has, but for a space
  pub written_without : (also : ℕ → Bool) → ((b : ℕ) → reserved b ≡ false → also b ≡ false) → also 32 ≡ false → (c : Command) → Fits c → NoSeparator also (written_line c)
  written_without also rules space c fits = line_without laws also rules space (name_word c) (words_after c) (unreserved_name c) (unreserved_words laws c fits)

  pub unpointed : (c : Command) → Fits c → NoSeparator point (written_line c)
  unpointed c fits = written_without point no_point refl c fits

  pieces : (c : Command) → Fits c → pieces_of spacing (written_line c) ≡ name_word c ∷ words_after c
  pieces c fits = spaced_pieces laws (name_word c) (words_after c) (unreserved_name c) (unreserved_words laws c fits)

  pub reads_written : CommandsReadBack
  reads_written = record {
    alone = λ c fits. line_alone laws (written_line c) (unpointed c fits) ∙ ap words_parsed (pieces c fits) ∙ says c fits;
    answered = λ c fits answer. line_answered laws (written_line c) answer (unpointed c fits) ∙ ap words_parsed (pieces c fits) ∙ says c fits;
    again = said_again laws;
  }
