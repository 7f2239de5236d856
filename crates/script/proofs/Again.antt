-- A line that says a command has no '>', so the command is said again where an answer stands behind it.
use Rattle.std.proofs.Common.{◌≡◌, ℕ, Bool, true, false, cond, List, [], ◌∷◌, ◌++◌, get_or, Some, None, Ok, Err, codes, Option, Result, sym, refl, ap, ◌∙◌, subst, ⊎_elim, arith}
use Rattle.std.specs.Str.{all_ascii_digits}
use Rattle.std.specs.List.{filter, onto_first, AllByRecursion}
use Rattle.std.specs.Option.{option_map}
use Rattle.std.proofs.lemmas.Option.{cond_some, option_and_then_some}
use Rattle.std.proofs.lemmas.Bool.{cases_Bool, eqb-true, cond-false, and_parts}
use Rattle.std.proofs.lemmas.Bool.Decides.{nat_tests}
use Rattle.std.specs.Result.{result_ok}
use Rattle.std.proofs.lemmas.List.Elements.{recursion_from_All}
use Rattle.std.proofs.lemmas.List.Splits.{slice_split-cons_yes, slice_split-cons_no}
use Rattle.std.proofs.lemmas.Slice.Eq.{bytes_eq-Decides}
use Rattle.costs.specs.Names.{kind_by_letter}
use Rattle.hex.specs.Hex.{hex_digit_value, is_hex_digit, decode_of}
use Rattle.hex.proofs.HexLemmas.{decode_of-ok}
use Rattle.words.specs.Hex.{then_digit, bytes_of, hex_on, hex_number_of}
use Rattle.words.specs.Numbers.{is_number, number_of, number_before, numbers_of}
use Rattle.words.specs.Pieces.{spacing, has_byte, pieces_of, NoSeparator}
use Rattle.words.specs.Splits.{split_of}
use Rattle.words.specs.Laws.{WordsCutAndReadBack}
use Rattle.script.specs.Commands.{Command, kind}
use Rattle.script.specs.declared.check.Repeat.{Repeat}
use Rattle.script.specs.declared.name.Name.{Name}
use Rattle.script.specs.declared.name.Name.TheVariants as name
use Rattle.script.specs.Forms.{alone_command, kind_command, two_wide, row_number_limits, row_from, row_command, line_number_limits, load_command, longest_list}
use Rattle.script.specs.Names.{spells, name_of}
use Rattle.script.specs.Repeats.{repeat_of, repeat_from, split_repeat, repeat_before, repeats_of, not_too_long, moves_of, check_command}
use Rattle.script.specs.Script.{command, skip, command_named, command_parsed, name_parsed, words_parsed, is_comment, line_parsed, script_part_of}
use Rattle.script.proofs.Unreserved.{point, reserved, fewer, no_point, is_unreserved, unreserved_text, free_digits}
use Rattle.script.proofs.Arrows.{line_answered}

-- words, and bytes, with no '>'
abbrev Free : List ℕ → Type 0
Free w = NoSeparator point w

abbrev AllFree : List (List ℕ) → Type 0
AllFree ws = AllByRecursion Free ws

-- a line is free where its words are
first_free : (x : ℕ) (parts : List (List ℕ)) → AllFree (filter has_byte (onto_first x parts)) → (point x ≡ false) × AllFree (filter has_byte parts)
first_free x [] all = (all.0.0, tt)
first_free x ([] ∷ parts) all = (all.0.0, all.1)
first_free x ((b ∷ part) ∷ parts) all = (all.0.0, (all.0.1, all.1))

spacing_free : (b : ℕ) → spacing b ≡ true → point b ≡ false
spacing_free b s = grind (arith, nat_tests)

pieces_free : (bs : List ℕ) → AllFree (pieces_of spacing bs) → Free bs
pieces_free [] all = tt
pieces_free (b ∷ bs) all = ⊎_elim
    (λ (s : spacing b ≡ true). (spacing_free b s, pieces_free bs (subst (λ ps. AllFree (filter has_byte ps)) (slice_split-cons_yes spacing b bs s) all)))
    (λ (n : spacing b ≡ false).
    let p = first_free b _ (subst (λ ps. AllFree (filter has_byte ps)) (slice_split-cons_no spacing b bs n) all) in
    (p.0, pieces_free bs p.1))
    (cases_Bool (spacing b))

-- decimal numbers
number_free : (limit : ℕ) (w : List ℕ) (n : ℕ) → number_of limit w ≡ Some n → Free w
unfolding number_of
number_free limit w n e =
    let is = (cond_some (is_number limit w) _ n e).0 in
    fewer reserved point no_point w (free_digits w (and_parts (all_ascii_digits w) _ (and_parts _ _ is).1).0)

before_some : (o : Option ℕ) (p : Option (List ℕ)) (ns : List ℕ) → number_before o p ≡ Some ns → (n : ℕ) × (o ≡ Some n) × (ks : List ℕ) × (p ≡ Some ks)
before_some None p ns e = absurd cc
before_some (Some n) None ns e = absurd cc
before_some (Some n) (Some ks) ns e = (n, refl, ks, refl)

numbers_free : (limits : List ℕ) (ws : List (List ℕ)) (ns : List ℕ) → numbers_of limits ws ≡ Some ns → AllFree ws
numbers_free [] [] ns e = tt
numbers_free [] (w ∷ ws) ns e = absurd cc
numbers_free (m ∷ ms) [] ns e = absurd cc
numbers_free (m ∷ ms) (w ∷ ws) ns e = let p = before_some _ _ ns e in (number_free m w p.0 p.1, numbers_free ms ws p.2 p.3)

-- a byte of which something is read that '>' is not
read_free : {A : Type 0} (read : ℕ → Option A) (b : ℕ) (y : A) → read 62 ≡ None → read b ≡ Some y → point b ≡ false
read_free read b y none some = ⊎_elim
    (λ (t : point b ≡ true). let z : None ≡ Some y = sym none ∙ ap read (sym (eqb-true b 62 t)) ∙ some in absurd cc)
    (λ (f : point b ≡ false). f)
    (cases_Bool (point b))

-- hexadecimal numbers
hex_free : (b v : ℕ) → hex_digit_value b ≡ Some v → point b ≡ false
hex_free b v e = read_free hex_digit_value b v refl e

then_some : (o d : Option ℕ) (n : ℕ) → then_digit o d ≡ Some n → (k : ℕ) × (o ≡ Some k) × (v : ℕ) × (d ≡ Some v)
then_some None d n e = absurd cc
then_some (Some k) None n e = absurd cc
then_some (Some k) (Some v) n e = (k, refl, v, refl)

hex_on_free : (o : Option ℕ) (w : List ℕ) (n : ℕ) → hex_on o w ≡ Some n → Free w × ((k : ℕ) × (o ≡ Some k))
hex_on_free o [] n e = (tt, (n, e))
hex_on_free o (b ∷ w) n e =
    let r = hex_on_free (then_digit o (hex_digit_value b)) w n e in
    let s = then_some o (hex_digit_value b) r.1.0 r.1.1 in
    ((hex_free b s.2 s.3, r.0), (s.0, s.1))

hex_number_free : (w : List ℕ) (n : ℕ) → hex_number_of w ≡ Some n → Free w
unfolding hex_number_of
hex_number_free w n e = (hex_on_free (Some 0) w n (on _ _ e)).0
  where
    on : (b : Bool) (o : Option ℕ) → cond b o None ≡ Some n → o ≡ Some n
    on true o h = h
    on false o h = absurd cc

decoded : {E : Type 0} (r : Result (List ℕ) E) (bs : List ℕ) → result_ok r ≡ Some bs → r ≡ Ok bs
decoded (Ok x) bs e = cc
decoded (Err x) bs e = absurd cc

digit_free : (b : ℕ) → is_hex_digit b ≡ true → point b ≡ false
digit_free b e = grind (arith, nat_tests)

bytes_free : (w bs : List ℕ) → bytes_of w ≡ Some bs → Free w
bytes_free w bs e =
    let digits = (decode_of-ok w bs (decoded (decode_of w) bs e)).1 in
    recursion_from_All (λ b. point b ≡ false) w (λ k d within. digit_free (get_or w k d) (digits k d within))

-- the words of check
repeat_some : (o p : Option ℕ) (r : Repeat) → repeat_from o p ≡ Some r → (n : ℕ) × (o ≡ Some n) × (k : ℕ) × (p ≡ Some k)
repeat_some None p r e = absurd cc
repeat_some (Some n) None r e = absurd cc
repeat_some (Some n) (Some k) r e = (n, refl, k, refl)

module _ (laws : WordsCutAndReadBack) where
  repeat_free : (w : List ℕ) (r : Repeat) → repeat_of w ≡ Some r → Free w
  repeat_free w r e = by (split_of (codes "*") w) refl e
    where
      by : (o : Option (List ℕ × List ℕ)) → split_of (codes "*") w ≡ o → split_repeat w o ≡ Some r → Free w
      by None at h = let s = repeat_some _ _ r h in hex_number_free w s.0 s.1
      by (Some p) at h =
          let s = repeat_some _ _ r h in
          subst Free (sym (laws.rejoins (codes "*") w p.0 p.1 at)) (laws.uncut point p.0 (codes "*" ++ p.1) (hex_number_free p.0 s.0 s.1) (refl, number_free _ p.1 s.2 s.3))

repeats_some : (o : Option Repeat) (p : Option (List ℕ)) (ms : List ℕ) → repeat_before o p ≡ Some ms → (r : Repeat) × (o ≡ Some r) × (ks : List ℕ) × (p ≡ Some ks)
repeats_some None p ms e = absurd cc
repeats_some (Some r) None ms e = absurd cc
repeats_some (Some r) (Some ks) ms e = (r, refl, ks, refl)

repeats_free : WordsCutAndReadBack → (ws : List (List ℕ)) (ms : List ℕ) → repeats_of ws ≡ Some ms → AllFree ws
repeats_free laws [] ms e = tt
repeats_free laws (w ∷ ws) ms e = let s = repeats_some (repeat_of w) (repeats_of ws) ms e in (repeat_free laws w s.0 s.1, repeats_free laws ws s.2 s.3)

-- the words after a name
mapped : {A B : Type 0} (f : A → B) (o : Option A) (y : B) → option_map f o ≡ Some y → (x : A) × (o ≡ Some x)
mapped f None y e = absurd cc
mapped f (Some x) y e = (x, refl)

short_list : (o : Option (List ℕ)) (ms : List ℕ) → not_too_long o ≡ Some ms → (ks : List ℕ) × (o ≡ Some ks)
short_list None ms e = absurd cc
short_list (Some ks) ms e = (ks, refl)

numbered_free : {B : Type 0} (f : List ℕ → B) (limits : List ℕ) (ws : List (List ℕ)) (y : B) → option_map f (numbers_of limits ws) ≡ Some y → AllFree ws
numbered_free f limits ws y e = let n = mapped f (numbers_of limits ws) y e in numbers_free limits ws n.0 n.1

alone_free : (c : Command) (ws : List (List ℕ)) (y : Command) → alone_command c ws ≡ Some y → AllFree ws
alone_free c [] y e = tt
alone_free c (w ∷ ws) y e = absurd cc

letter_free : (l : ℕ) (y : Command) → option_map kind (kind_by_letter l) ≡ Some y → point l ≡ false
letter_free l y e = read_free (λ (n : ℕ). option_map kind (kind_by_letter n)) l y refl e

kind_free : (ws : List (List ℕ)) (y : Command) → kind_command ws ≡ Some y → AllFree ws
kind_free [] y e = absurd cc
kind_free ([] ∷ []) y e = absurd cc
kind_free ((l ∷ []) ∷ []) y e = ((letter_free l y e, tt), tt)
kind_free ((l ∷ m ∷ ls) ∷ []) y e = absurd cc
kind_free (w ∷ v ∷ ws) y e = absurd cc

file_free : (ws : List (List ℕ)) (y : Command) → load_command ws ≡ Some y → AllFree ws
file_free [] y e = tt
file_free (w ∷ []) y e = let b = mapped _ (bytes_of w) y e in (bytes_free w b.0 b.1, tt)
file_free (w ∷ v ∷ ws) y e = absurd cc

rows_free : (ws : List (List ℕ)) (y : Command) → row_command ws ≡ Some y → AllFree ws
rows_free ws y e = option_and_then_some row_from (numbers_of row_number_limits ws) y e (λ ns is made. numbers_free row_number_limits ws ns is)

moves_free : WordsCutAndReadBack → (ws : List (List ℕ)) (y : Command) → check_command ws ≡ Some y → AllFree ws
moves_free laws ws y e =
    let m = mapped _ (moves_of ws) y e in
    let r = short_list (repeats_of ws) m.0 m.1 in
    repeats_free laws ws r.0 r.1

command_free : WordsCutAndReadBack → (n : Name) (ws : List (List ℕ)) (y : Command) → command_named n ws ≡ Some y → AllFree ws
command_free laws name.Kind ws y e = kind_free ws y e
command_free laws name.Size ws y e = numbered_free _ two_wide ws y e
command_free laws name.Row ws y e = rows_free ws y e
command_free laws name.Line ws y e = numbered_free _ line_number_limits ws y e
command_free laws name.RepriceRow ws y e = numbered_free _ two_wide ws y e
command_free laws name.RepriceLine ws y e = numbered_free _ two_wide ws y e
command_free laws name.Clear ws y e = alone_free _ ws y e
command_free laws name.Load ws y e = file_free ws y e
command_free laws name.Settle ws y e = alone_free _ ws y e
command_free laws name.Reopen ws y e = alone_free _ ws y e
command_free laws name.Cost ws y e = alone_free _ ws y e
command_free laws name.Path ws y e = numbered_free _ (longest_list ∷ []) ws y e
command_free laws name.Between ws y e = numbered_free _ two_wide ws y e
command_free laws name.Check ws y e = moves_free laws ws y e

-- a name
named_free : (text w : List ℕ) → Free text → (rest : Option Name) (n m : Name) → (rest ≡ Some m → Free w) → cond (spells text w) (Some n) rest ≡ Some m → Free w
unfolding spells
named_free text w free rest n m later e = ⊎_elim
    (λ (t : spells text w ≡ true). subst Free (sym ((bytes_eq-Decides w text).0 t)) free)
    (λ (f : spells text w ≡ false). later (sym (cond-false _ (Some n) rest f) ∙ e))
    (cases_Bool (spells text w))

text_free : (text : List ℕ) → is_unreserved text ≡ true → Free text
text_free text free = fewer reserved point no_point text (unreserved_text text free).1

name_free : (w : List ℕ) (n : Name) → name_of w ≡ Some n → Free w
name_free w n e =
    named_free (codes "kind") w (text_free (codes "kind") refl) _ _ n
    (named_free (codes "size") w (text_free (codes "size") refl) _ _ n
    (named_free (codes "row") w (text_free (codes "row") refl) _ _ n
    (named_free (codes "line") w (text_free (codes "line") refl) _ _ n
    (named_free (codes "reprice-row") w (text_free (codes "reprice-row") refl) _ _ n
    (named_free (codes "reprice-line") w (text_free (codes "reprice-line") refl) _ _ n
    (named_free (codes "clear") w (text_free (codes "clear") refl) _ _ n
    (named_free (codes "load") w (text_free (codes "load") refl) _ _ n
    (named_free (codes "settle") w (text_free (codes "settle") refl) _ _ n
    (named_free (codes "reopen") w (text_free (codes "reopen") refl) _ _ n
    (named_free (codes "cost") w (text_free (codes "cost") refl) _ _ n
    (named_free (codes "path") w (text_free (codes "path") refl) _ _ n
    (named_free (codes "between") w (text_free (codes "between") refl) _ _ n
    (named_free (codes "check") w (text_free (codes "check") refl) _ _ n
    (λ e. absurd cc)))))))))))))) e

-- the words of a line that says a command
module _ (laws : WordsCutAndReadBack) (w : List ℕ) (ws : List (List ℕ)) (c : Command) where
  said_free : (n : Name) → name_of w ≡ Some n → (o : Option Command) → command_named n ws ≡ o → command_parsed o ≡ command c → AllFree (w ∷ ws)
  said_free n named None at e = absurd cc
  said_free n named (Some y) at e = (name_free w n named, command_free laws n ws y at)

  named_words : (o : Option Name) → name_of w ≡ o → name_parsed o ws ≡ command c → AllFree (w ∷ ws)
  named_words None named e = absurd cc
  named_words (Some n) named e = said_free n named (command_named n ws) refl e

  first_words : (b : Bool) → cond b skip (name_parsed (name_of w) ws) ≡ command c → AllFree (w ∷ ws)
  first_words true e = absurd cc
  first_words false e = named_words (name_of w) refl e

words_free : WordsCutAndReadBack → (ws : List (List ℕ)) (c : Command) → words_parsed ws ≡ command c → AllFree ws
words_free laws [] c e = absurd cc
words_free laws (w ∷ ws) c e = first_words laws w ws c (is_comment w) e

pub said_again : WordsCutAndReadBack → (line answer : List ℕ) (c : Command) → line_parsed line ≡ command c → line_parsed (script_part_of line ++ (codes " -> " ++ answer)) ≡ command c
said_again laws line answer c e =
    let part = script_part_of line in
    line_answered laws part answer (pieces_free part (words_free laws (pieces_of spacing part) c e)) ∙ e
