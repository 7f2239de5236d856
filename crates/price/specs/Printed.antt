-- What is printed.
use Rattle.std.specs.Prelude.{◌≡◌, ℕ, List, [], ◌∷◌, ◌++◌, codes, decimal}
use Rattle.std.specs.Char.{is_newline}
use Rattle.std.specs.List.{flat_map}
use Rattle.std.proofs.Math.Utf8.{encode}
use Rattle.price.specs.Lines.{LineAnswer, nothing, total, not_a_cost, unreadable, line_answer}
use Rattle.words.specs.Pieces.{pieces_of, NoSeparator}

-- a line of a label and a word
abbrev pub word_line : List ℕ → List ℕ → List ℕ
word_line label word = label ++ (word ++ (10 ∷ []))

-- what is printed of an answer: nothing, or one line
abbrev pub answer_printed : LineAnswer → List ℕ
answer_printed nothing = []
answer_printed (total letter t) = encode letter ++ (codes " " ++ (decimal t ++ (10 ∷ [])))
answer_printed (not_a_cost word) = word_line (codes "no 10 ") word
answer_printed (unreadable word) = word_line (codes "unreadable ") word

-- what is printed of one line
abbrev pub line_printed : List ℕ → List ℕ
line_printed line = answer_printed (line_answer line)

-- what is printed of the whole input: that of each line, in their order
abbrev pub input_printed : List ℕ → List ℕ
input_printed input = flat_map line_printed (pieces_of is_newline input)

-- The laws that fix what is printed: each line is answered by itself, whatever stands before and after it.
pub record LineByLine : Type 0 where
  -- input with no newline in it is one line
  pub one : (line : List ℕ) → NoSeparator is_newline line → input_printed line ≡ line_printed line
  -- what stands on the two sides of a newline is printed apart
  pub apart : (xs ys : List ℕ) → input_printed (xs ++ (10 ∷ ys)) ≡ input_printed xs ++ input_printed ys
