-- What a line comes to.
use Rattle.std.specs.Prelude.{◌≡◌, ℕ, ◌^◌, ◌<◌, List, [], ◌∷◌, map, Some, None, Ok, Err, decimal, Option, Result, slice_index_or}
use Rattle.std.specs.List.{flat_map, AllByRecursion}
use Rattle.std.specs.Option.{option_map, option_map_or}
use Rattle.std.specs.Result.{result_map_both}
use Rattle.std.specs.Str.Lines.{strip_carriage_return}
use Rattle.costs.specs.Meaning.{Meaning}
use Rattle.costs.specs.Lists.{join_answer}
use Rattle.costs.specs.Names.{meaning_of, letter_of, kind_by_letter}
use Rattle.words.specs.Numbers.{u32_max, number_of}
use Rattle.words.specs.Pieces.{spacing, pieces_of}
use Rattle.price.specs.declared.answer.Total.{Total}
use Rattle.price.specs.declared.answer.LineFault.{LineFault}
use Rattle.price.specs.declared.answer.LineFault.TheVariants.{NotACost, Unreadable, OutOfMemory}

-- What a line comes to; words are their bytes.
pub data LineAnswer : Type 0 where
  -- no words
  nothing : LineAnswer
  -- the kind's letter, and what the costs make, joined
  total : ℕ → ℕ → LineAnswer
  -- the first number that is no cost of the kind
  not_a_cost : List ℕ → LineAnswer
  -- the first word that cannot be read
  unreadable : List ℕ → LineAnswer

-- a line's words, without a carriage return at its end
abbrev pub words_of : List ℕ → List (List ℕ)
words_of line = pieces_of spacing (strip_carriage_return line)

-- the kind that has the letter
abbrev pub kind_with_letter : ℕ → Option Meaning
kind_with_letter l = option_map meaning_of (kind_by_letter l)

-- the kind whose letter the word is: a word of one byte
abbrev pub kind_of : List ℕ → Option Meaning
kind_of [] = None
kind_of (l ∷ []) = kind_with_letter l
kind_of (l ∷ b ∷ bs) = None

-- the first word's number before those of the words after it
abbrev pub cost_before : List ℕ → Option ℕ → Result (List ℕ) (List ℕ) → Result (List ℕ) (List ℕ)
cost_before w number rest = option_map_or (λ n. result_map_both (λ ns. n ∷ ns) (λ v. v) rest) number (Err w)

-- the words' numbers, or the first word that is no number
abbrev pub read_costs : List (List ℕ) → Result (List ℕ) (List ℕ)
read_costs [] = Ok []
read_costs (w ∷ ws) = cost_before w (number_of u32_max w) (read_costs ws)

-- what joining answered: the joined cost, or the word of the first number that is no cost
abbrev pub joined_or_not_a_cost : Meaning → List (List ℕ) → Result ℕ ℕ → LineAnswer
joined_or_not_a_cost m ws (Ok t) = total m.letter t
joined_or_not_a_cost m ws (Err i) = not_a_cost (slice_index_or ws i [])

-- the numbers of the words, joined under the kind
abbrev pub joined_answer : Meaning → List (List ℕ) → List ℕ → LineAnswer
joined_answer m ws ns = joined_or_not_a_cost m ws (join_answer m ns)

-- a word that is no number makes the line unreadable, whatever its costs
abbrev pub costs_answer : Meaning → List (List ℕ) → Result (List ℕ) (List ℕ) → LineAnswer
costs_answer m ws (Ok ns) = joined_answer m ws ns
costs_answer m ws (Err w) = unreadable w

-- the letter is looked at first
abbrev pub kind_answer : List ℕ → Option Meaning → List (List ℕ) → LineAnswer
kind_answer letter kind ws = option_map_or (λ m. costs_answer m ws (read_costs ws)) kind (unreadable letter)

-- what a line of these words comes to
abbrev pub words_answer : List (List ℕ) → LineAnswer
words_answer [] = nothing
words_answer (letter ∷ ws) = kind_answer letter (kind_of letter) ws

-- what a line comes to
abbrev pub line_answer : List ℕ → LineAnswer
line_answer line = words_answer (words_of line)

-- costs in decimal digits, a space before each
abbrev pub written_costs : List ℕ → List ℕ
written_costs xs = flat_map (λ x. 32 ∷ decimal x) xs

-- each number has 32 bits
abbrev pub Of32Bits : List ℕ → Type 0
Of32Bits xs = AllByRecursion (λ x. x < 2 ^ 32) xs

-- The law of a line: a kind's letter and numbers in decimal digits come to what those numbers make, joined.
abbrev pub CostsReadBack : Type 0
CostsReadBack =
    (l : ℕ) (m : Meaning) → kind_with_letter l ≡ Some m → (xs : List ℕ) → Of32Bits xs → line_answer (l ∷ written_costs xs) ≡ joined_answer m (map decimal xs) xs

-- What a line's outcome stands for, with bytes in place of references; `None` where memory did not suffice.
abbrev pub answer_of : Result (Option Total) LineFault → Option LineAnswer
answer_of (Ok None) = Some nothing
answer_of (Ok (Some t)) = Some (total (letter_of t.kind) t.cost)
answer_of (Err (NotACost w)) = Some (not_a_cost w.now)
answer_of (Err (Unreadable w)) = Some (unreadable w.now)
answer_of (Err OutOfMemory) = None
