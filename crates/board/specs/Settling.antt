-- Settling: the log of records, the newest first, that the rounds reach, and the reading that a settled log holds.
use Rattle.std.specs.Prelude.{◌≡◌, ℕ, zero, suc, ◌<◌, ◌≤◌, false, ◌⊎◌, List, [], ◌∷◌, ◌++◌, map, None, Option, ◌≢◌}
use Rattle.std.specs.Option.{option_to_list}
use Rattle.costs.specs.Meaning.{Meaning, NoDearer}
use Rattle.board.specs.declared.moves.Move.{Move}
use Rattle.board.specs.declared.moves.Effect.TheVariants.{Quiet, Opens, Closes, Ends}
use Rattle.board.specs.Content.{Content}
use Rattle.board.specs.Moves.{Place, moment, origin, place_number, Transition}

-- a is cheaper than b
abbrev pub Cheaper : Meaning → ℕ → ℕ → Type 0
Cheaper m a b = m.no_dearer b a ≡ false

-- x is a member of the list
abbrev pub In : {A : Type 0} → A → List A → Type 0
In x [] = ⊥
In x (y ∷ ys) = (x ≡ y) ⊎ In x ys

-- the move by a row alone
abbrev pub bare : ℕ → Move
bare i = record { row = i; line = None }

-- How a record came about: at the start, by a step of this move, or by a call of this open row and this close row,
-- opened at this moment.
pub data Derivation : Type 0 where
  start : Derivation
  by_step : Move → Derivation
  by_call : ℕ → ℕ → ℕ → Derivation

-- The record of a pair of places: the two places, the cost of going from the one to the other, how the record came
-- about, and its moves spelled out.
pub record Record : Type 0 where
  pub from : Place
  pub to : Place
  pub cost : ℕ
  pub derivation : Derivation
  pub moves : List Move

-- the record from a place to itself: no moves, at the free cost
abbrev pub start_record : Meaning → Place → Record
start_record m p = record { from = p; to = p; cost = m.free; derivation = start; moves = [] }

-- the record a and then the move v to q at the cost k
abbrev pub step_record : Meaning → Record → Move → Place → ℕ → Record
step_record m a v q k = record {
  from = a.from;
  to = q;
  cost = m.join a.cost k;
  derivation = by_step v;
  moves = a.moves ++ (v ∷ []);
}

-- the record a, then the opening move o at the cost k, then the record b, then the closing move w to q at the cost l
abbrev pub call_record : Meaning → Record → Move → ℕ → Record → Move → ℕ → Place → Record
call_record m a o k b w l q = record {
  from = a.from;
  to = q;
  cost = m.join (m.join (m.join a.cost k) b.cost) l;
  derivation = by_call o.row w.row (moment a.to);
  moves = a.moves ++ (o ∷ (b.moves ++ (w ∷ [])));
}

-- the places of mode n at the moments below t
abbrev pub moments_of : ℕ → ℕ → List Place
moments_of n zero = []
moments_of n (suc t) = (n, t) ∷ moments_of n t

-- the places of the modes below n at the moments below t
abbrev pub places : ℕ → ℕ → List Place
places zero t = []
places (suc n) t = moments_of n t ++ places n t

-- the records of these places to themselves
abbrev pub starts : Meaning → List Place → List Record
starts m ps = map (start_record m) ps

-- the records of all places to themselves, with which settling begins
abbrev pub diagonal : Meaning → Content → List Record
diagonal m c = starts m (places c.modes c.moments)

-- The candidates of a log: each record of the log with one step more, and each with one call more, whose inside is a
-- record of the log.
pub data Candidate (m : Meaning) (c : Content) (log : List Record) : Record → Type 0 where
  step : (a : Record) {v : Move} {q : Place} {k : ℕ} → In a log → Transition m c v a.to q k Quiet → Candidate m c log (step_record m a v q k)
  call : (a b : Record) {o w : Move} {q : Place} {k l n : ℕ} → In a log → Transition m c o a.to b.from k (Opens n) → In b log → Transition m c w b.to q l (Closes n) → Candidate m c log (call_record m a o k b w l q)

-- no record of the log goes from s to q
abbrev pub Unrecorded : List Record → Place → Place → Type 0
Unrecorded log s q = (a : Record) → In a log → a.from ≡ s → a.to ≢ q

-- the lexicographic order of lists of numbers; a list is no later than itself, and no later than one that it begins
abbrev pub Lex : List ℕ → List ℕ → Type 0
Lex [] ys = Unit {0}
Lex (x ∷ xs) [] = ⊥
Lex (x ∷ xs) (y ∷ ys) = (x < y) ⊎ ((x ≡ y) × Lex xs ys)

-- a move's line as a list of at most one number
abbrev pub line_key : Option ℕ → List ℕ
line_key o = option_to_list o

-- a step before a call; steps by row and line; calls by open row, close row and the moment of opening
abbrev pub derivation_key : Derivation → List ℕ
derivation_key start = []
derivation_key (by_step v) = 0 ∷ (v.row ∷ line_key v.line)
derivation_key (by_call o w t) = 1 ∷ (o ∷ (w ∷ (t ∷ [])))

-- by what records of the same cost are ordered: the number of the first place, that of the second, the derivation
abbrev pub key : Content → Record → List ℕ
key c x = place_number c x.from ∷ (place_number c x.to ∷ derivation_key x.derivation)

-- x is cheaper than y, or costs the same and its key is no later
abbrev pub Precedes : Meaning → Content → Record → Record → Type 0
Precedes m c x y = Cheaper m x.cost y.cost ⊎ ((x.cost ≡ y.cost) × Lex (key c x) (key c y))

-- The record x that a round adds to the log: of all candidates for unsettled pairs the one that precedes all others,
-- if it is cheaper than the worst.
pub record Round (m : Meaning) (c : Content) (log : List Record) (x : Record) : Type 0 where
  pub candidate : Candidate m c log x
  pub unrecorded : Unrecorded log x.from x.to
  pub below : Cheaper m x.cost m.worst
  pub first : (y : Record) → Candidate m c log y → Unrecorded log y.from y.to → Precedes m c x y

-- the log after so many rounds
pub data Rounds (m : Meaning) (c : Content) : ℕ → List Record → Type 0 where
  begin : Rounds m c 0 (diagonal m c)
  round : {n : ℕ} {log : List Record} {x : Record} → Rounds m c n log → Round m c log x → Rounds m c (suc n) (x ∷ log)

-- The log after all rounds: no candidate for an unsettled pair is cheaper than the worst.
pub record SettledLog (m : Meaning) (c : Content) (log : List Record) : Type 0 where
  pub rounds : ℕ
  pub reached : Rounds m c rounds log
  pub done : (x : Record) → Candidate m c log x → Unrecorded log x.from x.to → NoDearer m m.worst x.cost

-- The reading vs by the end row i at the cost k: the record from place 0 to the place of the end row, spelled out, and
-- then the end row.
pub record ReadingBy (m : Meaning) (c : Content) (log : List Record) (i k : ℕ) (vs : List Move) : Type 0 where
  pub held : Record
  pub logged : In held log
  pub starts_0 : held.from ≡ origin
  pub price : ℕ
  pub over : Transition m c (bare i) held.to held.to price Ends
  pub cost_is : k ≡ m.join held.cost price
  pub moves_are : vs ≡ held.moves ++ (bare i ∷ [])

-- The recorded reading: of the readings that cost less than the worst the cheapest, and of those of the least cost the
-- one by the lowest end row.
pub record RecordedReading (m : Meaning) (c : Content) (log : List Record) (k : ℕ) (vs : List Move) : Type 0 where
  pub last : ℕ
  pub reads : ReadingBy m c log last k vs
  pub below : Cheaper m k m.worst
  pub least : (i n : ℕ) (ws : List Move) → ReadingBy m c log i n ws → Cheaper m k n ⊎ ((k ≡ n) × (last ≤ i))

-- no reading costs less than the worst
abbrev pub HasNoReading : Meaning → Content → List Record → Type 0
HasNoReading m c log = (i n : ℕ) (ws : List Move) → ReadingBy m c log i n ws → NoDearer m m.worst n

-- the answer: the cost of the recorded reading, or the worst where there is none
abbrev pub AnswersCost : Meaning → Content → List Record → ℕ → Type 0
AnswersCost m c log k = ((vs : List Move) × RecordedReading m c log k vs) ⊎ (HasNoReading m c log × (k ≡ m.worst))
