-- Finding the candidate of a pair that a round takes, once its cost is known.
use Rattle.std.specs.Prelude.{◌≡◌, ℕ, ◌+◌, ◌*◌, ◌<◌, ◌≤◌, Bool, true, false, ◌&&◌, ◌==◌, List, length, Some, None, Option, slice_index, slice_index_or}
use Rattle.std.specs.List.{slice_get}
use Rattle.costs.specs.Meaning.{Meaning, NoDearer}
use Rattle.costs.specs.declared.kind.Kind.{Ghosts}
use Rattle.board.specs.declared.row.Row.{Row}
use Rattle.board.specs.declared.row.Line.{Line}
use Rattle.board.specs.declared.row.RowKind.{RowKind}
use Rattle.board.specs.declared.row.RowKind.TheVariants.{Plain, Open, Close, End}
use Rattle.board.specs.declared.moves.Move.{Move}
use Rattle.board.specs.declared.log.Record.{Record as LogRecord}
use Rattle.board.specs.declared.log.Log.{Log}
use Rattle.board.specs.declared.log.Derivation.{Derivation as LogDerivation}
use Rattle.board.specs.declared.settling.Known.{Known}
use Rattle.board.specs.declared.settling.Goal.{Goal}
use Rattle.board.specs.Content.{Content}
use Rattle.board.specs.Held.{held}
use Rattle.board.specs.Moves.{mode, On, place_number}
use Rattle.board.specs.Settling.{Record, Derivation, by_step, by_call, derivation_key, Lex, Candidate, Cheaper}
use Rattle.board.specs.Logged.{derivation_of, record_of, records}
use Rattle.board.specs.Logs.{numbered, Refers}
use Rattle.board.specs.Minima.{Link, StandsFor}

-- Of the unsettled pairs below n that of the least cost, if it is below the worst; the first where some tie.
pub record LeastPair (m : Meaning) (l : Log) (waiting : List ℕ) (n p : ℕ) : Type 0 where
  pub within : p < n
  pub unrecorded : slice_index_or l.index p None ≡ None
  pub below : Cheaper m (slice_index waiting p) m.worst
  pub first : (q : ℕ) → q < n → slice_index_or l.index q None ≡ None → NoDearer m (slice_index waiting p) (slice_index waiting q) × ((slice_index waiting p ≡ slice_index waiting q) → p ≤ q)

-- that pair, or none where none is below the worst
abbrev pub LeastOf : Meaning → Log → List ℕ → ℕ → Option ℕ → Type 0
LeastOf m l waiting n None = (q : ℕ) → q < n → slice_index_or l.index q None ≡ None → NoDearer m m.worst (slice_index waiting q)
LeastOf m l waiting n (Some p) = LeastPair m l waiting n p

-- of the first n of these costs the least, if it is below the worst; the first where some tie
pub record LeastFirst (m : Meaning) (costs : List ℕ) (n s : ℕ) : Type 0 where
  pub within : s < n
  pub below : Cheaper m (slice_index costs s) m.worst
  pub first : (t : ℕ) → t < n → NoDearer m (slice_index costs s) (slice_index costs t) × ((slice_index costs s ≡ slice_index costs t) → s ≤ t)

-- its number, or none where none is below the worst
abbrev pub LeastFrom : Meaning → List ℕ → ℕ → Option ℕ → Type 0
LeastFrom m costs n None = (t : ℕ) → t < n → NoDearer m m.worst (slice_index costs t)
LeastFrom m costs n (Some s) = LeastFirst m costs n s

-- the goal is between places of the board
abbrev pub GoalOn : Content → Goal → Type 0
GoalOn c g = On c g.from × On c g.to

-- y is a candidate for the goal's pair, at its cost
pub record Makes (m : Meaning) (c : Content) (l : Log) (g : Goal) (y : Record) : Type 0 where
  pub candidate : Candidate m c (records l) y
  pub starts : y.from ≡ g.from
  pub ends : y.to ≡ g.to
  pub costs : y.cost ≡ g.cost

-- the record for the goal by this derivation
abbrev pub made : Goal → LogDerivation → LogRecord
made g s = record { from = g.from; to = g.to; cost = g.cost; derivation = s }

-- The derivation makes the goal and is one of Q, and goes before every other of Q that makes it.
pub record Wins (m : Meaning) (c : Content) (l : Log) (g : Goal) (Q : Derivation → Type 0) (s : LogDerivation) : Type 0 where
  pub refers : Refers l.count s
  pub makes : Makes m c l g (record_of (records l) (made g s))
  pub one : Q (derivation_of s)
  pub first : (y : Record) → Makes m c l g y → Q y.derivation → Lex (derivation_key (derivation_of s)) (derivation_key y.derivation)

-- the winner of Q, or none where no candidate of Q makes the goal
abbrev pub Finds : Meaning → Content → Log → Goal → (Derivation → Type 0) → Option LogDerivation → Type 0
Finds m c l g Q None = (y : Record) → Makes m c l g y → Q y.derivation → ⊥
Finds m c l g Q (Some s) = Wins m c l g Q s

-- the same, on what is known
abbrev pub FindsOf : {K : Type 0} {k : Ghosts K} → Meaning → Known K k → Goal → (Derivation → Type 0) → Option LogDerivation → Type 0
FindsOf m a g Q s = Finds m (held a.tables.now) a.log.now g Q s

-- any derivation
abbrev pub Any : Derivation → Type 0
Any d = Unit {0}

-- a step by this move
abbrev pub IsStepOf : Move → Derivation → Type 0
IsStepOf v d = d ≡ by_step v

-- a step by this row
abbrev pub IsStepBy : ℕ → Derivation → Type 0
IsStepBy row d = (v : Move) × (v.row ≡ row) × (d ≡ by_step v)

-- any step
abbrev pub IsStep : Derivation → Type 0
IsStep d = (v : Move) × (d ≡ by_step v)

-- a call by these rows, opened at this moment
abbrev pub IsCallAt : ℕ → ℕ → ℕ → Derivation → Type 0
IsCallAt o w t d = d ≡ by_call o w t

-- a call by these rows
abbrev pub IsCallBy : ℕ → ℕ → Derivation → Type 0
IsCallBy o w d = (t : ℕ) × (d ≡ by_call o w t)

-- a call that this row opens
abbrev pub IsCallOpenedBy : ℕ → Derivation → Type 0
IsCallOpenedBy o d = (w : ℕ) × IsCallBy o w d

-- any call
abbrev pub IsCall : Derivation → Type 0
IsCall d = (o : ℕ) × IsCallOpenedBy o d

-- The list holds numbers below n in ascending order, each of P among them.
pub record Gathered (P : ℕ → Type 0) (n : ℕ) (xs : List ℕ) : Type 0 where
  pub ascending : (i j : ℕ) → i < j → j < length xs → slice_index xs i < slice_index xs j
  pub below : (i : ℕ) → i < length xs → slice_index xs i < n
  pub complete : (j : ℕ) → j < n → P j → (i : ℕ) × (i < length xs) × (slice_index xs i ≡ j)
  pub few : length xs ≤ n

-- the line enters the moment
abbrev pub LineTo : Content → ℕ → ℕ → Type 0
LineTo c t j = (w : Line) × (slice_get c.lines j ≡ Some w) × (w.to ≡ t)

-- A record from where the goal starts to the place numbered r, and a link from there to where it ends, cost no more than it.
pub record TightAt (m : Meaning) (c : Content) (l : Log) (g : Goal) (r : ℕ) : Type 0 where
  pub front : ℕ
  pub front_in : front < l.count
  pub starts : (numbered l front).from ≡ g.from
  pub there : place_number c (numbered l front).to ≡ r
  pub price : ℕ
  pub link : Link m c l (r * 64 + place_number c g.to) price
  pub within : NoDearer m (m.join (numbered l front).cost price) g.cost

-- an ascending list that misses no place from which a link may make the goal
abbrev pub TightOf : {K : Type 0} {k : Ghosts K} → Meaning → Known K k → Goal → List ℕ → Type 0
TightOf m a g xs = Gathered (TightAt m (held a.tables.now) a.log.now g) 64 xs

-- The rows o and w are an open row a and a close row b of one bracket, and b leads to where the goal ends.
pub record BracketRows (c : Content) (g : Goal) (o w : ℕ) (a b : Row) : Type 0 where
  pub opening : slice_get c.rows o ≡ Some a
  pub closing : slice_get c.rows w ≡ Some b
  pub opens : a.kind ≡ Open
  pub closes : b.kind ≡ Close
  pub same : b.label ≡ a.label
  pub enters : b.to ≡ mode g.to

-- whether a row of this kind closes a bracket
abbrev pub is_close : RowKind → Bool
is_close Plain = false
is_close Open = false
is_close Close = true
is_close End = false

-- whether the row closes the bracket n, from the mode u
abbrev pub closes_from : Row → ℕ → ℕ → Bool
closes_from r n u = is_close r.kind && (r.label == n && r.from == u)

-- whether it closes the bracket n and leads to the mode u
abbrev pub closes_to : Row → ℕ → ℕ → Bool
closes_to r n u = is_close r.kind && (r.label == n && r.to == u)

-- for each close row that leads to the mode u one of the list stands for it
abbrev pub Serve : Meaning → Content → ℕ → List ℕ → Type 0
Serve m c u xs = (w : ℕ) (r : Row) → slice_get c.rows w ≡ Some r → r.kind ≡ Close → r.to ≡ u → (n : ℕ) × (n < length xs) × StandsFor m c r (slice_index xs n)

-- the same for each that closes the bracket
abbrev pub ServeIn : Meaning → Content → ℕ → ℕ → List ℕ → Type 0
ServeIn m c bracket u xs = (w : ℕ) (r : Row) → slice_get c.rows w ≡ Some r → r.kind ≡ Close → r.label ≡ bracket → r.to ≡ u → (n : ℕ) × (n < length xs) × StandsFor m c r (slice_index xs n)
