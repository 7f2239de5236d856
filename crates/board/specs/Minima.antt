-- The least costs that settling keeps beside its log: of links and of candidates.
use Rattle.std.specs.Prelude.{◌≡◌, ℕ, ◌+◌, ◌*◌, ◌<◌, Bool, true, false, ◌&&◌, ◌==◌, ◌⊎◌, List, length, Some, None, Option, slice_index, slice_index_or}
use Rattle.std.specs.List.{slice_get}
use Rattle.costs.specs.Meaning.{Meaning, NoDearer}
use Rattle.board.specs.declared.row.Row.{Row}
use Rattle.board.specs.declared.row.Line.{Line}
use Rattle.board.specs.declared.moves.Move.{Move}
use Rattle.board.specs.declared.moves.Effect.TheVariants.{Quiet, Opens, Closes}
use Rattle.board.specs.declared.log.Record.{Record as LogRecord}
use Rattle.board.specs.declared.log.Log.{Log}
use Rattle.board.specs.declared.settling.Minima.{Minima}
use Rattle.board.specs.declared.settling.Waiting.{Waiting}
use Rattle.board.specs.declared.settling.Way.{Way}
use Rattle.board.specs.Content.{Content}
use Rattle.board.specs.Rows.{kind_number}
use Rattle.board.specs.Moves.{Place, place_number, Transition}
use Rattle.board.specs.Settling.{Record, bare, Candidate}
use Rattle.board.specs.Logged.{records}
use Rattle.board.specs.Logs.{numbered, Ready, pair_of}
use Rattle.board.specs.Lowering.{Costing, Attained, LowerBound, Among}

-- where the row o leads from p as an open row, or that it is none there
abbrev pub OpensWay : Meaning → Content → ℕ → Place → Option Way → Type 0
OpensWay m c o p None = (q : Place) (k n : ℕ) → Transition m c (bare o) p q k (Opens n) → ⊥
OpensWay m c o p (Some w) = Transition m c (bare o) p w.to w.cost (Opens w.bracket)

-- The open row o, the record b and the close row w of the same bracket: p is the number of the place where the open row
-- starts and of that to which the close row leads, and k is what the three cost.
pub record BracketedBy (m : Meaning) (c : Content) (b : LogRecord) (o w p k : ℕ) : Type 0 where
  pub place : Place
  pub exit : Place
  pub bracket : ℕ
  pub price : ℕ
  pub last : ℕ
  pub opens : Transition m c (bare o) place b.from price (Opens bracket)
  pub closes : Transition m c (bare w) b.to exit last (Closes bracket)
  pub at : p ≡ pair_of c place exit
  pub cost_is : k ≡ m.join price (m.join b.cost last)

-- any record between an open and a close row
abbrev pub Bracketed : Meaning → Content → Log → Costing
Bracketed m c l p k = (j : ℕ) × (j < l.count) × (o : ℕ) × (w : ℕ) × BracketedBy m c (numbered l j) o w p k

-- the move v without brackets: p is the number of the two places
pub record Plainly (m : Meaning) (c : Content) (v : Move) (p k : ℕ) : Type 0 where
  pub place : Place
  pub exit : Place
  pub goes : Transition m c v place exit k Quiet
  pub at : p ≡ pair_of c place exit

-- any move without brackets
abbrev pub PlainLink : Meaning → Content → Costing
PlainLink m c p k = (v : Move) × Plainly m c v p k

-- the move v without brackets from the place
pub record PlainlyFrom (m : Meaning) (c : Content) (v : Move) (place : Place) (p k : ℕ) : Type 0 where
  pub exit : Place
  pub goes : Transition m c v place exit k Quiet
  pub at : p ≡ pair_of c place exit

-- any move without brackets by the row
abbrev pub PlainlyBy : Meaning → Content → ℕ → Costing
PlainlyBy m c row p k = (v : Move) × (v.row ≡ row) × Plainly m c v p k

-- that by the row alone at the moment
abbrev pub PlainlyAt : Meaning → Content → ℕ → Row → ℕ → Costing
PlainlyAt m c row r t = PlainlyFrom m c (bare row) (r.from, t)

-- that by the row with the line j
abbrev pub PlainlyAlong : Meaning → Content → ℕ → Row → ℕ → Costing
PlainlyAlong m c row r j p k = (w : Line) × (slice_get c.lines j ≡ Some w) × PlainlyFrom m c (record { row = row; line = Some j }) (r.from, w.from) p k

-- a link: what a record can go on by, a move without brackets or a record between brackets
abbrev pub Link : Meaning → Content → Log → Costing
Link m c l p k = PlainLink m c p k ⊎ Bracketed m c l p k

-- a candidate of the log for the pair p
pub record CandidateAt (m : Meaning) (c : Content) (l : Log) (p k : ℕ) : Type 0 where
  pub it : Record
  pub candidate : Candidate m c (records l) it
  pub at : p ≡ pair_of c it.from it.to
  pub cost_is : k ≡ it.cost

-- the record a and then the link of the list to the place numbered q
abbrev pub FollowedBy : Meaning → Content → List ℕ → LogRecord → ℕ → Costing
FollowedBy m c links a q p k = (p ≡ place_number c a.from * 64 + q) × (k ≡ m.join a.cost (slice_index links (place_number c a.to * 64 + q)))

-- the record a and then a link of the list
abbrev pub Followed : Meaning → Content → List ℕ → LogRecord → Costing
Followed m c links a = Among (FollowedBy m c links a) 64

-- The record that goes from the place numbered s to that numbered r, if the log has it, and then a link at this cost to the
-- place numbered q.
pub record FollowedFrom (m : Meaning) (l : Log) (r q cost s p k : ℕ) : Type 0 where
  pub front : ℕ
  pub front_is : slice_index_or l.index (s * 64 + r) None ≡ Some front
  pub at : p ≡ s * 64 + q
  pub cost_is : k ≡ m.join (numbered l front).cost cost

-- The least of the costs of the unsettled pairs from the place numbered s to the first n, or the worst where none is below it.
pub record PlaceLeast (m : Meaning) (l : Log) (costs : List ℕ) (s n x : ℕ) : Type 0 where
  pub attained : (x ≡ m.worst) ⊎ ((q : ℕ) × (q < n) × (slice_index_or l.index (s * 64 + q) None ≡ None) × (slice_index costs (s * 64 + q) ≡ x))
  pub bounds : (q : ℕ) → q < n → slice_index_or l.index (s * 64 + q) None ≡ None → NoDearer m x (slice_index costs (s * 64 + q))

-- the same for each first place
pub record PlacesLeast (m : Meaning) (l : Log) (w : Waiting) : Type 0 where
  pub long : length w.least ≡ 64
  pub places : (s : ℕ) → s < 64 → PlaceLeast m l w.costs s 64 (slice_index w.least s)

-- each of the costs by two places is the worst, or a link's
pub record LinksHeld (m : Meaning) (c : Content) (l : Log) (links : List ℕ) : Type 0 where
  pub long : length links ≡ 4096
  pub attained : Attained m (Link m c l) links

-- each of the costs by pairs is the worst, or a candidate's, and the least by first place are right
pub record WaitingHeld (m : Meaning) (c : Content) (l : Log) (w : Waiting) : Type 0 where
  pub long : length w.costs ≡ 4096
  pub attained : Attained m (CandidateAt m c l) w.costs
  pub least : PlacesLeast m l w

-- Links and candidates belong together: no record with a link behind it is cheaper than what waits.
pub record Linked (m : Meaning) (c : Content) (l : Log) (links : List ℕ) (waiting : Waiting) : Type 0 where
  pub held_links : LinksHeld m c l links
  pub held_waiting : WaitingHeld m c l waiting
  pub followed : (i : ℕ) → i < l.count → LowerBound m (Followed m c links (numbered l i)) waiting.costs

-- the open row o, the record and the close row w, both rows marked
pub record BracketedIf (m : Meaning) (c : Content) (leads : List Bool) (b : LogRecord) (o w p k : ℕ) : Type 0 where
  pub opener : slice_index_or leads o false ≡ true
  pub closer : slice_index_or leads w false ≡ true
  pub by : BracketedBy m c b o w p k

-- the same with any marked close row, and with any two marked rows
abbrev pub BracketedOn : Meaning → Content → List Bool → LogRecord → ℕ → Costing
BracketedOn m c leads b o p k = (w : ℕ) × BracketedIf m c leads b o w p k

abbrev pub BracketedIn : Meaning → Content → List Bool → LogRecord → Costing
BracketedIn m c leads b p k = (o : ℕ) × BracketedOn m c leads b o p k

-- whether two rows are of one kind, lead from and to the same modes, and have the same label
abbrev pub sort_like : Row → Row → Bool
sort_like a b = kind_number a.kind == kind_number b.kind && (a.from == b.from && (a.to == b.to && a.label == b.label))

-- The row of this number is of the sort of the row r, and costs no more.
pub record StandsFor (m : Meaning) (c : Content) (r : Row) (lead : ℕ) : Type 0 where
  pub by : Row
  pub found : slice_get c.rows lead ≡ Some by
  pub kind : by.kind ≡ r.kind
  pub leaves : by.from ≡ r.from
  pub enters : by.to ≡ r.to
  pub label : by.label ≡ r.label
  pub no_dearer : NoDearer m by.cost r.cost

-- a marked row stands for the row of this number, if there is one
abbrev pub LedAt : Meaning → Content → List Bool → ℕ → Type 0
LedAt m c leads row = (r : Row) → slice_get c.rows row ≡ Some r → (lead : ℕ) × (slice_index_or leads lead false ≡ true) × StandsFor m c r lead

-- for each row a marked row stands for it
abbrev pub Led : Meaning → Content → List Bool → Type 0
Led m c leads = (row : ℕ) → LedAt m c leads row

-- What holds after each record, of the log and the least costs: links are the least there are, candidates belong to them, and
-- each row has a marked row that stands for it.
pub record SettlingInvariant (m : Meaning) (c : Content) (l : Log) (s : Minima) : Type 0 where
  pub ready : Ready m c l
  pub linked : Linked m c l s.links s.waiting
  pub links_bounds : LowerBound m (Link m c l) s.links
  pub leads_long : length s.leads ≡ 128
  pub led : Led m c s.leads
