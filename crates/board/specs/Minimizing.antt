-- What is done to the least costs, told of what is known.
use Rattle.std.specs.Prelude.{ℕ, List}
use Rattle.costs.specs.Meaning.{Meaning}
use Rattle.costs.specs.declared.kind.Kind.{Ghosts}
use Rattle.board.specs.declared.log.Log.{Log}
use Rattle.board.specs.declared.settling.Known.{Known}
use Rattle.board.specs.declared.settling.Waiting.{Waiting}
use Rattle.board.specs.Content.{Content}
use Rattle.board.specs.Held.{held}
use Rattle.board.specs.Lowering.{Costing, Lowered}
use Rattle.board.specs.Minima.{Link, CandidateAt, LinksHeld, WaitingHeld, Linked, PlacesLeast}

-- each of the costs is the worst, or a link's
abbrev pub LinksOf : {K : Type 0} {k : Ghosts K} → Meaning → Known K k → List ℕ → Type 0
LinksOf m a xs = LinksHeld m (held a.tables.now) a.log.now xs

-- links and candidates belong together, and the least by first place are right
abbrev pub LinkedOf : {K : Type 0} {k : Ghosts K} → Meaning → Known K k → List ℕ → Waiting → Type 0
LinkedOf m a links waiting = Linked m (held a.tables.now) a.log.now links waiting

-- the costs of links got lower, by those of P
abbrev pub LinksLower : {K : Type 0} {k : Ghosts K} → Meaning → Known K k → List ℕ → List ℕ → (Meaning → Content → Log → Costing) → Type 0
LinksLower m a xs xs' P = Lowered m (Link m (held a.tables.now) a.log.now) xs xs' (P m (held a.tables.now) a.log.now)

-- each of the costs is the worst, or a candidate's for the pair, and the least of them are as they should be
abbrev pub WaitingOf : {K : Type 0} {k : Ghosts K} → Meaning → Known K k → Waiting → Type 0
WaitingOf m a w = WaitingHeld m (held a.tables.now) a.log.now w

-- the costs of candidates got lower, by those of P, and the least of them are as they should be
pub record WaitingLower {K : Type 0} {k : Ghosts K} (m : Meaning) (a : Known K k) (w w' : Waiting) (P : Meaning → Content → Log → Costing) : Type 0 where
  pub costs : Lowered m (CandidateAt m (held a.tables.now) a.log.now) w.costs w'.costs (P m (held a.tables.now) a.log.now)
  pub least : PlacesLeast m a.log.now w'
