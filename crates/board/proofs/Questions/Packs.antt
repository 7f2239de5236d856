-- The moves of a record are small, and taking a packed move apart gives it back.
use Rattle.std.proofs.Common.{◌≡◌, ℕ, zero, suc, ◌+◌, ◌*◌, ◌/◌, ◌%◌, ◌<◌, ◌⊎◌, List, [], ◌∷◌, map, length, get_or, Some, None, Option, refl, ap, ◌∙◌, ap₂, inl, inr, arith}
use Rattle.std.proofs.lemmas.Option.{slice_get_within}
use Rattle.std.proofs.lemmas.Bool.{lt-ltb, eq-eqb, ne_eqb, cond-true, cond-false}
use Rattle.costs.specs.Meaning.{Meaning, Lawful}
use Rattle.board.specs.declared.log.Log.{Log}
use Rattle.board.specs.declared.moves.Effect.{Effect}
use Rattle.board.specs.declared.moves.Move.{Move}
use Rattle.board.specs.declared.row.Row.{Row}
use Rattle.board.specs.Content.{Content, Sound}
use Rattle.board.specs.Logs.{Reached, nth_record}
use Rattle.board.specs.Logged.{records}
use Rattle.board.specs.Moves.{Place, Untimed, Timed}
use Rattle.board.specs.Paths.{Path, stop, go}
use Rattle.board.specs.Settling.{bare}
use Rattle.board.specs.Spelled.{moves_at, move_of}
use Rattle.board.specs.Packing.{line_bits, packed, SmallLine, Small, unpacked}
use Rattle.board.proofs.Rounds.Logging.{in_logged}
use Rattle.board.proofs.Basics.Membership.{some_eq, none_some}
use Rattle.board.proofs.Rounds.Spelling.{spelled as spelled_path}

unpacks : (x i : ℕ) (line : Option ℕ) → i < 128 → SmallLine line → x ≡ i * 256 + line_bits line → unpacked x ≡ Some (record { row = i; line = line })
unpacks x i None h g e =
    let a : x < 32768 = omega arith in
    let b : x / 128 % 2 ≡ 1 → ⊥ = λ z. omega arith in
    let d : x % 128 ≡ 0 = omega arith in
    let f : x / 256 ≡ i = omega arith in
    cond-true _ _ _ (lt-ltb _ _ a) ∙ cond-false _ _ _ (ne_eqb _ _ b) ∙ cond-true _ _ _ (eq-eqb _ _ d) ∙ ap (λ z. Some (record { row = z; line = None })) f
unpacks x i (Some j) h g e =
    let a : x < 32768 = omega arith in
    let b : x / 128 % 2 ≡ 1 = omega arith in
    let d : x % 128 ≡ j = omega arith in
    let f : x / 256 ≡ i = omega arith in
    cond-true _ _ _ (lt-ltb _ _ a) ∙ cond-true _ _ _ (eq-eqb _ _ b) ∙ ap₂ (λ r l. Some (record { row = r; line = Some l })) f d

pub unpacked_packed : (v : Move) → Small v → unpacked (packed v) ≡ Some v
unpacked_packed v h = unpacks (packed v) v.row v.line h.0 h.1 refl

pub all_unpacked : (vs : List Move) → ((k : ℕ) → k < length vs → Small (get_or vs k (bare 0))) → map unpacked (map packed vs) ≡ map Some vs
all_unpacked [] h = refl
all_unpacked (v ∷ vs) h =
    let first = unpacked_packed v (h 0 (omega arith)) in
    let rest = all_unpacked vs (λ k l. h (suc k) (omega arith)) in
    λ i. first i ∷ rest i

-- the moves of a path are rows and lines of the content
small_line : {m : Meaning} {c : Content} → Sound m c → (w : Option ℕ) (r : Row) (a b k : ℕ) → Untimed c r w a b k ⊎ Timed m c r w a b k → SmallLine w
small_line d None r a b k s = tt
small_line d (Some j) r a b k (inl s) = absurd (none_some _ _ s.alone refl)
small_line {c = c} d (Some j) r a b k (inr s) =
    let e = some_eq _ _ _ s.along refl in
    let h = slice_get_within c.lines s.number s.taken s.found in
    omega (arith, d.few_lines, e)

pub path_small : {m : Meaning} {c : Content} {vs : List Move} {p q : Place} {ks : List ℕ} {es : List Effect} → Sound m c → Path m c vs p q ks es → (k : ℕ) → k < length vs → Small (get_or vs k (bare 0))
path_small d stop k h = absurd (omega arith)
path_small {c = c} d (go {v} g p) zero h = (let r = slice_get_within c.rows v.row g.by g.found in omega (arith, d.few_rows), small_line d v.line g.by _ _ _ g.time)
path_small d (go g p) (suc k) h = path_small d p k (omega arith)

pub settled_small : {m : Meaning} {c : Content} (l : Log) (i : ℕ) → Lawful m → Sound m c → Reached m c (records l) → i < l.count → (k : ℕ) → k < length (moves_at l i) → Small (move_of l i k)
settled_small l i laws d s h = path_small d (spelled_path laws d s.1 (nth_record l i) (in_logged l.records l.count i h)).path
