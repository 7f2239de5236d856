-- Steps of the scan for the recorded reading.
use Rattle.std.proofs.Common.{◌≡◌, ℕ, suc, ◌+◌, ◌<◌, ◌≤◌, Bool, true, false, cond, List, [], ◌∷◌, ◌++◌, length, get_or, take, Some, None, Option, sym, refl, ap, ◌∙◌, add-one, arith}
use Rattle.std.specs.List.{slice_get}
use Rattle.costs.specs.Meaning.{Meaning}
use Rattle.board.specs.declared.row.Row.{Row}
use Rattle.board.specs.declared.log.Log.{Log}
use Rattle.board.specs.declared.reading.Reading.{Reading as LogReading}
use Rattle.board.specs.ByNumber.{ReadingIn, reading_of}
use Rattle.board.specs.Content.{Content}
use Rattle.board.specs.Settling.{Record}
use Rattle.board.specs.Computing.{Reading, reading_at, limit_by, better_by, better, best_moments, best_rows, recorded_reading}
use Rattle.std.proofs.lemmas.Option.{slice_get-get_or}
use Rattle.std.proofs.lemmas.List.{length-take-le, take_more, take_all}

-- the row that a loop over a content's rows has reached
pub row_at : (rs rows : List Row) (i : ℕ) (d : Row) → rs ≡ rows → i < length rs → slice_get rows i ≡ Some (get_or rs i d)
row_at rs rows i d same h = ap (λ zs. slice_get zs i) (sym same) ∙ slice_get-get_or rs i d h

-- no moments yet, and one more
pub moments_none : (m : Meaning) (c : Content) (log : List Record) (i n : ℕ) (b : Option Reading) → b ≡ best_moments m c log i n 0 b
unfolding best_moments
moments_none m c log i n b = refl

pub moments_more : (m : Meaning) (c : Content) (log : List Record) (i n t : ℕ) (b x y r : Option Reading) → x ≡ best_moments m c log i n t b → y ≡ reading_at m c log i (n, t) → r ≡ better m x y → r ≡ best_moments m c log i n (t + 1) b
unfolding best_moments
moments_more m c log i n t b x y r e f g = rw add-one (g ∙ ap (λ z. better m z y) e ∙ ap (better m (best_moments m c log i n t b)) f)

-- a row more at the end
row_last : (m : Meaning) (c : Content) (log : List Record) (i n : ℕ) (rs : List Row) (r : Row) (b : Option Reading) → i + length rs ≡ n → best_rows m c log i (rs ++ (r ∷ [])) b ≡ best_moments m c log n r.from c.moments (best_rows m c log i rs b)
unfolding best_rows
row_last m c log i n [] r b e =
    let same : i ≡ n = omega (arith, e) in
    ap (λ z. best_moments m c log z r.from c.moments b) same
row_last m c log i n (s ∷ rs) r b e = row_last m c log (suc i) n rs r (best_moments m c log i s.from c.moments b) (omega (arith, e))

-- the best of the readings by the rows below n
abbrev pub best_below : Meaning → Content → List Record → ℕ → Option Reading
best_below m c log n = best_rows m c log 0 (take n c.rows) None

-- no rows yet, and one more
pub rows_none : (m : Meaning) (c : Content) (log : List Record) → None ≡ best_below m c log 0
unfolding best_rows
rows_none m c log = refl

pub rows_more : (m : Meaning) (c : Content) (log : List Record) (i u : ℕ) (rs : List Row) (d : Row) (x : Option Reading) → rs ≡ c.rows → i < length rs → u ≤ c.moments → c.moments ≤ u → x ≡ best_moments m c log i (get_or rs i d).from u (best_below m c log i) → x ≡ best_below m c log (i + 1)
rows_more m c log i u rs d x same h k l e =
    let all : u ≡ c.moments = omega arith in
    let rows : take (i + 1) c.rows ≡ take i c.rows ++ (get_or rs i d ∷ []) = ap (take (i + 1)) (sym same) ∙ take_more rs i d h ∙ ap (λ (ys : List Row). take i ys ++ (get_or rs i d ∷ [])) same in
    let n : length (take i c.rows) ≡ i = length-take-le i c.rows (omega (arith, h, ap length same)) in
    e
    ∙ ap (λ z. best_moments m c log i (get_or rs i d).from z (best_below m c log i)) all
    ∙ sym (row_last m c log 0 i (take i c.rows) (get_or rs i d) None (omega (arith, n)))
    ∙ ap (λ ys. best_rows m c log 0 ys None) (sym rows)

pub rows_all : (m : Meaning) (c : Content) (log : List Record) (i : ℕ) (rs : List Row) (x : Option Reading) → rs ≡ c.rows → i ≤ length rs → length rs ≤ i → x ≡ best_below m c log i → x ≡ recorded_reading m c log
unfolding recorded_reading
rows_all m c log i rs x same h k e = e ∙ ap (λ ys. best_rows m c log 0 ys None) (take_all i c.rows (omega (arith, k, ap length same)))

-- the better of two readings, told by their records
pub reading_better : (m : Meaning) (l : Log) (a b : Option LogReading) → reading_of l (better_by m (λ r. r.cost) a b) ≡ better m (reading_of l a) (reading_of l b)
reading_better m l a None = refl
reading_better m l None (Some x) = by (m.no_dearer m.worst x.cost)
  where
    by : (t : Bool) → reading_of l (cond t None (Some x)) ≡ cond t None (reading_of l (Some x))
    by true = refl
    by false = refl
reading_better m l (Some f) (Some x) = by (m.no_dearer f.cost x.cost)
  where
    by : (t : Bool) → reading_of l (cond t (Some f) (Some x)) ≡ cond t (reading_of l (Some f)) (reading_of l (Some x))
    by true = refl
    by false = refl

-- it is one of the two
pub better_within : (m : Meaning) (n t : ℕ) (a b : Option LogReading) → ReadingIn n t a → ReadingIn n t b → ReadingIn n t (better_by m (λ r. r.cost) a b)
better_within m n t a None h k = h
better_within m n t a (Some x) h k = by (m.no_dearer (limit_by m (λ r. r.cost) a) x.cost)
  where
    by : (q : Bool) → ReadingIn n t (cond q a (Some x))
    by true = h
    by false = k
