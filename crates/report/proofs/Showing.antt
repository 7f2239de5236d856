-- The moves of a complete reading are by rows that are held, and what is printed of a file is one text.
use Rattle.std.proofs.Common.{◌≡◌, ℕ, zero, suc, ◌<◌, ◌≤◌, ◌+◌, Bool, true, false, leb, List, [], ◌∷◌, ◌++◌, map, length, take, drop, get_or, Ok, Err, Result, String, Global, string_bytes, IfOk, inl, inr, ⊎_elim, sym, refl, ap, ap₂, ◌∙◌, subst, append-nil, arith}
use Rattle.std.specs.List.{All}
use Rattle.std.proofs.lemmas.Option.{same_Some}
use Rattle.std.proofs.lemmas.Bool.{both_ways, leb-true, leb-false}
use Rattle.std.proofs.lemmas.List.{append_assoc, take_more}
use Rattle.std.proofs.Math.Seq.{take-append_seam}
use Rattle.costs.specs.Meaning.{Meaning, Lawful}
use Rattle.board.specs.declared.row.Row.{Row}
use Rattle.board.specs.declared.moves.Move.{Move}
use Rattle.board.specs.declared.moves.Effect.{Effect}
use Rattle.board.specs.declared.refusal.Refusal.{Refusal}
use Rattle.board.specs.declared.refusal.Refusal.TheVariants.{NoReading, TooLong}
use Rattle.board.specs.Content.{Content, Sound}
use Rattle.board.specs.Moves.{Place, IsMove}
use Rattle.board.specs.Paths.{Path, stop, go}
use Rattle.board.specs.Settling.{bare, RecordedReading, AnswersCost}
use Rattle.board.specs.Computing.{settled_log}
use Rattle.board.specs.Promises.{CallsKeepEaseAndSettle, RecordedIsCheapest, NoReadingBelowWorst}
use Rattle.board.specs.Meanings.{WritesCheapest, WritingDeclined}
use Rattle.file.specs.Load.{load_answer, load_after}
use Rattle.file.specs.declared.refusal.LoadFault.{LoadFault}
use Rattle.file.specs.Parts.{PartRead}
use Rattle.report.specs.Adding.{ByHeldRow, LinesAdded}
use Rattle.report.specs.Least.{move_line, bad_line, no_line, cost_line, most_moves, LinesOf, none, one_more, SettledText, reading, too_long, no_reading, FileText, loaded, declined, Prints, PrintsSome}

-- what holds of a value, if there is one, follows from what does
pub if_ok : {X E : Type 0} {P Q : X → Type 0} → ((x : X) → P x → Q x) → (r : Result X E) → IfOk r P → IfOk r Q
if_ok f (Ok x) h = f x h
if_ok f (Err e) h = tt

-- the moves of a path are by rows of the content
path_held : {m : Meaning} {c : Content} {vs : List Move} {p q : Place} {ks : List ℕ} {es : List Effect} → Path m c vs p q ks es → All (ByHeldRow c) vs
path_held stop k d h = absurd (omega (arith, h))
path_held (go {v} g p) zero d h = record { by = g.by; found = g.found }
path_held (go g p) (suc k) d h = path_held p k d (omega (arith, h))

map_self : (vs : List Move) → map (λ v. v) vs ≡ vs
map_self [] = refl
map_self (v ∷ vs) = ap (λ (ws : List Move). v ∷ ws) (map_self vs)

-- the lines of moves by held rows
held_lines : {c : Content} {vs : List Move} → All (ByHeldRow c) vs → (text : List ℕ) × LinesOf c vs text
held_lines {vs = []} h = ([], none)
held_lines {c} {vs = v ∷ vs} h =
    let first = h 0 (bare 0) (omega arith) in
    let rest = held_lines {c = c} {vs = vs} (λ k d l. h (suc k) d (omega (arith, l))) in
    (move_line v first.by ++ rest.0, one_more first.found rest.1)

-- one move's line more
pub line_more : {c : Content} (vs : List Move) (v : Move) (r : Row) (text : List ℕ) → LinesOf c vs text → IsMove c v.row r → LinesOf c (vs ++ (v ∷ [])) (text ++ move_line v r)
line_more {c} [] v r text none h = subst (LinesOf c (v ∷ [])) (append-nil (move_line v r)) (one_more h none)
line_more (w ∷ vs) v r _ (one_more {r = s} {text} k p) h =
    subst (LinesOf _ (w ∷ (vs ++ (v ∷ [])))) (sym (append_assoc (move_line w s) text (move_line v r))) (one_more k (line_more vs v r text p h))

-- one move's line is added to lines of the moves before it
pub added_more : (c : Content) (vs : List Move) (i : ℕ) → i < length vs → (r : Row) → IsMove c (get_or vs i (bare 0)).row r → (old now new : List ℕ) → LinesAdded c (take i vs) old now → new ≡ now ++ move_line (get_or vs i (bare 0)) r → LinesAdded c (take (i + 1) vs) old new
added_more c vs i within r held old now new lines e =
    let v = get_or vs i (bare 0) in
    record {
      text = lines.text ++ move_line v r;
      each = subst (λ (ws : List Move). LinesOf c ws (lines.text ++ move_line v r)) (sym (take_more vs i (bare 0) within)) (line_more (take i vs) v r lines.text lines.each held);
      added = e ∙ ap (λ (t : List ℕ). t ++ move_line v r) lines.added ∙ append_assoc old lines.text (move_line v r);
    }

-- moves have one text of lines
one_of_lines : {c : Content} {vs : List Move} {a b : List ℕ} → LinesOf c vs a → LinesOf c vs b → a ≡ b
one_of_lines none none = refl
one_of_lines (one_more {v} {r} h p) (one_more {r = s} k q) = ap₂ (λ (x : Row) (t : List ℕ). move_line v x ++ t) (same_Some _ _ (sym h ∙ k)) (one_of_lines p q)

module _ {m : Meaning} (laws : Lawful m) (promises : CallsKeepEaseAndSettle) {c : Content} (sound : Sound m c) where
  cheapest : RecordedIsCheapest m c (settled_log m c)
  cheapest = ((promises.settling m c laws sound).1 (settled_log m c) (promises.computed m c laws sound).settled).1

  -- there is no recorded reading where none is below the worst
  not_both : {k : ℕ} {vs : List Move} → RecordedReading m c (settled_log m c) k vs → NoReadingBelowWorst m c → ⊥
  not_both {k} {vs} r below = both_ways _ r.below (cheapest.none.1 below r.last k vs r.reads)

  same_length : {k n : ℕ} {vs ws : List Move} → RecordedReading m c (settled_log m c) k vs → RecordedReading m c (settled_log m c) n ws → length vs ≡ length ws
  same_length {k} {n} {vs} {ws} r s = ap length (cheapest.single k n vs ws r s).1

  -- the text that a settled content has
  answered_text : {k : ℕ} → AnswersCost m c (settled_log m c) k → (text : List ℕ) × SettledText m c text
  answered_text {k} (inl (vs, r)) = by (held_lines (path_held (cheapest.complete k vs r).path)) (leb (length vs) most_moves) refl
    where
      by : (text : List ℕ) × LinesOf c vs text → (b : Bool) → leb (length vs) most_moves ≡ b → (text : List ℕ) × SettledText m c text
      by t true e = (cost_line m.letter k (length vs) ++ t.0, reading r (leb-true _ _ e) t.1)
      by t false e = (no_line TooLong, too_long r (leb-false _ _ e))
  answered_text (inr h) = (no_line NoReading, no_reading (cheapest.none.0 h.0))

  settled_text : (text : List ℕ) × SettledText m c text
  settled_text = answered_text cheapest.answered.1

  -- it has no other
  one_settled : {a b : List ℕ} → SettledText m c a → SettledText m c b → a ≡ b
  one_settled (reading {k} {vs} {text = x} r short p) (reading {k = n} {vs = ws} {text = y} s short' q) =
      let e = cheapest.single k n vs ws r s in
      let same : x ≡ y = one_of_lines (subst (λ (zs : List Move). LinesOf c zs x) e.1 p) q in
      ap₂ (λ (l t : List ℕ). l ++ t) (ap₂ (λ (i j : ℕ). cost_line m.letter i j) e.0 (same_length r s)) same
  one_settled (reading r short p) (too_long s long) = absurd (omega (arith, same_length r s, short, long))
  one_settled (reading r short p) (no_reading below) = absurd (not_both r below)
  one_settled (too_long r long) (reading s short p) = absurd (omega (arith, same_length r s, short, long))
  one_settled (too_long r long) (too_long s long') = refl
  one_settled (too_long r long) (no_reading below) = absurd (not_both r below)
  one_settled (no_reading below) (reading s short p) = absurd (not_both s below)
  one_settled (no_reading below) (too_long s long) = absurd (not_both s below)
  one_settled (no_reading below) (no_reading below') = refl

  -- what stands in a buffer of 4,096 moves, once the reading is written
  module _ (buffer after : List Move) (n : ℕ) (w : WritesCheapest (λ v. v) m c (settled_log m c) buffer n after) where
    in_front : take n after ≡ w.reading
    in_front =
        ap (take n) (w.written ∙ ap (λ (vs : List Move). vs ++ drop n buffer) (map_self w.reading))
        ∙ ap (λ (i : ℕ). take i (w.reading ++ drop n buffer)) w.number
        ∙ take-append_seam w.reading (drop n buffer)

    pub front_held : All (ByHeldRow c) (take n after)
    front_held = subst (All (ByHeldRow c)) (sym in_front) (path_held (cheapest.complete w.cost w.reading w.recorded).path)

    -- the text of the first line and their lines
    pub printed : {k : ℕ} {vs : List Move} (old new : List ℕ) → RecordedReading m c (settled_log m c) k vs → length buffer ≤ most_moves → old ≡ cost_line m.letter k n → LinesAdded c (take n after) old new → SettledText m c new
    printed {k} {vs} old new r small first lines =
        let e = cheapest.single k w.cost vs w.reading r w.recorded in
        let each : LinesOf c w.reading lines.text = subst (λ (zs : List Move). LinesOf c zs lines.text) in_front lines.each in
        let short : length w.reading ≤ most_moves = omega (arith, w.room, w.number, small) in
        let whole : cost_line m.letter w.cost (length w.reading) ++ lines.text ≡ new =
        ap (λ (l : List ℕ). l ++ lines.text) (sym (first ∙ ap₂ (λ (i j : ℕ). cost_line m.letter i j) e.0 w.number)) ∙ sym lines.added in
        subst (SettledText m c) whole (reading w.recorded short each)

-- what is printed of the cost question's refusal
pub told_none : {m : Meaning} {c : Content} {e : Refusal} → (e ≡ NoReading) × NoReadingBelowWorst m c → (s : String Global) → string_bytes s ≡ no_line e → SettledText m c (string_bytes s)
told_none {m} {c} why s is = subst (SettledText m c) (sym (is ∙ ap no_line why.0)) (no_reading why.1)

-- what is printed where writing the moves is declined
pub told_declined : {m : Meaning} {c : Content} {e : Refusal} (buffer : List Move) → most_moves ≤ length buffer → WritingDeclined m c (settled_log m c) buffer e → (s : String Global) → string_bytes s ≡ no_line e → SettledText m c (string_bytes s)
told_declined {m} {c} buffer room (inl why) s is = told_none why s is
told_declined {m} {c} buffer room (inr why) s is =
    let long = why.1 in
    let many : most_moves < length long.reading = ⊎_elim (λ h. omega (arith, h, room)) (λ h. omega (arith, h)) long.longer in
    subst (SettledText m c) (sym (is ∙ ap no_line why.0)) (too_long long.recorded many)

-- the text that a file has
file_text : {m : Meaning} (laws : Lawful m) (promises : CallsKeepEaseAndSettle) (bytes : List ℕ) → Sound m (load_after m bytes) → (o : Result PartRead LoadFault) → load_answer m bytes ≡ o → (text : List ℕ) × FileText m bytes text
file_text laws promises bytes sound (Ok note) e = let t = settled_text laws promises sound in (t.0, loaded e t.1)
file_text laws promises bytes sound (Err fault) e = (bad_line fault, declined e)

-- it has no other
same_file_text : {m : Meaning} (laws : Lawful m) (promises : CallsKeepEaseAndSettle) (bytes : List ℕ) → Sound m (load_after m bytes) → (a b : List ℕ) → FileText m bytes a → FileText m bytes b → a ≡ b
same_file_text laws promises bytes sound a b (loaded e s) (loaded e' s') = one_settled laws promises sound s s'
same_file_text laws promises bytes sound a b (loaded e s) (declined e') = absurd (cc (e, e'))
same_file_text laws promises bytes sound a b (declined e) (loaded e' s') = absurd (cc (e, e'))
same_file_text laws promises bytes sound a b (declined {fault = x} e) (declined {fault = y} e') =
    let same : x ≡ y = cc (e, e') in
    ap bad_line same

-- so it has just this one,
pub prints : {m : Meaning} (laws : Lawful m) (promises : CallsKeepEaseAndSettle) (bytes : List ℕ) → Sound m (load_after m bytes) → (text : List ℕ) → FileText m bytes text → Prints m bytes text
prints laws promises bytes sound text p = record { is = p; only = λ other q. same_file_text laws promises bytes sound other text q p }

-- and it has one
pub prints_some : {m : Meaning} (laws : Lawful m) (promises : CallsKeepEaseAndSettle) (bytes : List ℕ) → Sound m (load_after m bytes) → PrintsSome m bytes
prints_some {m} laws promises bytes sound = let t = file_text laws promises bytes sound (load_answer m bytes) refl in (t.0, prints laws promises bytes sound t.0 t.1)
