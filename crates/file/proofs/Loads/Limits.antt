-- The rows and lines that the board takes one after the other are those within the limits.
use Rattle.std.proofs.Common.{◌≡◌, ℕ, ◌+◌, ◌*◌, ◌^◌, ◌<◌, ◌≤◌, true, List, [], ◌∷◌, ◌++◌, map, length, drop, Some, None, Ok, Err, Option, Result, sym, refl, ◌∙◌, subst, append_assoc, append-nil, arith, length-append}
use Rattle.std.proofs.lemmas.Bool.Decides.{nat_tests}
use Rattle.std.specs.List.{flat_map, AllByRecursion}
use Rattle.costs.specs.Meaning.{Meaning, Cost}
use Rattle.board.specs.declared.refusal.Refusal.{Refusal}
use Rattle.board.specs.declared.row.Row.{Row}
use Rattle.board.specs.declared.row.Line.{Line}
use Rattle.board.specs.Rows.{formed}
use Rattle.board.specs.Content.{Content}
use Rattle.board.specs.Calls.{row_refusal, row_after, with_row, line_refusal, line_after, with_line}
use Rattle.file.specs.Fields.{row_read, line_read}
use Rattle.file.specs.Records.{go_on, called, row_added, line_added, trusted_line, row_record, line_record, records_added}
use Rattle.file.specs.Layout.{row_word, line_word, row_bytes, line_bytes, Byte, RowLimits, LineLimits}
use Rattle.file.proofs.Loads.Words.{RowFits, row_word_fits, row_word_read, row_read_word, LineFits, line_word_fits, line_word_read, line_read_word}
use Rattle.file.proofs.Loads.Sequences.{Run, WasAdded, records_run, records_were}

-- a row that the board takes
pub record RowTaken (m : Meaning) (c : Content) (r : Row) : Type 0 where
  pub room : length c.rows < 128
  pub from_in : r.from < c.modes
  pub to_in : r.to < c.modes
  pub well_formed : formed r.kind r ≡ true
  pub price : Cost m r.cost

module _ (m : Meaning) (c : Content) (r : Row) where
  pub row_taken : row_refusal m c r ≡ None → RowTaken m c r
  row_taken h = record { room = grind (arith, nat_tests); from_in = grind (arith, nat_tests); to_in = grind (arith, nat_tests); well_formed = grind (arith, nat_tests); price = grind (arith, nat_tests) }

  pub takes_row : RowTaken m c r → row_refusal m c r ≡ None
  takes_row h = grind (arith, nat_tests)

-- a line that the board takes
pub record LineTaken (m : Meaning) (c : Content) (l : Line) : Type 0 where
  pub room : length c.lines < 128
  pub from_in : l.from < c.moments
  pub to_in : l.to < c.moments
  pub some_event : 0 < l.event
  pub price : Cost m l.cost

module _ (m : Meaning) (c : Content) (l : Line) where
  pub line_taken : line_refusal m c l ≡ None → LineTaken m c l
  line_taken h = record { room = grind (arith, nat_tests); from_in = grind (arith, nat_tests); to_in = grind (arith, nat_tests); some_event = grind (arith, nat_tests); price = grind (arith, nat_tests) }

  pub takes_line : LineTaken m c l → line_refusal m c l ≡ None
  takes_line h = grind (arith, nat_tests)

-- what was answered before an answer that followed it
pub record WentOn {X Y E : Type 0} (o : Result X E) (k : X → Result Y E) (y : Y) : Type 0 where
  pub value : X
  pub answered : o ≡ Ok value
  pub then : k value ≡ Ok y

pub went_on : {X Y E : Type 0} (o : Result X E) (k : X → Result Y E) (y : Y) → go_on o k ≡ Ok y → WentOn o k y
went_on (Ok x) k y h = record { value = x; answered = refl; then = h }
went_on (Err e) k y h = absurd cc

-- a call that the board took
pub was_called : (o : Option Refusal) (after d : Content) → called o after ≡ Ok d → (o ≡ None) × (after ≡ d)
was_called None after d h = (refl, cc)
was_called (Some e) after d h = absurd cc

-- the board takes the row, or the line as trust has it
abbrev pub TakesRow : Meaning → Content → Row → Type 0
TakesRow m c r = row_refusal m c r ≡ None

abbrev pub TakesLine : Meaning → ℕ → Content → Line → Type 0
TakesLine m trust c l = line_refusal m c (trusted_line m trust l) ≡ None

abbrev pub line_put : Meaning → ℕ → Content → Line → Content
line_put m trust c l = line_after m c (trusted_line m trust l)

-- so many rows, or lines as trust has them, put last
abbrev pub with_rows : Content → List Row → Content
with_rows c rs = record { modes = c.modes; moments = c.moments; rows = c.rows ++ rs; lines = c.lines }

abbrev pub with_lines : Meaning → ℕ → Content → List Line → Content
with_lines m trust c ls = record { modes = c.modes; moments = c.moments; rows = c.rows; lines = c.lines ++ map (trusted_line m trust) ls }

module _ (m : Meaning) (trust : ℕ) where
  pub row_forth : (c : Content) (r : Row) → RowFits r → TakesRow m c r → row_record m c (row_word r) ≡ Ok (row_after m c r)
  unfolding row_added
  row_forth c r fits taken = rw (row_word_read r fits, taken)

  pub row_back : (c d : Content) (w : ℕ) → w < 2 ^ 64 → row_record m c w ≡ Ok d → WasAdded row_word RowFits (TakesRow m) (row_after m) c d w
  unfolding row_added
  row_back c d w b h =
      let g = went_on (row_read w) (row_added m c) d h in
      let k = was_called (row_refusal m c g.value) (row_after m c g.value) d g.then in
      let was = row_read_word w g.value b g.answered in
      record { entry = g.value; fits = was.0; is = was.1; taken = k.0; after = k.1 }

  pub line_forth : (c : Content) (l : Line) → LineFits l → TakesLine m trust c l → line_record m trust c (line_word l) ≡ Ok (line_put m trust c l)
  unfolding line_added
  line_forth c l fits taken = rw (line_word_read l fits, taken)

  pub line_back : (c d : Content) (w : ℕ) → w < 2 ^ 64 → line_record m trust c w ≡ Ok d → WasAdded line_word LineFits (TakesLine m trust) (line_put m trust) c d w
  unfolding line_added
  line_back c d w b h =
      let g = went_on (line_read w) (λ (l : Line). line_added m c (trusted_line m trust l)) d h in
      let k = was_called (line_refusal m c (trusted_line m trust g.value)) (line_put m trust c g.value) d g.then in
      let was = line_read_word w g.value b g.answered in
      record { entry = g.value; fits = was.0; is = was.1; taken = k.0; after = k.1 }

  -- what a row or a line that is taken leaves
  row_left : (c : Content) (r : Row) → TakesRow m c r → row_after m c r ≡ with_row c r
  row_left c r h = rw h

  line_left : (c : Content) (l : Line) → TakesLine m trust c l → line_put m trust c l ≡ with_line c (trusted_line m trust l)
  line_left c l h = rw h

  more_rows : (c : Content) (r : Row) (rs : List Row) → with_rows (with_row c r) rs ≡ with_rows c (r ∷ rs)
  more_rows c r rs = rw (append_assoc c.rows (r ∷ []) rs)

  more_lines : (c : Content) (l : Line) (ls : List Line) → with_lines m trust (with_line c (trusted_line m trust l)) ls ≡ with_lines m trust c (l ∷ ls)
  more_lines c l ls = rw (append_assoc c.lines (trusted_line m trust l ∷ []) (map (trusted_line m trust) ls))

  -- one more is held
  row_room : (c : Content) (r : Row) → length (with_row c r).rows ≡ length c.rows + 1
  row_room c r = length-append c.rows (r ∷ [])

  line_room : (c : Content) (l : Line) → length (with_line c l).lines ≡ length c.lines + 1
  line_room c l = length-append c.lines (l ∷ [])

  -- the rows that the board takes one after the other are within the limits
  pub rows_limited : (rs : List Row) (c d : Content) → length c.rows ≤ 128 → Run RowFits (TakesRow m) (row_after m) c rs d → (length c.rows + length rs ≤ 128) × AllByRecursion (RowLimits m c.modes) rs × (d ≡ with_rows c rs)
  rows_limited [] c d few r = (omega arith, tt, r ∙ rw (append-nil c.rows))
  rows_limited (x ∷ rs) c d few (fits, taken, r) =
      let t = row_taken m c x taken in
      let room = row_room c x in
      let on = rows_limited rs (with_row c x) d (omega arith) (subst (λ (y : Content). Run RowFits (TakesRow m) (row_after m) y rs d) (row_left c x taken) r) in
      let x-keeps : RowLimits m c.modes x = record {
        from_in = t.from_in;
        to_in = t.to_in;
        well_formed = t.well_formed;
        price = t.price;
        from_fits = fits.from_fits;
        to_fits = fits.to_fits;
        label_fits = fits.label_fits;
        action_fits = fits.action_fits;
        cost_fits = fits.cost_fits;
      } in
      (omega (arith, on.0), (x-keeps, on.1), on.2 ∙ more_rows c x rs)

  -- and rows within the limits are taken one after the other
  pub limited_rows : (rs : List Row) (c : Content) → length c.rows + length rs ≤ 128 → AllByRecursion (RowLimits m c.modes) rs → Run RowFits (TakesRow m) (row_after m) c rs (with_rows c rs)
  limited_rows [] c few e = rw (append-nil c.rows)
  limited_rows (x ∷ rs) c few (k, e) =
      let room = row_room c x in
      let fits : RowFits x = record { from_fits = k.from_fits; to_fits = k.to_fits; label_fits = k.label_fits; action_fits = k.action_fits; cost_fits = k.cost_fits } in
      let taken : TakesRow m c x = takes_row m c x (record { room = omega arith; from_in = k.from_in; to_in = k.to_in; well_formed = k.well_formed; price = k.price }) in
      let on = limited_rows rs (with_row c x) (omega arith) e in
      let at : Run RowFits (TakesRow m) (row_after m) (with_row c x) rs (with_rows c (x ∷ rs)) = subst (λ (y : Content). Run RowFits (TakesRow m) (row_after m) (with_row c x) rs y) (more_rows c x rs) on in
      (fits, taken, subst (λ (y : Content). Run RowFits (TakesRow m) (row_after m) y rs (with_rows c (x ∷ rs))) (sym (row_left c x taken)) at)

  -- the same of lines
  pub lines_limited : (ls : List Line) (c d : Content) → length c.lines ≤ 128 → Run LineFits (TakesLine m trust) (line_put m trust) c ls d → (length c.lines + length ls ≤ 128) × AllByRecursion (LineLimits m c.moments trust) ls × (d ≡ with_lines m trust c ls)
  lines_limited [] c d few r = (omega arith, tt, r ∙ rw (append-nil c.lines))
  lines_limited (x ∷ ls) c d few (fits, taken, r) =
      let t = line_taken m c (trusted_line m trust x) taken in
      let room = line_room c (trusted_line m trust x) in
      let on = lines_limited ls (with_line c (trusted_line m trust x)) d (omega arith) (subst (λ (y : Content). Run LineFits (TakesLine m trust) (line_put m trust) y ls d) (line_left c x taken) r) in
      let x-keeps : LineLimits m c.moments trust x = record {
        from_in = t.from_in;
        to_in = t.to_in;
        some_event = t.some_event;
        price = t.price;
        from_fits = fits.from_fits;
        to_fits = fits.to_fits;
        event_fits = fits.event_fits;
        cost_fits = fits.cost_fits;
      } in
      (omega (arith, on.0), (x-keeps, on.1), on.2 ∙ more_lines c x ls)

  pub limited_lines : (ls : List Line) (c : Content) → length c.lines + length ls ≤ 128 → AllByRecursion (LineLimits m c.moments trust) ls → Run LineFits (TakesLine m trust) (line_put m trust) c ls (with_lines m trust c ls)
  limited_lines [] c few e = rw (append-nil c.lines)
  limited_lines (x ∷ ls) c few (k, e) =
      let room = line_room c (trusted_line m trust x) in
      let fits : LineFits x = record { from_fits = k.from_fits; to_fits = k.to_fits; event_fits = k.event_fits; cost_fits = k.cost_fits } in
      let taken : TakesLine m trust c x = takes_line m c (trusted_line m trust x) (record { room = omega arith; from_in = k.from_in; to_in = k.to_in; some_event = k.some_event; price = k.price }) in
      let on = limited_lines ls (with_line c (trusted_line m trust x)) (omega arith) e in
      let at : Run LineFits (TakesLine m trust) (line_put m trust) (with_line c (trusted_line m trust x)) ls (with_lines m trust c (x ∷ ls)) = subst (λ (y : Content). Run LineFits (TakesLine m trust) (line_put m trust) (with_line c (trusted_line m trust x)) ls y) (more_lines c x ls) on in
      (fits, taken, subst (λ (y : Content). Run LineFits (TakesLine m trust) (line_put m trust) y ls (with_lines m trust c (x ∷ ls))) (sym (line_left c x taken)) at)

-- the rows, or the lines, that a section's bytes are read as
pub record RowsRead (m : Meaning) (c d : Content) (n : ℕ) (bs : List ℕ) : Type 0 where
  pub rows : List Row
  pub count : length rows ≡ n
  pub laid : bs ≡ flat_map row_bytes rows ++ drop (8 * n) bs
  pub few : length c.rows + length rows ≤ 128
  pub keep : AllByRecursion (RowLimits m c.modes) rows
  pub after : d ≡ with_rows c rows

pub record LinesRead (m : Meaning) (trust : ℕ) (c d : Content) (n : ℕ) (bs : List ℕ) : Type 0 where
  pub lines : List Line
  pub count : length lines ≡ n
  pub laid : bs ≡ flat_map line_bytes lines ++ drop (8 * n) bs
  pub few : length c.lines + length lines ≤ 128
  pub keep : AllByRecursion (LineLimits m c.moments trust) lines
  pub after : d ≡ with_lines m trust c lines

module _ (m : Meaning) (trust : ℕ) where
  pub rows_forth : (rs : List Row) (rest : List ℕ) (place : ℕ) (c : Content) → length c.rows + length rs ≤ 128 → AllByRecursion (RowLimits m c.modes) rs → records_added (row_record m) (length rs) (flat_map row_bytes rs ++ rest) place c ≡ Ok (with_rows c rs)
  rows_forth rs rest place c few e = records_run (row_record m) row_word RowFits (TakesRow m) (row_after m) row_word_fits (row_forth m trust) (row_back m trust) rs rest place c (with_rows c rs) (limited_rows m trust rs c few e)

  pub rows_back : (n : ℕ) (bs : List ℕ) (place : ℕ) (c d : Content) → AllByRecursion Byte bs → length c.rows ≤ 128 → records_added (row_record m) n bs place c ≡ Ok d → RowsRead m c d n bs
  rows_back n bs place c d e few h =
      let w = records_were (row_record m) row_word RowFits (TakesRow m) (row_after m) row_word_fits (row_forth m trust) (row_back m trust) n bs place c d e h in
      let l = rows_limited m trust w.entries c d few w.run in
      record { rows = w.entries; count = w.count; laid = w.laid; few = l.0; keep = l.1; after = l.2 }

  pub lines_forth : (ls : List Line) (rest : List ℕ) (place : ℕ) (c : Content) → length c.lines + length ls ≤ 128 → AllByRecursion (LineLimits m c.moments trust) ls → records_added (line_record m trust) (length ls) (flat_map line_bytes ls ++ rest) place c ≡ Ok (with_lines m trust c ls)
  lines_forth ls rest place c few e = records_run (line_record m trust) line_word LineFits (TakesLine m trust) (line_put m trust) line_word_fits (line_forth m trust) (line_back m trust) ls rest place c (with_lines m trust c ls) (limited_lines m trust ls c few e)

  pub lines_back : (n : ℕ) (bs : List ℕ) (place : ℕ) (c d : Content) → AllByRecursion Byte bs → length c.lines ≤ 128 → records_added (line_record m trust) n bs place c ≡ Ok d → LinesRead m trust c d n bs
  lines_back n bs place c d e few h =
      let w = records_were (line_record m trust) line_word LineFits (TakesLine m trust) (line_put m trust) line_word_fits (line_forth m trust) (line_back m trust) n bs place c d e h in
      let l = lines_limited m trust w.entries c d few w.run in
      record { lines = w.entries; count = w.count; laid = w.laid; few = l.0; keep = l.1; after = l.2 }
