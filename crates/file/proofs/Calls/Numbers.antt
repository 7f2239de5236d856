-- A call gives a refusal of its own numbers alone.
use Rattle.std.proofs.Common.{◌≡◌, ℕ, zero, suc, ◌+◌, Bool, true, false, cond, eqb, ltb, List, [], ◌∷◌, length, drop, Some, None, Ok, Err, Option, Result, refl, subst, inl, inr, rules}
use Rattle.std.specs.Borrow.{Bor}
use Rattle.std.specs.Option.{IfSome}
use Rattle.std.specs.Result.{IfErr}
use Rattle.std.proofs.lemmas.Bool.{eqb-true}
use Rattle.costs.specs.Meaning.{Meaning}
use Rattle.board.specs.declared.check.Fault.{Fault}
use Rattle.board.specs.declared.moves.Arrival.{Arrival}
use Rattle.board.specs.declared.moves.Effect.{Effect}
use Rattle.board.specs.declared.moves.Effect.TheVariants as effect
use Rattle.board.specs.declared.refusal.Refusal.{Refusal}
use Rattle.board.specs.declared.refusal.Refusal.TheVariants as refusal
use Rattle.board.specs.declared.row.Row.{Row}
use Rattle.board.specs.declared.row.Line.{Line}
use Rattle.board.specs.Arrivals.{arrival_by}
use Rattle.board.specs.Content.{Content, new}
use Rattle.board.specs.Calls.{size_refusal, size_after, row_refusal, row_after, line_refusal, line_after, reprice_refusal}
use Rattle.board.specs.Checks.{bracketed, Progress, before_moves, arrived, take_named, named_by_number, take_move, or_fault, checked_from, check_answer}
use Rattle.board.specs.Computing.{Reading, record_between, recorded_reading}
use Rattle.board.specs.Packing.{unpacked}
use Rattle.board.specs.Questions.{recorded_cost, cost_told, written_told, between_answer}
use Rattle.board.specs.Refusals.{number, answer}
use Rattle.board.specs.Settling.{In, Record}
use Rattle.file.specs.declared.call.Call.{Call}
use Rattle.file.specs.declared.call.Call.TheVariants as call
use Rattle.file.specs.declared.refusal.FileRefusal.{FileRefusal}
use Rattle.file.specs.declared.refusal.FileRefusal.TheVariants as refused
use Rattle.file.specs.declared.refusal.LoadFault.{LoadFault}
use Rattle.file.specs.Fields.{word4, word8, header_read, row_read, line_read}
use Rattle.file.specs.Parts.{PartRead}
use Rattle.file.specs.Records.{go_on, at_place, called, row_added, line_added, trusted_line, row_record, line_record, record_next, records_added}
use Rattle.file.specs.Refusals.{file_number}
use Rattle.file.specs.Sections.{rows_code, lines_code, note_code, SectionRead, next_section, past}
use Rattle.file.specs.Load.{Loaded, loaded_as, with_content, section_added, comes, in_turn, at_end, from_note, from_lines, from_rows, sized, opened, loaded, note_answer, load_answer, after_header, no_note}
use Rattle.file.specs.States.{draft, settled}
use Rattle.file.specs.Answers.{spanned, error_number, refused_with, step_answer, can_give, GivesItsNumbers}

-- whether a number is in the list, and what that says
abbrev among : ℕ → List ℕ → Bool
among n [] = false
among n (k ∷ ks) = cond (eqb n k) true (among n ks)

listed : (n : ℕ) (ks : List ℕ) → among n ks ≡ true → In n ks
listed n [] e = absurd cc
listed n (k ∷ ks) e = by (eqb n k) refl e (listed n ks)
  where
    by : (b : Bool) → eqb n k ≡ b → cond b true (among n ks) ≡ true → (among n ks ≡ true → In n ks) → In n (k ∷ ks)
    by true h t rest = inl (eqb-true n k h)
    by false h t rest = inr (rest t)

-- the number of an answer's error is one of the list's, where each error's is
given : {X E : Type 0} (f : E → ℕ) (r : Result X E) (ks : List ℕ) (n : ℕ) → IfErr r (λ e. among (f e) ks ≡ true) → error_number f r ≡ Some n → In n ks
given f (Ok x) ks n h e = absurd cc
given f (Err y) ks n h e =
    let same : f y ≡ n = cc in
    subst (λ (k : ℕ). In k ks) same (listed (f y) ks h)

-- what holds of each error
module _ {E : Type 0} (P : E → Type 0) where
  one_more : (b : Bool) (e : E) (o : Option E) → P e → IfSome o P → IfSome (cond b (Some e) o) P
  one_more true e o h k = h
  one_more false e o h k = k

  either : {X : Type 0} (b : Bool) (x y : Result X E) → IfErr x P → IfErr y P → IfErr (cond b x y) P
  either true x y h k = h
  either false x y h k = k

  on : {X Y : Type 0} (r : Result Y E) (f : Y → Result X E) → IfErr r P → ((y : Y) → IfErr (f y) P) → IfErr (go_on r f) P
  on (Ok y) f h k = k y
  on (Err e) f h k = h

-- the board's calls
module _ (P : Refusal → Type 0) where
  answers : {X : Type 0} (o : Option Refusal) (x : X) → IfSome o P → IfErr (answer o x) P
  answers None x h = tt
  answers (Some e) x h = h

  size : (c : Content) (a b : ℕ) → P refusal.NotEmpty → P refusal.SizeOut → IfSome (size_refusal c a b) P
  size c a b h k = search (rules, one_more P)

  size_new : (a b : ℕ) → P refusal.SizeOut → IfSome (size_refusal new a b) P
  size_new a b k = search (rules, one_more P)

  row : (m : Meaning) (c : Content) (r : Row) → P refusal.RowsFull → P refusal.ModeOut → P refusal.BadRow → P refusal.NotACost → IfSome (row_refusal m c r) P
  row m c r h i j k = search (rules, one_more P)

  line : (m : Meaning) (c : Content) (l : Line) → P refusal.LinesFull → P refusal.MomentOut → P refusal.NoEvent → P refusal.NotACost → IfSome (line_refusal m c l) P
  line m c l h i j k = search (rules, one_more P)

  reprice : {A : Type 0} (m : Meaning) (xs : List A) (i k : ℕ) → P refusal.NoSuch → P refusal.NotACost → IfSome (reprice_refusal m xs i k) P
  reprice m xs i k h j = search (rules, one_more P)

-- the questions
module _ (P : Refusal → Type 0) where
  costs : (o : Option Reading) → P refusal.NoReading → IfErr (cost_told o) P
  costs None h = h
  costs (Some f) h = tt

  paths : (o : Option Reading) (buffer : List ℕ) → P refusal.NoReading → P refusal.TooLong → IfErr (written_told o buffer) P
  paths None buffer h k = h
  paths (Some f) buffer h k = either P _ (Ok (length f.moves)) (Err refusal.TooLong) tt k

  recorded : (o : Option Record) → P refusal.Unsettled → IfErr (recorded_cost o) P
  recorded None h = h
  recorded (Some a) h = tt

  betweens : (c : Content) (log : List Record) (s q : ℕ) → P refusal.PlaceOut → P refusal.Unsettled → IfErr (between_answer c log s q) P
  betweens c log s q h k = either P _ (Err refusal.PlaceOut) (recorded_cost (record_between c log s q)) h (recorded (record_between c log s q) k)

  brackets : (e : Effect) (st : List ℕ) → P refusal.BadBracket → P refusal.TooDeep → IfErr (bracketed e st) P
  brackets effect.Quiet st h k = tt
  brackets (effect.Opens n) st h k = either P _ (Ok (n ∷ st)) (Err refusal.TooDeep) tt k
  brackets (effect.Closes n) [] h k = h
  brackets (effect.Closes n) (x ∷ st) h k = either P _ (Ok st) (Err refusal.BadBracket) tt h
  brackets effect.Ends [] h k = tt
  brackets effect.Ends (x ∷ st) h k = h

  arrives : (m : Meaning) (k : ℕ) (a : Arrival) (r : Result (List ℕ) Refusal) → IfErr r P → IfErr (arrived m k a r) P
  arrives m k a (Ok st) h = tt
  arrives m k a (Err e) h = h

  taken : (m : Meaning) (c : Content) (w : Progress) (x : ℕ) → P refusal.BadMove → P refusal.NotNext → P refusal.BadBracket → P refusal.TooDeep → IfErr (take_move m c w x) P
  taken m c w x h i j k = elim (named_by_number c (unpacked x)) as (λ o. IfErr (take_named m c.moments w o) P) [
    | None ↦ h
    | Some n ↦ either P _ (Err refusal.NotNext) _ i (arrives m w.cost (arrival_by m n w.place) _ (brackets (arrival_by m n w.place).effect w.unclosed j k))
  ]

  abbrev AtFault : Fault → Type 0
  AtFault f = P f.refusal

  stops : (i : ℕ) (r : Result Progress Refusal) (f : Progress → Result ℕ Fault) → IfErr r P → ((v : Progress) → IfErr (f v) AtFault) → IfErr (or_fault i r f) AtFault
  stops i (Ok v) f h k = k v
  stops i (Err e) f h k = h

  checks : (m : Meaning) (c : Content) (w : Progress) (i : ℕ) (xs : List ℕ) → P refusal.BadMove → P refusal.NotNext → P refusal.BadBracket → P refusal.TooDeep → P refusal.NoEnd → IfErr (checked_from m c w i xs) AtFault
  checks m c w i [] h j k l n = either AtFault w.ended (Ok w.cost) _ tt n
  checks m c w i (x ∷ xs) h j k l n =
      stops i (take_move m c w x) _ (taken m c w x h j k l) (λ v. checks m c v (suc i) xs h j k l n)

-- a load
module _ (m : Meaning) (file : Bor (List ℕ)) where
  abbrev Own : FileRefusal → Type 0
  Own e = among (file_number e) (can_give (call.Load file)) ≡ true

  abbrev OwnBoard : Refusal → Type 0
  OwnBoard e = Own (refused.Board e)

  abbrev OwnAt : LoadFault → Type 0
  OwnAt f = Own f.refusal

  calls : (o : Option Refusal) (after : Content) → IfSome o OwnBoard → IfErr (called o after) Own
  calls None after h = tt
  calls (Some e) after h = h

  places : {X : Type 0} (r : Result X FileRefusal) (place : ℕ) → IfErr r Own → IfErr (at_place r place) OwnAt
  places (Ok x) place h = tt
  places (Err e) place h = h

  read_row : (w : ℕ) → IfErr (row_read w) Own
  read_row w = search (rules, either Own)

  read_line : (w : ℕ) → IfErr (line_read w) Own
  read_line w = search (rules, either Own)

  a_row : (c : Content) (w : ℕ) → IfErr (row_record m c w) Own
  unfolding row_added
  a_row c w = on Own (row_read w) (row_added m c) (read_row w) (λ r. calls (row_refusal m c r) (row_after m c r) (row OwnBoard m c r refl refl refl refl))

  a_line : (t : ℕ) (c : Content) (w : ℕ) → IfErr (line_record m t c w) Own
  unfolding line_added
  a_line t c w =
      on Own (line_read w) (λ l. line_added m c (trusted_line m t l)) (read_line w)
      (λ l. calls (line_refusal m c (trusted_line m t l)) (line_after m c (trusted_line m t l)) (line OwnBoard m c (trusted_line m t l) refl refl refl refl))

  each : (add : Content → ℕ → Result Content FileRefusal) → ((c : Content) (w : ℕ) → IfErr (add c w) Own) → (n : ℕ) (bs : List ℕ) (place : ℕ) (c : Content) → IfErr (records_added add n bs place c) OwnAt
  unfolding records_added
  each add k zero bs place c = tt
  each add k (suc n) bs place c =
      on OwnAt (at_place (record_next add bs c) place) _
      (places (record_next add bs c) place (either Own (ltb (length bs) 8) (Err refused.CutShort) (add c (word8 bs)) refl (k c (word8 bs))))
      (λ d. each add k n (drop 8 bs) (place + 8) d)

  section : (t : ℕ) (f : SectionRead) (x : Loaded) → IfErr (section_added m t f x) OwnAt
  section t f x =
      either OwnAt (eqb f.code rows_code) _ _ (on OwnAt (records_added (row_record m) f.count f.part.bytes f.part.place x.content) (with_content x) (each (row_record m) a_row f.count f.part.bytes f.part.place x.content) (λ d. tt))
      (either OwnAt (eqb f.code lines_code) _ _ (on OwnAt (records_added (line_record m t) f.count f.part.bytes f.part.place x.content) (with_content x) (each (line_record m t) (a_line t) f.count f.part.bytes f.part.place x.content) (λ d. tt))
      (either OwnAt (ltb (length f.part.bytes) f.count) _ _ refl tt))

  turn : (t code : ℕ) (next : PartRead → Loaded → Result Loaded LoadFault) → ((p : PartRead) (x : Loaded) → IfErr (next p x) OwnAt) → (p : PartRead) (x : Loaded) → IfErr (in_turn m t code next p x) OwnAt
  turn t code next k p x =
      either OwnAt (comes code p) _ _ (on OwnAt (section_added m t (next_section p) x) (next (past p)) (section t (next_section p) x) (λ y. k (past p) y)) (k p x)

  ending : (p : PartRead) (x : Loaded) → IfErr (at_end p x) OwnAt
  unfolding at_end
  ending p x = either OwnAt (eqb (length p.bytes) 0) _ _ tt (either OwnAt (ltb (length p.bytes) 2) _ _ refl refl)

  sections : (t : ℕ) (p : PartRead) (x : Loaded) → IfErr (from_rows m t p x) OwnAt
  unfolding from_rows from_lines from_note
  sections t = turn t rows_code (from_lines m t) (turn t lines_code (from_note m t) (turn t note_code at_end ending))

  header : (w : ℕ) → IfErr (header_read m w) Own
  header w = search (rules, either Own)

  load : (bs : List ℕ) → IfErr (loaded m bs) OwnAt
  unfolding sized
  load bs =
      on OwnAt (at_place (opened m bs new) 0) _
      (places (opened m bs new) 0
      (either Own (ltb (length bs) 4) _ _ refl
      (on Own (header_read m (word4 bs)) _ (header (word4 bs))
      (λ h. on Own (sized h new) _ (calls (size_refusal new h.modes h.moments) (size_after new h.modes h.moments) (size_new OwnBoard h.modes h.moments refl)) (λ d. tt)))))
      (λ o. sections o.trust (after_header bs) (loaded_as o.content (no_note bs)))

  noted : (r : Result Loaded LoadFault) → IfErr r OwnAt → IfErr (spanned (note_answer r)) OwnAt
  noted (Ok x) h = tt
  noted (Err e) h = h

-- the board's refusals with these numbers
abbrev Has : List ℕ → Refusal → Type 0
Has ks e = among (number e) ks ≡ true

-- a call of the board that is declined by one of these
called_with : {X : Type 0} (ks : List ℕ) (o : Option Refusal) (x : X) (n : ℕ) → IfSome o (Has ks) → error_number number (answer o x) ≡ Some n → In n ks
called_with ks o x n h e = given number (answer o x) ks n (answers (Has ks) o x h) e

-- every call; of those that are left out none answers a refusal
on_draft : (m : Meaning) (c : Content) (log : List Record) (x : Call) (buffer : List ℕ) (n : ℕ) → refused_with (step_answer m (draft c) log x buffer) ≡ Some n → In n (can_give x)
on_draft m c log (call.Size a b) buffer n e = let ks = can_give (call.Size a b) in called_with ks (size_refusal c a b) tt n (size (Has ks) c a b refl refl) e
on_draft m c log (call.AddRow r) buffer n e = let ks = can_give (call.AddRow r) in called_with ks (row_refusal m c r) (length c.rows) n (row (Has ks) m c r refl refl refl refl) e
on_draft m c log (call.AddLine l) buffer n e = let ks = can_give (call.AddLine l) in called_with ks (line_refusal m c l) (length c.lines) n (line (Has ks) m c l refl refl refl refl) e
on_draft m c log (call.RepriceRow i k) buffer n e = let ks = can_give (call.RepriceRow i k) in called_with ks (reprice_refusal m c.rows i k) tt n (reprice (Has ks) m c.rows i k refl refl) e
on_draft m c log (call.RepriceLine i k) buffer n e = let ks = can_give (call.RepriceLine i k) in called_with ks (reprice_refusal m c.lines i k) tt n (reprice (Has ks) m c.lines i k refl refl) e
on_draft m c log (call.Load file) buffer n e =
    given (λ (f : LoadFault). file_number f.refusal) (spanned (load_answer m file.now)) (can_give (call.Load file)) n (noted m file (loaded m file.now) (load m file file.now)) e
on_draft m c log x buffer n e = absurd cc

on_settled : (m : Meaning) (c : Content) (log : List Record) (x : Call) (buffer : List ℕ) (n : ℕ) → refused_with (step_answer m (settled c) log x buffer) ≡ Some n → In n (can_give x)
on_settled m c log call.Cost buffer n e = let ks = can_give call.Cost in given number (cost_told (recorded_reading m c log)) ks n (costs (Has ks) (recorded_reading m c log) refl) e
on_settled m c log call.Path buffer n e = let ks = can_give call.Path in given number (written_told (recorded_reading m c log) buffer) ks n (paths (Has ks) (recorded_reading m c log) buffer refl refl) e
on_settled m c log (call.Between s q) buffer n e = let ks = can_give (call.Between s q) in given number (between_answer c log s q) ks n (betweens (Has ks) c log s q refl refl) e
on_settled m c log (call.Check moves) buffer n e =
    let ks = can_give (call.Check moves) in
    given (λ (f : Fault). number f.refusal) (check_answer m c moves.now) ks n (checks (Has ks) m c (before_moves m) 0 moves.now refl refl refl refl refl) e
on_settled m c log x buffer n e = absurd cc

pub gives_its_numbers : GivesItsNumbers
gives_its_numbers m (draft c) log x buffer n e = on_draft m c log x buffer n e
gives_its_numbers m (settled c) log x buffer n e = on_settled m c log x buffer n e
