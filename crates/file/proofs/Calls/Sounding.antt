-- Every call, a load among them, keeps a board's content sound.
use Rattle.std.proofs.Common.{ℕ, zero, suc, ◌+◌, Bool, true, false, cond, eqb, ltb, List, [], ◌∷◌, length, drop, Some, None, Ok, Err, Option, Result}
use Rattle.std.specs.Result.{IfOk}
use Rattle.costs.specs.Meaning.{Meaning}
use Rattle.board.specs.declared.refusal.Refusal.{Refusal}
use Rattle.board.specs.Content.{Content, new, Sound}
use Rattle.board.specs.Calls.{CallsKeepSound, size_refusal, size_after, row_refusal, row_after, line_refusal, line_after}
use Rattle.file.specs.declared.refusal.FileRefusal.{FileRefusal}
use Rattle.file.specs.declared.refusal.LoadFault.{LoadFault}
use Rattle.file.specs.declared.call.Call.{Call}
use Rattle.file.specs.declared.call.Call.TheVariants as call
use Rattle.file.specs.Fields.{word4, word8, header_read, row_read, line_read}
use Rattle.file.specs.Parts.{PartRead}
use Rattle.file.specs.Sections.{rows_code, lines_code, note_code, SectionRead, next_section, past}
use Rattle.file.specs.Records.{go_on, at_place, called, row_added, line_added, trusted_line, row_record, line_record, record_next, records_added}
use Rattle.file.specs.Load.{Loaded, loaded_as, with_content, section_added, comes, in_turn, at_end, from_note, from_lines, from_rows, sized, opened, filled, loaded, content_left, load_after, after_header, no_note}
use Rattle.file.specs.States.{State, draft, settled, edited, stepped, state_from}

-- the content of a state
abbrev pub content : State → Content
content (draft c) = c
content (settled c) = c

module _ {X E : Type 0} (P : X → Type 0) where
  cond_all : (b : Bool) (x y : Result X E) → IfOk x P → IfOk y P → IfOk (cond b x y) P
  cond_all true x y h k = h
  cond_all false x y h k = k

  go_on_all : {Y : Type 0} (Q : Y → Type 0) (r : Result Y E) (f : Y → Result X E) → IfOk r Q → ((y : Y) → Q y → IfOk (f y) P) → IfOk (go_on r f) P
  go_on_all Q (Ok y) f h k = k y h
  go_on_all Q (Err e) f h k = tt

any : {X E : Type 0} (r : Result X E) → IfOk r (λ _. Unit {0})
any (Ok x) = tt
any (Err e) = tt

at_place_all : {X : Type 0} (P : X → Type 0) (r : Result X FileRefusal) (place : ℕ) → IfOk r P → IfOk (at_place r place) P
at_place_all P (Ok x) place h = h
at_place_all P (Err e) place h = tt

called_all : (P : Content → Type 0) (o : Option Refusal) (after : Content) → P after → IfOk (called o after) P
called_all P None after h = h
called_all P (Some e) after h = tt

module _ (m : Meaning) (keep : CallsKeepSound m) where
  -- a way to put a record on the board keeps its content sound
  abbrev Keeps : (Content → ℕ → Result Content FileRefusal) → Type 0
  Keeps add = (c : Content) (w : ℕ) → Sound m c → IfOk (add c w) (Sound m)

  row_sound : Keeps (row_record m)
  unfolding row_added
  row_sound c w h = go_on_all (Sound m) (λ _. Unit {0}) (row_read w) (row_added m c) (any _) (λ r _. called_all (Sound m) (row_refusal m c r) (row_after m c r) (keep.row_added c r h))

  line_sound : (t : ℕ) → Keeps (line_record m t)
  unfolding line_added
  line_sound t c w h = go_on_all (Sound m) (λ _. Unit {0}) (line_read w) (λ l. line_added m c (trusted_line m t l)) (any _) (λ l _. called_all (Sound m) (line_refusal m c (trusted_line m t l)) (line_after m c (trusted_line m t l)) (keep.line_added c (trusted_line m t l) h))

  records_sound : (add : Content → ℕ → Result Content FileRefusal) → Keeps add → (n : ℕ) (bs : List ℕ) (place : ℕ) (c : Content) → Sound m c → IfOk (records_added add n bs place c) (Sound m)
  unfolding records_added
  records_sound add k zero bs place c h = h
  records_sound add k (suc n) bs place c h =
      go_on_all (Sound m) (Sound m) (at_place (record_next add bs c) place) _
      (at_place_all (Sound m) (record_next add bs c) place (cond_all (Sound m) (ltb (length bs) 8) _ _ tt (k c (word8 bs) h)))
      (λ d s. records_sound add k n (drop 8 bs) (place + 8) d s)

  abbrev Fine : Loaded → Type 0
  Fine x = Sound m x.content

  section_sound : (t : ℕ) (f : SectionRead) (x : Loaded) → Fine x → IfOk (section_added m t f x) Fine
  section_sound t f x h =
      cond_all Fine (eqb f.code rows_code) _ _ (go_on_all Fine (Sound m) (records_added (row_record m) f.count f.part.bytes f.part.place x.content) (with_content x) (records_sound (row_record m) row_sound f.count f.part.bytes f.part.place x.content h) (λ d k. k))
      (cond_all Fine (eqb f.code lines_code) _ _ (go_on_all Fine (Sound m) (records_added (line_record m t) f.count f.part.bytes f.part.place x.content) (with_content x) (records_sound (line_record m t) (line_sound t) f.count f.part.bytes f.part.place x.content h) (λ d k. k))
      (cond_all Fine (ltb (length f.part.bytes) f.count) _ _ tt h))

  turn_sound : (t code : ℕ) (next : PartRead → Loaded → Result Loaded LoadFault) → ((p : PartRead) (x : Loaded) → Fine x → IfOk (next p x) Fine) → (p : PartRead) (x : Loaded) → Fine x → IfOk (in_turn m t code next p x) Fine
  turn_sound t code next k p x h =
      cond_all Fine (comes code p) _ _ (go_on_all Fine Fine (section_added m t (next_section p) x) (next (past p)) (section_sound t (next_section p) x h) (λ y f. k (past p) y f)) (k p x h)

  end_sound : (p : PartRead) (x : Loaded) → Fine x → IfOk (at_end p x) Fine
  unfolding at_end
  end_sound p x h = cond_all Fine (eqb (length p.bytes) 0) _ _ h (cond_all Fine (ltb (length p.bytes) 2) _ _ tt tt)

  rows_sound : (t : ℕ) (p : PartRead) (x : Loaded) → Fine x → IfOk (from_rows m t p x) Fine
  unfolding from_rows from_lines from_note
  rows_sound t = turn_sound t rows_code (from_lines m t) (turn_sound t lines_code (from_note m t) (turn_sound t note_code at_end end_sound))

  filled_sound : (bs : List ℕ) (c : Content) → Sound m c → IfOk (filled m bs c) Fine
  unfolding sized
  filled_sound bs c h =
      go_on_all Fine (λ o. Sound m o.content) (at_place (opened m bs c) 0) _
      (at_place_all (λ o. Sound m o.content) (opened m bs c) 0
      (cond_all (λ o. Sound m o.content) (ltb (length bs) 4) _ _ tt
      (go_on_all (λ o. Sound m o.content) (λ _. Unit {0}) (header_read m (word4 bs)) _ (any _)
      (λ d _. go_on_all (λ o. Sound m o.content) (Sound m) (sized d c) _ (called_all (Sound m) (size_refusal c d.modes d.moments) (size_after c d.modes d.moments) (keep.sized c d.modes d.moments h)) (λ e k. k)))))
      (λ o k. rows_sound o.trust (after_header bs) (loaded_as o.content (no_note bs)) k)

  left_sound : (r : Result Loaded LoadFault) → IfOk r Fine → Sound m (content_left r)
  left_sound (Ok x) h = h
  left_sound (Err e) h = keep.begun

  load_sound : (bs : List ℕ) → Sound m (load_after m bs)
  load_sound bs = left_sound (loaded m bs) (filled_sound bs new keep.begun)

  edited_sound : (c : Content) (x : Call) → Sound m c → Sound m (edited m c x)
  edited_sound c (call.Size a b) h = keep.sized c a b h
  edited_sound c (call.AddRow r) h = keep.row_added c r h
  edited_sound c (call.AddLine l) h = keep.line_added c l h
  edited_sound c (call.RepriceRow i k) h = keep.row_repriced c i k h
  edited_sound c (call.RepriceLine i k) h = keep.line_repriced c i k h
  edited_sound c call.ClearLines h = keep.cleared c h
  edited_sound c (call.Load bytes) h = load_sound bytes.now
  edited_sound c x h = h

  pub stepped_sound : (s : State) (x : Call) → Sound m (content s) → Sound m (content (stepped m s x))
  stepped_sound (draft c) call.Settle h = h
  stepped_sound (draft c) x h = edited_sound c x h
  stepped_sound (settled c) call.Reopen h = h
  stepped_sound (settled c) x h = h

  pub state_sound : (s : State) (xs : List Call) → Sound m (content s) → Sound m (content (state_from m s xs))
  state_sound s [] h = h
  state_sound s (x ∷ xs) h = state_sound (stepped m s x) xs (stepped_sound s x h)
