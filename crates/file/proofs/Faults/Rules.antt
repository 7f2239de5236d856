-- What each part is read as is refused exactly with the first of its rules that is broken.
use Rattle.std.proofs.Common.{◌≡◌, ℕ, ◌≤◌, Bool, true, false, cond, not, ◌||◌, eqb, ltb, ◌⊎◌, List, [], ◌∷◌, length, Some, None, Ok, Err, Option, Result, sym, refl, ap, ◌∙◌, inl, inr}
use Rattle.std.proofs.lemmas.Bool.{ltb-false}
use Rattle.costs.specs.Meaning.{Meaning}
use Rattle.board.specs.declared.refusal.Refusal.{Refusal}
use Rattle.board.specs.Content.{Content, new}
use Rattle.board.specs.Calls.{size_refusal, size_after, row_refusal, row_after, line_refusal, line_after}
use Rattle.file.specs.declared.fields.Header.{Header}
use Rattle.file.specs.declared.refusal.FileRefusal.{FileRefusal}
use Rattle.file.specs.declared.refusal.FileRefusal.TheVariants.{CutShort, WrongLetter, NotZero, WrongTrust, WrongSection}
use Rattle.file.specs.declared.refusal.LoadFault.{LoadFault}
use Rattle.file.specs.Fields.{field, word4, word8, header_fields, head_code, row_fields, line_fields}
use Rattle.file.specs.Parts.{PartRead, fault_at}
use Rattle.file.specs.Records.{go_on, called, row_added, line_added, trusted_line, row_record, line_record, record_next}
use Rattle.file.specs.Load.{Loaded, Opened, opened, sized, at_end}
use Rattle.file.specs.Layout.{Description}
use Rattle.file.specs.Declined.{by_board, first_broken, header_refusal, may_follow, head_refusal, row_part_refusal, line_part_refusal}

-- a refusal, or what is answered without one
abbrev pub refused : {X : Type 0} → Option FileRefusal → X → Result X FileRefusal
refused None x = Ok x
refused (Some e) x = Err e

pub refused_with : {X : Type 0} (o : Option FileRefusal) (x : X) (e : FileRefusal) → refused o x ≡ Err e → o ≡ Some e
refused_with None x e h = absurd cc
refused_with (Some r) x e h = cc

-- what follows a call of the board
called_then : {Y : Type 0} (o : Option Refusal) (d : Content) (next : Content → Result Y FileRefusal) (y : Y) → next d ≡ Ok y → go_on (called o d) next ≡ refused (by_board o) y
called_then None d next y h = h
called_then (Some e) d next y h = refl

called_alone : (o : Option Refusal) (d : Content) → called o d ≡ refused (by_board o) d
called_alone None d = refl
called_alone (Some e) d = refl

-- a record
record_rule : {A : Type 0} (short zeros : Bool) (r : A) (next : A → Result Content FileRefusal) (o : Option Refusal) (d : Content) → next r ≡ called o d → cond short (Err CutShort) (go_on (cond zeros (Ok r) (Err NotZero)) next) ≡ refused (first_broken ((short, CutShort) ∷ (not zeros, NotZero) ∷ []) o) d
record_rule true zeros r next o d h = refl
record_rule false true r next o d h = h ∙ called_alone o d
record_rule false false r next o d h = refl

pub row_rules : (m : Meaning) (c : Content) (bs : List ℕ) → record_next (row_record m) bs c ≡ refused (row_part_refusal m c bs) (row_after m c (row_fields (word8 bs)))
unfolding row_added
row_rules m c bs =
    let r = row_fields (word8 bs) in
    record_rule (ltb (length bs) 8) (eqb (field (word8 bs) 32 2) 0) r (row_added m c) (row_refusal m c r) (row_after m c r) refl

pub line_rules : (m : Meaning) (trust : ℕ) (c : Content) (bs : List ℕ) → record_next (line_record m trust) bs c ≡ refused (line_part_refusal m trust c bs) (line_after m c (trusted_line m trust (line_fields (word8 bs))))
unfolding line_added
line_rules m trust c bs =
    let l = line_fields (word8 bs) in
    let t = trusted_line m trust l in
    record_rule (ltb (length bs) 8) (eqb (field (word8 bs) 32 12) 0) l (λ k. line_added m c (trusted_line m trust k)) (line_refusal m c t) (line_after m c t) refl

-- and so it is refused where a rule is broken
pub row_refused : (m : Meaning) (c : Content) (bs : List ℕ) (e : FileRefusal) → row_part_refusal m c bs ≡ Some e → record_next (row_record m) bs c ≡ Err e
row_refused m c bs e h = row_rules m c bs ∙ ap (λ (o : Option FileRefusal). refused o (row_after m c (row_fields (word8 bs)))) h

pub line_refused : (m : Meaning) (trust : ℕ) (c : Content) (bs : List ℕ) (e : FileRefusal) → line_part_refusal m trust c bs ≡ Some e → record_next (line_record m trust) bs c ≡ Err e
line_refused m trust c bs e h = line_rules m trust c bs ∙ ap (λ (o : Option FileRefusal). refused o (line_after m c (trusted_line m trust (line_fields (word8 bs))))) h

-- a header
header_rule : {Y : Type 0} (short letter zeros plain : Bool) (h : Header) (next : Header → Result Y FileRefusal) (o : Option Refusal) (y : Y) → next h ≡ refused (by_board o) y → cond short (Err CutShort) (go_on (cond letter (cond zeros (cond plain (Ok h) (Err WrongTrust)) (Err NotZero)) (Err WrongLetter)) next) ≡ refused (first_broken ((short, CutShort) ∷ (not letter, WrongLetter) ∷ (not zeros, NotZero) ∷ (not plain, WrongTrust) ∷ []) o) y
header_rule true letter zeros plain h next o y k = refl
header_rule false false zeros plain h next o y k = refl
header_rule false true false plain h next o y k = refl
header_rule false true true false h next o y k = refl
header_rule false true true true h next o y k = k

-- what a header makes of a new board
abbrev pub opened_new : Header → Opened
opened_new h = record { content = size_after new h.modes h.moments; trust = h.trust }

pub header_rules : (m : Meaning) (bs : List ℕ) → opened m bs new ≡ refused (header_refusal m bs) (opened_new (header_fields (word4 bs)))
unfolding sized
header_rules m bs =
    let w = word4 bs in
    let h = header_fields w in
    header_rule (ltb (length bs) 4) (eqb (field w 24 8) m.letter) (eqb (field w 8 2) 0) (m.scaled || eqb (field w 0 8) 16) h
    (λ g. go_on (sized g new) (λ d. Ok (record { content = d; trust = g.trust })))
    (size_refusal new h.modes h.moments) (opened_new h)
    (called_then (size_refusal new h.modes h.moments) (size_after new h.modes h.moments) (λ d. Ok (record { content = d; trust = h.trust })) (opened_new h) refl)

-- a section head where none may come
abbrev head_rule : Bool → Bool → Bool → Option FileRefusal
head_rule none short may = cond none None (first_broken ((short, CutShort) ∷ (not may, WrongSection) ∷ []) None)

abbrev end_by : Bool → Bool → ℕ → Loaded → Result Loaded LoadFault
end_by none short place x = cond none (Ok x) (cond short (Err (fault_at CutShort place)) (Err (fault_at WrongSection place)))

stops_at_end : (none short may : Bool) (place : ℕ) (x : Loaded) (f : LoadFault) → end_by none short place x ≡ Err f → (short ≡ false → may ≡ false) → (f.place ≡ place) × (head_rule none short may ≡ Some f.refusal)
stops_at_end true short may place x f h k = absurd cc
stops_at_end false true may place x f h k =
    let e : f ≡ fault_at CutShort place = cc in
    (ap (λ (z : LoadFault). z.place) e, ap (λ (z : LoadFault). Some z.refusal) (sym e))
stops_at_end false false may place x f h k =
    let e : f ≡ fault_at WrongSection place = cc in
    let n = k refl in
    (ap (λ (z : LoadFault). z.place) e, rw n (ap (λ (z : LoadFault). Some z.refusal) (sym e)))

refused_at_end : (none short may : Bool) (place : ℕ) (x : Loaded) (r : FileRefusal) → head_rule none short may ≡ Some r → (end_by none short place x ≡ Err (fault_at r place)) × ((short ≡ true) ⊎ (may ≡ false))
refused_at_end true short may place x r h = absurd cc
refused_at_end false true may place x r h = let e : CutShort ≡ r = cc in (ap (λ (z : FileRefusal). Err (fault_at z place)) e, inl refl)
refused_at_end false false true place x r h = absurd cc
refused_at_end false false false place x r h = let e : WrongSection ≡ r = cc in (ap (λ (z : FileRefusal). Err (fault_at z place)) e, inr refl)

module _ (d : Description) (p : PartRead) (x : Loaded) where
  abbrev follows : Bool
  follows = may_follow d.rows d.lines d.note (head_code p.bytes)

  pub head_stops : (f : LoadFault) → at_end p x ≡ Err f → (2 ≤ length p.bytes → follows ≡ false) → (f.place ≡ p.place) × (head_refusal d p.bytes ≡ Some f.refusal)
  unfolding at_end
  head_stops f h k = stops_at_end (eqb (length p.bytes) 0) (ltb (length p.bytes) 2) follows p.place x f h (λ e. k (ltb-false (length p.bytes) 2 e))

  pub head_refused : (r : FileRefusal) → head_refusal d p.bytes ≡ Some r → at_end p x ≡ Err (fault_at r p.place)
  unfolding at_end
  head_refused r h = (refused_at_end (eqb (length p.bytes) 0) (ltb (length p.bytes) 2) follows p.place x r h).0

-- what may not come there
pub head_other : (d : Description) (bs : List ℕ) (r : FileRefusal) → head_refusal d bs ≡ Some r → (ltb (length bs) 2 ≡ true) ⊎ (may_follow d.rows d.lines d.note (head_code bs) ≡ false)
head_other d bs r h = (refused_at_end (eqb (length bs) 0) (ltb (length bs) 2) (may_follow d.rows d.lines d.note (head_code bs)) 0 (record { content = new; note = record { bytes = []; place = 0 } }) r h).1
