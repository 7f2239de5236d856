-- A load accepts exactly the files that are laid out within the limits.
use Rattle.std.proofs.Common.{◌≡◌, ℕ, ◌+◌, ◌-◌, ◌*◌, ◌<◌, ◌≤◌, Bool, true, false, cond, ltb, List, [], ◌++◌, length, get_or, drop, Some, None, Ok, Err, Option, Result, sym, refl, ap, ◌∙◌, subst, arith}
use Rattle.std.proofs.lemmas.List.{length-drop}
use Rattle.std.proofs.lemmas.Bool.{ltb-false, le-ltb}
use Rattle.std.proofs.lemmas.Bool.Decides.{nat_tests}
use Rattle.std.specs.List.{AllByRecursion}
use Rattle.costs.specs.Meaning.{Meaning}
use Rattle.board.specs.declared.row.Row.{Row}
use Rattle.board.specs.declared.row.Line.{Line}
use Rattle.board.specs.Content.{Content, new}
use Rattle.board.specs.Calls.{size_refusal, size_after, with_size}
use Rattle.file.specs.declared.fields.Header.{Header}
use Rattle.file.specs.declared.refusal.FileRefusal.{FileRefusal}
use Rattle.file.specs.declared.refusal.FileRefusal.TheVariants.{CutShort}
use Rattle.file.specs.declared.refusal.LoadFault.{LoadFault}
use Rattle.file.specs.Fields.{word4, header_read}
use Rattle.file.specs.Parts.{PartRead}
use Rattle.file.specs.Records.{go_on, at_place}
use Rattle.file.specs.Load.{Opened, opened, Loaded, loaded_as, from_rows, sized, no_note, after_header, loaded, note_answer, content_left, load_answer, load_after}
use Rattle.file.specs.Layout.{Description, in_bytes, header_word, sections_written, header_written, written, Byte, KeepsLimits, content_of, note_at_end, Described, LoadsExactly}
use Rattle.file.proofs.Loads.Bytes.{word4_bytes, bytes_word4, word4_fits, each_byte, each_drop}
use Rattle.file.proofs.Loads.Words.{header_word_fits, header_word_read, HeaderWas, header_read_word}
use Rattle.file.proofs.Loads.Limits.{went_on, was_called}
use Rattle.file.proofs.Loads.Tails.{put_rows, put_lines, put_note, Tail, rows_tail, rows_accepted}

-- the size that a header gives a new board
size_was : (a b : ℕ) → size_refusal new a b ≡ None → (0 < a * b) × (a * b ≤ 64)
size_was a b h = (grind (arith, nat_tests), grind (arith, nat_tests))

size_taken : (a b : ℕ) → 0 < a * b → a * b ≤ 64 → size_refusal new a b ≡ None
size_taken a b h k = grind (arith, nat_tests)

pub record SizedNew (h : Header) (d : Content) : Type 0 where
  pub some_place : 0 < h.modes * h.moments
  pub few_places : h.modes * h.moments ≤ 64
  pub is : with_size new h.modes h.moments ≡ d

sized_was : (h : Header) (d : Content) → sized h new ≡ Ok d → SizedNew h d
unfolding sized
sized_was h d e =
    let k = was_called (size_refusal new h.modes h.moments) (size_after new h.modes h.moments) d e in
    let s = size_was h.modes h.moments k.0 in
    record { some_place = s.0; few_places = s.1; is = rw k.0 at k.1 }

sized_ok : (h : Header) → 0 < h.modes * h.moments → h.modes * h.moments ≤ 64 → sized h new ≡ Ok (with_size new h.modes h.moments)
unfolding sized
sized_ok h some few = let e = size_taken h.modes h.moments some few in rw e

-- the header that opened a new board
pub record OpenedNew (m : Meaning) (bs : List ℕ) (o : Opened) : Type 0 where
  pub long : 4 ≤ length bs
  pub header : Header
  pub read : header_read m (word4 bs) ≡ Ok header
  pub size : SizedNew header (with_size new header.modes header.moments)
  pub is : record { content = with_size new header.modes header.moments; trust = header.trust } ≡ o

-- a part that was taken
placed : {X : Type 0} (o : Result X FileRefusal) (place : ℕ) (x : X) → at_place o place ≡ Ok x → o ≡ Ok x
placed (Ok y) place x h = cc
placed (Err e) place x h = absurd cc

-- the content and the note of the sections are those of the description
contents : (m : Meaning) (d : Description) (rows : Option (List Row)) (lines : Option (List Line)) → d.rows ≡ rows → d.lines ≡ lines → put_lines m d.trust d.lines (put_rows d.rows (with_size new d.modes d.moments)) ≡ content_of m d
contents m d None None r l = rw (r, l)
contents m d None (Some ls) r l = rw (r, l)
contents m d (Some rs) None r l = rw (r, l)
contents m d (Some rs) (Some ls) r l = rw (r, l)

notes : (note : Option (List ℕ)) (k size : ℕ) (bs : List ℕ) → k ≡ size → length bs ≡ size → put_note note k (no_note bs) ≡ note_at_end note size
notes None k size bs h e = λ i. record { bytes = []; place = e i }
notes (Some ns) k size bs h e = λ i. record { bytes = ns; place = h i - length ns }

module _ (m : Meaning) where
  -- from what is accepted to the description
  describe : (bs : List ℕ) (y : Loaded) (h : Header) (rows : Option (List Row)) (lines : Option (List Line)) (note : Option (List ℕ)) → 4 ≤ length bs → AllByRecursion Byte bs → HeaderWas m (word4 bs) h → SizedNew h (with_size new h.modes h.moments) → Tail m h.trust rows lines note (after_header bs) (loaded_as (with_size new h.modes h.moments) (no_note bs)) y → Described m bs y.content y.note
  describe bs y h rows lines note long e w s t =
      let d : Description = record { letter = m.letter; modes = h.modes; moments = h.moments; trust = h.trust; rows = rows; lines = lines; note = note } in
      let laid : written d ≡ bs = ap (λ (v : ℕ). in_bytes 4 v ++ sections_written rows lines note) w.is ∙ (ap (λ (ys : List ℕ). in_bytes 4 (word4 bs) ++ ys) (sym t.laid) ∙ sym (bytes_word4 bs long e)) in
      let ends : 4 + length (drop 4 bs) ≡ length bs = simp length-drop (omega arith) in
      record {
        description = d;
        laid_out = laid;
        keeps = record {
          own_letter = refl;
          letter_fits = w.letter_fits;
          some_place = s.some_place;
          few_places = s.few_places;
          modes_fit = w.modes_fit;
          moments_fit = w.moments_fit;
          plain_trust = w.plain_trust;
          trust_fits = w.trust_fits;
          few_rows = omega (arith, t.few_rows);
          rows_keep = t.rows_keep;
          few_lines = omega (arith, t.few_lines);
          lines_keep = t.lines_keep;
          note_fits = t.note_fits;
          note_bytes = t.note_bytes;
        };
        holds = t.content ∙ contents m d rows lines refl refl;
        notes = t.noted ∙ notes note (4 + length (drop 4 bs)) (length (written d)) bs (ends ∙ ap length (sym laid)) (ap length (sym laid));
      }

  -- what the header gives, once it is read
  abbrev after_read : Header → Result Opened FileRefusal
  after_read h = go_on (sized h new) (λ (d : Content). Ok (record { content = d; trust = h.trust }))

  opened_long : (bs : List ℕ) (o : Opened) (short : Bool) → ltb (length bs) 4 ≡ short → cond short (Err CutShort) (go_on (header_read m (word4 bs)) after_read) ≡ Ok o → OpenedNew m bs o
  opened_long bs o true b e = absurd cc
  opened_long bs o false b e =
      let a = went_on (header_read m (word4 bs)) after_read o e in
      let d = went_on (sized a.value new) (λ (d : Content). Ok (record { content = d; trust = a.value.trust })) o a.then in
      let s = sized_was a.value d.value d.answered in
      record {
        long = ltb-false (length bs) 4 b;
        header = a.value;
        read = a.answered;
        size = record { some_place = s.some_place; few_places = s.few_places; is = refl };
        is = (λ i. record { content = s.is i; trust = a.value.trust }) ∙ cc;
      }

  pub opened_was : (bs : List ℕ) (o : Opened) → opened m bs new ≡ Ok o → OpenedNew m bs o
  opened_was bs o e = opened_long bs o (ltb (length bs) 4) refl e

  accepted_as : (bs : List ℕ) (y : Loaded) → AllByRecursion Byte bs → loaded m bs ≡ Ok y → Described m bs y.content y.note
  accepted_as bs y e h =
      let on = λ (o : Opened). from_rows m o.trust (after_header bs) (loaded_as o.content (no_note bs)) in
      let a = went_on (at_place (opened m bs new) 0) on y h in
      let o = opened_was bs a.value (placed (opened m bs new) 0 a.value a.answered) in
      let w = header_read_word m (word4 bs) o.header (word4_fits bs e) o.read in
      let rows = subst (λ (x : Opened). on x ≡ Ok y) (sym o.is) a.then in
      let t = rows_tail m o.header.trust (after_header bs) (loaded_as (with_size new o.header.modes o.header.moments) (no_note bs)) y (each_drop 4 bs e) (omega arith) (omega arith) rows in
      describe bs y o.header t.0 t.1 t.2 o.long e w o.size t.3

  -- from the description to what is accepted
  past_header : (bs : List ℕ) (h : Header) (d : Content) → 4 ≤ length bs → header_read m (word4 bs) ≡ Ok h → sized h new ≡ Ok d → loaded m bs ≡ from_rows m h.trust (after_header bs) (loaded_as d (no_note bs))
  past_header bs h d long read size = let l = le-ltb (length bs) 4 long in rw (l, read, size)

  pub header_accepted : (d : Description) (rest : List ℕ) → KeepsLimits m d → loaded m (header_written d ++ rest) ≡ from_rows m d.trust (record { bytes = rest; place = 4 }) (loaded_as (with_size new d.modes d.moments) (no_note (header_written d ++ rest)))
  header_accepted d rest k =
      let h : Header = record { modes = d.modes; moments = d.moments; trust = d.trust } in
      let word = word4_bytes (header_word d.letter d.modes d.moments d.trust) rest (header_word_fits d.letter d.modes d.moments d.trust k.letter_fits k.modes_fit k.moments_fit k.trust_fits) in
      let read : header_read m (word4 (header_written d ++ rest)) ≡ Ok h = ap (header_read m) word ∙ header_word_read m d.letter d.modes d.moments d.trust k.letter_fits k.modes_fit k.moments_fit k.trust_fits k.own_letter k.plain_trust in
      past_header (header_written d ++ rest) h (with_size new d.modes d.moments) (omega arith) read (sized_ok h k.some_place k.few_places)

  accepts : (bs : List ℕ) (c : Content) (n : PartRead) → Described m bs c n → loaded m bs ≡ Ok (loaded_as c n)
  accepts bs c n is =
      let d = is.description in
      let k = is.keeps in
      let ends : 4 + length (drop 4 (written d)) ≡ length (written d) = omega arith in
      let t : Tail m d.trust d.rows d.lines d.note (after_header (written d)) (loaded_as (with_size new d.modes d.moments) (no_note (written d))) (loaded_as c n) = record {
        laid = refl;
        few_rows = omega (arith, k.few_rows);
        rows_keep = k.rows_keep;
        few_lines = omega (arith, k.few_lines);
        lines_keep = k.lines_keep;
        note_fits = k.note_fits;
        note_bytes = k.note_bytes;
        content = is.holds ∙ sym (contents m d d.rows d.lines refl refl);
        noted = is.notes ∙ sym (notes d.note (4 + length (drop 4 (written d))) (length (written d)) (written d) ends refl);
      } in
      ap (loaded m) (sym is.laid_out)
      ∙ (header_accepted d (sections_written d.rows d.lines d.note) k
      ∙ rows_accepted m d.trust d.rows d.lines d.note (after_header (written d)) (loaded_as (with_size new d.modes d.moments) (no_note (written d))) (loaded_as c n) t)

  -- a load that answered a note and left a content
  answered_ok : (o : Result Loaded LoadFault) (c : Content) (n : PartRead) → note_answer o ≡ Ok n → content_left o ≡ c → o ≡ Ok (loaded_as c n)
  answered_ok (Ok y) c n h k = let e : y.note ≡ n = cc in ap Ok (λ i. loaded_as (k i) (e i))
  answered_ok (Err f) c n h k = absurd cc

  pub loads_exactly : (bs : List ℕ) → ((i : ℕ) → get_or bs i 0 < 256) → LoadsExactly m bs (load_answer m bs) (load_after m bs)
  loads_exactly bs e c n = (
    λ h. accepted_as bs (loaded_as c n) (each_byte bs e) (answered_ok (loaded m bs) c n h.0 h.1),
    λ h. let k = accepts bs c n h in (ap note_answer k, ap content_left k),
  )

-- the same of an answer and a content that are the defined ones
pub exactly : (m : Meaning) (bs : List ℕ) (answer : Result PartRead LoadFault) (after : Content) → ((i : ℕ) → get_or bs i 0 < 256) → answer ≡ load_answer m bs → after ≡ load_after m bs → LoadsExactly m bs answer after
exactly m bs answer after e h k =
    subst (λ (a : Result PartRead LoadFault). LoadsExactly m bs a after) (sym h)
    (subst (λ (c : Content). LoadsExactly m bs (load_answer m bs) c) (sym k) (loads_exactly m bs e))
