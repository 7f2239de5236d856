-- Fields put into a word are read from it again, and a word that is read is made of its fields.
use Rattle.std.proofs.Common.{◌≡◌, ℕ, ◌+◌, ◌*◌, ◌/◌, ◌^◌, ◌<◌, Bool, true, false, cond, ◌||◌, eqb, Ok, Err, refl, ap, ◌∙◌, subst, arith}
use Rattle.std.proofs.lemmas.Bool.{eq-eqb, eqb-true, true≢false}
use Rattle.std.proofs.lemmas.Bool.Decides.{nat_tests}
use Rattle.costs.specs.Meaning.{Meaning}
use Rattle.board.specs.declared.row.RowKind.{RowKind}
use Rattle.board.specs.declared.row.RowKind.TheVariants.{Plain, Open, Close, End}
use Rattle.board.specs.declared.row.Row.{Row}
use Rattle.board.specs.declared.row.Line.{Line}
use Rattle.board.specs.Rows.{kind_number, kind_of_bits}
use Rattle.file.specs.declared.fields.Header.{Header}
use Rattle.file.specs.declared.refusal.FileRefusal.{FileRefusal}
use Rattle.file.specs.Fields.{field, row_fields, row_read, line_fields, line_read, header_fields, header_read}
use Rattle.file.specs.Layout.{row_word, line_word, head_word, header_word, InBits, Byte, Count}

-- the numbers of a row and of a line fit their fields
pub record RowFits (r : Row) : Type 0 where
  pub from_fits : InBits 6 r.from
  pub to_fits : InBits 6 r.to
  pub label_fits : Byte r.label
  pub action_fits : Byte r.action
  pub cost_fits : InBits 32 r.cost

pub record LineFits (l : Line) : Type 0 where
  pub from_fits : InBits 6 l.from
  pub to_fits : InBits 6 l.to
  pub event_fits : Byte l.event
  pub cost_fits : InBits 32 l.cost

kind_below : (k : RowKind) → kind_number k < 4
kind_below Plain = omega arith
kind_below Open = omega arith
kind_below Close = omega arith
kind_below End = omega arith

kind_again : (k : RowKind) → kind_of_bits (kind_number k) ≡ k
kind_again Plain = refl
kind_again Open = refl
kind_again Close = refl
kind_again End = refl

number_again : (n : ℕ) → n < 4 → kind_number (kind_of_bits n) ≡ n
number_again n h = grind (arith, nat_tests)

-- what is read unless a zero bit is not zero
read_if : {A : Type 0} (z : ℕ) (a b : A) (e : FileRefusal) → z ≡ 0 → a ≡ b → cond (eqb z 0) (Ok a) (Err e) ≡ Ok b
read_if z a b e h k = let t = eq-eqb z 0 h in rw (t, k)

was_read : {A : Type 0} (z : ℕ) (a b : A) (e : FileRefusal) → cond (eqb z 0) (Ok a) (Err e) ≡ Ok b → (z ≡ 0) × (a ≡ b)
was_read z a b e h = grind (arith, nat_tests)

pub row_word_fits : (r : Row) → RowFits r → row_word r < 2 ^ 64
row_word_fits r h = omega (arith, kind_below r.kind)

pub row_word_read : (r : Row) → RowFits r → row_read (row_word r) ≡ Ok r
row_word_read r h =
    let w = row_word r in
    let k = kind_below r.kind in
    let kind : field w 62 2 ≡ kind_number r.kind = omega arith in
    let from : field w 56 6 ≡ r.from = omega arith in
    let to : field w 50 6 ≡ r.to = omega arith in
    let label : field w 42 8 ≡ r.label = omega arith in
    let action : field w 34 8 ≡ r.action = omega arith in
    let zeros : field w 32 2 ≡ 0 = omega arith in
    let cost : field w 0 32 ≡ r.cost = omega arith in
    let kinds : kind_of_bits (field w 62 2) ≡ r.kind = ap kind_of_bits kind ∙ kind_again r.kind in
    read_if (field w 32 2) (row_fields w) r _ zeros (λ i. record { kind = kinds i; from = from i; to = to i; label = label i; action = action i; cost = cost i })

pub row_read_word : (w : ℕ) (r : Row) → w < 2 ^ 64 → row_read w ≡ Ok r → RowFits r × (row_word r ≡ w)
row_read_word w r h e =
    let z = was_read (field w 32 2) (row_fields w) r _ e in
    let number : kind_number (kind_of_bits (field w 62 2)) ≡ field w 62 2 = number_again (field w 62 2) (omega arith) in
    let zeros : field w 32 2 ≡ 0 = z.0 in
    let P : Row → Type 0 = λ x. RowFits x × (row_word x ≡ w) in
    subst P z.1 (
      record { from_fits = omega arith; to_fits = omega arith; label_fits = omega arith; action_fits = omega arith; cost_fits = omega arith },
      omega arith,
    )

pub line_word_fits : (l : Line) → LineFits l → line_word l < 2 ^ 64
line_word_fits l h = omega arith

pub line_word_read : (l : Line) → LineFits l → line_read (line_word l) ≡ Ok l
line_word_read l h =
    let w = line_word l in
    let from : field w 58 6 ≡ l.from = omega arith in
    let to : field w 52 6 ≡ l.to = omega arith in
    let event : field w 44 8 ≡ l.event = omega arith in
    let zeros : field w 32 12 ≡ 0 = omega arith in
    let cost : field w 0 32 ≡ l.cost = omega arith in
    read_if (field w 32 12) (line_fields w) l _ zeros (λ i. record { from = from i; to = to i; event = event i; cost = cost i })

pub line_read_word : (w : ℕ) (l : Line) → w < 2 ^ 64 → line_read w ≡ Ok l → LineFits l × (line_word l ≡ w)
line_read_word w l h e =
    let z = was_read (field w 32 12) (line_fields w) l _ e in
    let zeros : field w 32 12 ≡ 0 = z.0 in
    let top : w / 2 ^ 58 ≡ field w 58 6 = omega arith in
    let to : w / 2 ^ 52 ≡ w / 2 ^ 58 * 64 + field w 52 6 = omega arith in
    let event : w / 2 ^ 44 ≡ w / 2 ^ 52 * 256 + field w 44 8 = omega arith in
    let above : w / 2 ^ 32 ≡ w / 2 ^ 44 * 4096 = omega arith in
    let low : w ≡ w / 2 ^ 32 * 2 ^ 32 + field w 0 32 = omega arith in
    let P : Line → Type 0 = λ x. LineFits x × (line_word x ≡ w) in
    subst P z.1 (
      record { from_fits = omega arith; to_fits = omega arith; event_fits = omega arith; cost_fits = omega arith },
      omega arith,
    )

-- a header is read where its letter, its zero bits and its trust are right
scaled_or : (b : Bool) (t : ℕ) → (b ≡ false → t ≡ 16) → (b || eqb t 16) ≡ true
scaled_or true t h = refl
scaled_or false t h = eq-eqb t 16 (h refl)

reads_header : (m : Meaning) (w a b t : ℕ) → field w 24 8 ≡ m.letter → field w 17 7 ≡ a → field w 10 7 ≡ b → field w 8 2 ≡ 0 → field w 0 8 ≡ t → (m.scaled ≡ false → t ≡ 16) → header_read m w ≡ Ok (record { modes = a; moments = b; trust = t })
reads_header m w a b t letter modes moments zeros trust plain =
    let one = eq-eqb (field w 24 8) m.letter letter in
    let two = eq-eqb (field w 8 2) 0 zeros in
    let three = scaled_or m.scaled t plain in
    rw (one, two, modes, moments, trust, three)

-- a section head
pub head_word_fits : (code count : ℕ) → code < 16 → Count count → head_word code count < 2 ^ 16
head_word_fits code count h k = omega arith

pub head_word_code : (code count : ℕ) → code < 16 → Count count → field (head_word code count) 12 4 ≡ code
head_word_code code count h k = omega arith

pub head_word_count : (code count : ℕ) → code < 16 → Count count → field (head_word code count) 0 12 ≡ count
head_word_count code count h k = omega arith

pub head_read_word : (w : ℕ) → w < 2 ^ 16 → head_word (field w 12 4) (field w 0 12) ≡ w
head_read_word w h = omega arith

pub count_below : (w : ℕ) → Count (field w 0 12)
count_below w = omega arith

-- a header
pub header_word_fits : (l a b t : ℕ) → Byte l → InBits 7 a → InBits 7 b → Byte t → header_word l a b t < 2 ^ 32
header_word_fits l a b t hl ha hb ht = omega arith

pub header_word_read : (m : Meaning) (l a b t : ℕ) → Byte l → InBits 7 a → InBits 7 b → Byte t → l ≡ m.letter → (m.scaled ≡ false → t ≡ 16) → header_read m (header_word l a b t) ≡ Ok (record { modes = a; moments = b; trust = t })
header_word_read m l a b t hl ha hb ht own plain =
    let w = header_word l a b t in
    let letter : field w 24 8 ≡ m.letter = omega (arith, own) in
    let modes : field w 17 7 ≡ a = omega arith in
    let moments : field w 10 7 ≡ b = omega arith in
    let zeros : field w 8 2 ≡ 0 = omega arith in
    let trust : field w 0 8 ≡ t = omega arith in
    reads_header m w a b t letter modes moments zeros trust plain

-- what a header that is read was
pub record HeaderWas (m : Meaning) (w : ℕ) (h : Header) : Type 0 where
  pub letter_fits : Byte m.letter
  pub modes_fit : InBits 7 h.modes
  pub moments_fit : InBits 7 h.moments
  pub trust_fits : Byte h.trust
  pub plain_trust : m.scaled ≡ false → h.trust ≡ 16
  pub is : header_word m.letter h.modes h.moments h.trust ≡ w

header_tests : (m : Meaning) (w : ℕ) (h : Header) → header_read m w ≡ Ok h → (field w 24 8 ≡ m.letter) × (field w 8 2 ≡ 0) × ((m.scaled || eqb (field w 0 8) 16) ≡ true) × (header_fields w ≡ h)
header_tests m w h e = grind (arith, nat_tests)

or_else : (b : Bool) (t : ℕ) → (b || eqb t 16) ≡ true → b ≡ false → t ≡ 16
or_else true t h e = absurd (true≢false e)
or_else false t h e = eqb-true t 16 h

pub header_read_word : (m : Meaning) (w : ℕ) (h : Header) → w < 2 ^ 32 → header_read m w ≡ Ok h → HeaderWas m w h
header_read_word m w h b e =
    let t = header_tests m w h e in
    let letter : field w 24 8 ≡ m.letter = t.0 in
    let zeros : field w 8 2 ≡ 0 = t.1 in
    let top : w / 2 ^ 24 ≡ m.letter = omega arith in
    let modes : w / 2 ^ 17 ≡ w / 2 ^ 24 * 128 + field w 17 7 = omega arith in
    let moments : w / 2 ^ 10 ≡ w / 2 ^ 17 * 128 + field w 10 7 = omega arith in
    let above : w / 2 ^ 8 ≡ w / 2 ^ 10 * 4 = omega arith in
    let low : w ≡ w / 2 ^ 8 * 256 + field w 0 8 = omega arith in
    subst (HeaderWas m w) t.3 (
    record {
      letter_fits = omega arith;
      modes_fit = omega arith;
      moments_fit = omega arith;
      trust_fits = omega arith;
      plain_trust = or_else m.scaled (field w 0 8) t.2;
      is = omega arith;
    }
    )
