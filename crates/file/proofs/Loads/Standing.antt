-- A note that a load answers stands in the file at its place.
use Rattle.std.proofs.Common.{◌≡◌, ℕ, ◌-◌, List, ◌++◌, length, take, drop, Some, None, Ok, Err, Option, Result, sym, refl, ap, ap₂, ◌∙◌, subst, append_assoc, append-nil, length-append, arith}
use Rattle.std.proofs.Math.Seq.{drop-append_seam, take-length}
use Rattle.std.specs.Borrow.{Bor}
use Rattle.costs.specs.Meaning.{Meaning}
use Rattle.board.specs.Content.{Content}
use Rattle.board.specs.Settling.{Record}
use Rattle.file.specs.declared.call.Call.{Call}
use Rattle.file.specs.declared.call.Call.TheVariants as call
use Rattle.file.specs.declared.call.Answer.{Answer}
use Rattle.file.specs.declared.call.Answer.TheVariants as gives
use Rattle.file.specs.declared.call.NoteSpan.{NoteSpan}
use Rattle.file.specs.declared.refusal.LoadFault.{LoadFault}
use Rattle.file.specs.Parts.{PartRead}
use Rattle.file.specs.Sections.{rows_code, lines_code, note_code}
use Rattle.file.specs.Load.{load_answer}
use Rattle.file.specs.Layout.{Description, held_in, in_bytes, header_word, head_word, row_bytes, line_bytes, one_byte, section_written, written, note_at_end, note_of, LoadsExactly}
use Rattle.file.specs.Answers.{span, spanned, bytes_at, settled_answer, NoteStands}
use Rattle.file.proofs.Loads.Tails.{bytes_written}

-- a note at a file's end stands there
at_end : (note : Option (List ℕ)) (file before : List ℕ) → file ≡ before ++ held_in note → bytes_at (span (note_at_end note (length file))) file ≡ (note_at_end note (length file)).bytes
at_end None file before e = refl
at_end (Some bs) file before e =
    let place : length file - length bs ≡ length before = omega (arith, ap length e, length-append before bs) in
    ap (λ (xs : List ℕ). take (length bs) xs) (ap₂ (λ (n : ℕ) (xs : List ℕ). drop n xs) place e ∙ drop-append_seam before bs) ∙ take-length bs

regroup : (a b c d e : List ℕ) → a ++ (b ++ (c ++ (d ++ e))) ≡ (a ++ (b ++ (c ++ d))) ++ e
regroup a b c d e = simp append_assoc

-- a file as it is written ends in its note
ends : (d : Description) (note : Option (List ℕ)) → d.note ≡ note → (before : List ℕ) × (written d ≡ before ++ held_in note)
ends d None e = (written d, sym (append-nil (written d)))
ends d (Some bs) e =
    let header = in_bytes 4 (header_word d.letter d.modes d.moments d.trust) in
    let rows = section_written rows_code row_bytes d.rows in
    let lines = section_written lines_code line_bytes d.lines in
    let head = in_bytes 2 (head_word note_code (length bs)) in (
      header ++ (rows ++ (lines ++ head)),
      ap (λ (o : Option (List ℕ)). header ++ (rows ++ (lines ++ section_written note_code one_byte o))) e
          ∙ ap (λ (xs : List ℕ). header ++ (rows ++ (lines ++ (head ++ xs)))) (bytes_written bs)
          ∙ regroup header rows lines head bs,
    )

-- the note that a file describes
described : (d : Description) → bytes_at (span (note_of d)) (written d) ≡ (note_of d).bytes
described d = let b = ends d d.note refl in at_end d.note (written d) b.0 b.1

-- what a load answers
pub load_stands : (m : Meaning) (file : Bor (List ℕ)) (a : Result PartRead LoadFault) (after : Content) (r : Result NoteSpan LoadFault) → LoadsExactly m file.now a after → a ≡ load_answer m file.now → r ≡ spanned a → NoteStands m (call.Load file) (gives.Loaded r)
load_stands m file a after (Err e) exact is same = tt
load_stands m file (Err f) after (Ok n) exact is same = absurd cc
load_stands m file (Ok p) after (Ok n) exact is same =
    let d = (exact after p).0 (refl, refl) in
    let there : bytes_at (span p) file.now ≡ p.bytes =
    subst (λ (x : PartRead). bytes_at (span x) file.now ≡ x.bytes) (sym d.notes)
    (subst (λ (ys : List ℕ). bytes_at (span (note_of d.description)) ys ≡ (note_of d.description).bytes) d.laid_out (described d.description)) in
    let e : span p ≡ n = cc in
    let bytes : p.bytes ≡ bytes_at n file.now = sym there ∙ ap (λ (s : NoteSpan). bytes_at s file.now) e in
    sym is ∙ (λ i. Ok (record { bytes = bytes i; place = (e i).place }))

-- what a settled board answers: it takes no load
pub asked_stands : (m : Meaning) (c : Content) (log : List Record) (x : Call) (buffer : List ℕ) (a : Answer) → a ≡ settled_answer m c log x buffer → NoteStands m x a
asked_stands m c log (call.Load file) buffer a e = subst (NoteStands m (call.Load file)) (sym e) tt
asked_stands m c log x buffer a e = tt
