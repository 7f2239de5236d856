-- What cost and path tell of the reading that was found.
use Rattle.std.proofs.Common.{◌≡◌, ℕ, ◌+◌, ◌<◌, ◌≤◌, min, true, leb, List, [], ◌∷◌, ◌++◌, map, length, get_or, drop, set, Some, Ok, Option, subst, sym, ap, ◌∙◌, ap₂, arith, length-append}
use Rattle.std.proofs.lemmas.Bool.{cond-true, and_from, le-leb}
use Rattle.std.proofs.lemmas.List.{append_assoc, map-append, length-map, drop_more, set_at}
use Rattle.costs.specs.declared.kind.Kind.{Ghosts}
use Rattle.costs.specs.Meaning.{Lawful}
use Rattle.board.specs.declared.settled.Settled.{Settled}
use Rattle.board.specs.ByNumber.{ReadingIn, reading_of}
use Rattle.board.specs.Spelled.{moves_at, move_of}
use Rattle.board.proofs.Questions.Holding.{settled_of}
use Rattle.board.proofs.Questions.Packs.{settled_small}
use Rattle.board.specs.declared.log.Log.{Log}
use Rattle.board.specs.declared.reading.Reading.{Reading as LogReading}
use Rattle.board.specs.declared.moves.Move.{Move}
use Rattle.board.specs.Packing.{Small}
use Rattle.board.specs.Settling.{bare}
use Rattle.board.specs.Logs.{nth_record}
use Rattle.board.specs.Computing.{Reading, recorded_reading}
use Rattle.board.specs.Boards.{settled_content, settled_records}
use Rattle.board.specs.Questions.{fits, written_told, moves_written, reading_answer, reading_after}

-- what is told of a reading in a log
module _ (l : Log) (r : LogReading) (o : Option Reading) (is : reading_of l (Some r) ≡ o) (k : ℕ) (measured : k ≡ min (length (nth_record l r.before).moves) 65536) where
  the_found : Reading
  the_found = record { row = r.row; cost = r.cost; moves = (nth_record l r.before).moves ++ (bare r.row ∷ []) }

  one_more : length ((nth_record l r.before).moves ++ (bare r.row ∷ [])) ≡ length (nth_record l r.before).moves + 1
  one_more = length-append (nth_record l r.before).moves (bare r.row ∷ [])

  -- it fits
  fits_test : {A : Type 0} (buffer : List A) → k < length buffer → k < 65535 → fits the_found buffer ≡ true
  unfolding the_found
  fits_test buffer h g =
      let n = one_more in
      let all = length ((nth_record l r.before).moves ++ (bare r.row ∷ [])) in
      let in_buffer : all ≤ length buffer = omega arith in
      let in_all : all ≤ 65535 = omega arith in
      and_from (leb all (length buffer)) (leb all 65535) (le-leb _ _ in_buffer) (le-leb _ _ in_all)

  written_last : {A : Type 0} (form : Move → A) (buffer out : List A) (x : A) → length (nth_record l r.before).moves < length buffer → out ≡ map form (nth_record l r.before).moves ++ drop (length (nth_record l r.before).moves) buffer → x ≡ form (bare r.row) → set out (length (nth_record l r.before).moves) x ≡ map form ((nth_record l r.before).moves ++ (bare r.row ∷ [])) ++ drop (length ((nth_record l r.before).moves ++ (bare r.row ∷ []))) buffer
  written_last {A} form buffer out x h e f =
      let ms = (nth_record l r.before).moves in
      let n = length ms in
      ap₂ (λ (y : List A) (z : A). set y n z) (e ∙ ap (λ (d : List A). map form ms ++ d) (drop_more buffer n (form (bare r.row)) h)) f
      ∙ set_at (map form ms) (get_or buffer n (form (bare r.row))) (drop (n + 1) buffer) (form (bare r.row)) n (length-map ms form)
      ∙ sym (append_assoc (map form ms) (form (bare r.row) ∷ []) (drop (n + 1) buffer))
      ∙ ap₂ (λ (y : List A) (j : ℕ). y ++ drop j buffer) (sym (map-append form ms (bare r.row ∷ []))) (sym one_more)

  path_short : {A : Type 0} (form : Move → A) (buffer out : List A) (n : ℕ) (x : A) → k < length buffer → k < 65535 → n ≡ length (nth_record l r.before).moves → out ≡ map form (nth_record l r.before).moves ++ drop (length (nth_record l r.before).moves) buffer → x ≡ form (bare r.row) → (Ok (n + 1) ≡ written_told o buffer) × (set out n x ≡ moves_written form o buffer)
  unfolding the_found
  path_short form buffer out n x h g e f z =
      let t = fits_test buffer h g in
      let c = one_more in
      let count : n + 1 ≡ length ((nth_record l r.before).moves ++ (bare r.row ∷ [])) = omega arith in (
        ap Ok count ∙ sym (cond-true _ _ _ t) ∙ ap (λ y. written_told y buffer) is,
        ap (λ j. set out j x) e ∙ written_last form buffer out x (omega arith) f z ∙ sym (cond-true _ _ _ t) ∙ ap (λ y. moves_written form y buffer) is,
      )

-- what a settled board tells of the reading that it recorded
module _ {K : Type 0} {k : Ghosts K} (laws : Lawful k.meaning) (s : Settled K k) {w : Option LogReading} (r : LogReading) (w-is : w ≡ Some r) (within : ReadingIn s.log.count (length s.tables.rows.items) w) where
  in_log : r.before < s.log.count
  in_log = (subst (ReadingIn s.log.count (length s.tables.rows.items)) w-is within).0

  pub told_small : (i : ℕ) → i < length (moves_at s.log r.before) → Small (move_of s.log r.before i)
  told_small = let d = settled_of laws s in settled_small s.log r.before laws s.tables.sound (d.rounds, d.reached) in_log

  pub told_path : reading_of s.log w ≡ recorded_reading k.meaning (settled_content s) (settled_records s) → {A : Type 0} (form : Move → A) (buffer out : List A) (n : ℕ) (x : A) → get_or s.log.lengths r.before 0 < length buffer → get_or s.log.lengths r.before 0 < 65535 → n ≡ length (moves_at s.log r.before) → out ≡ map form (moves_at s.log r.before) ++ drop (length (moves_at s.log r.before)) buffer → x ≡ form (bare r.row) → (Ok (n + 1) ≡ reading_answer k.meaning (settled_content s) (settled_records s) buffer) × (set out n x ≡ reading_after form k.meaning (settled_content s) (settled_records s) buffer)
  told_path which form = path_short s.log r _ (ap (reading_of s.log) (sym w-is) ∙ which) _ (s.book.spells.lengths_are r.before in_log) form
