use Rattle.std.proofs.Common.{◌≡◌, ℕ, ◌<◌, get_or, refl, arith, rules}
use Rattle.board.specs.Held.{draft_content, draft_sound}
use Rattle.file.specs.Records.{row_added, line_added, records_added}
use Rattle.file.specs.Load.{at_end, from_note, from_lines, from_rows, sized, load_answer, load_after}
use Rattle.file.specs.Parts.{answered}
use Rattle.file.specs.Examples.{LayoutExamples}
use Rattle.file.proofs.Loads.Exactly.{exactly}
use Rattle.file.proofs.Faults.Declining.{declines_exactly}
use Rattle.file.proofs.Loads.Longest.{no_longer}
use Rattle.file.proofs.loading.DraftLoad.load.Goals as goal

worked : LayoutExamples
unfolding row_added line_added records_added at_end from_note from_lines from_rows sized
worked = record {
  header_written = refl;
  header_taken = refl;
  row_held = refl;
  row_written = refl;
  row_taken = refl;
  halves_up = refl;
  no_trust = refl;
  worst_stays = refl;
  above_is_worst = refl;
  unscaled = refl;
  small_written = refl;
  small_loaded = refl;
  other_kind = refl;
  nothing = refl;
  one_more = refl;
  no_section = refl;
}

pub returns : goal.returns
returns g c =
    let m = g.K.Kind.meaning in
    let bytes = c.args.bytes.now in
    let answer : answered c.fill.result ≡ load_answer m bytes = search rules in
    let after : draft_content c.fill.new.draft ≡ load_after m bytes = search rules in
    let each : (i : ℕ) → get_or bytes i 0 < 256 = λ i. omega (arith, c.type_inv.bytes i) in
    let exact = exactly m bytes _ _ each answer after in
    record {
      answer = answer;
      after = after;
      sound = draft_sound c.fill.new.draft;
      exact = exact;
      refusals = declines_exactly m bytes _ each answer;
      size = no_longer m bytes _ _ exact;
      examples = worked;
    }
