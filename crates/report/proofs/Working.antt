-- The worked examples, computed.
use Rattle.std.proofs.Common.{codes, refl, rules}
use lib.Utf8.{encode}
use Rattle.std.specs.Fmt.{digits}
use Rattle.file.specs.Records.{row_added, line_added, records_added}
use Rattle.file.specs.Load.{at_end, from_note, from_lines, from_rows, sized}
use Rattle.board.specs.Computing.{settled_log, record_between, best_moments, best_rows, recorded_reading}
use Rattle.costs.specs.Meaning.{Lawful}
use Rattle.costs.specs.Kinds.{points}
use Rattle.board.specs.declared.row.RowKind.TheVariants.{Plain, Open, Close, End}
use Rattle.board.specs.Content.{Sound, new}
use Rattle.board.specs.Settling.{RecordedReading}
use Rattle.board.specs.Promises.{CallsKeepEaseAndSettle}
use Rattle.board.specs.Examples.{row, line, flight, flight_moves}
use Rattle.report.specs.Least.{LeastPrints, loaded, reading, none, one_more}
use Rattle.report.proofs.Showing.{prints}
use Rattle.report.specs.Worked.{flight_file, WorkedExamples}

-- the kind of points keeps the laws
points_lawful : Lawful points
points_lawful = search rules

-- the flight is sound, as what calls make of a new board
flight_sound : CallsKeepEaseAndSettle → Sound points flight
flight_sound promises =
    let keep = promises.kept points in
    let size = keep.sized new 3 3 keep.begun in
    let r0 = keep.row_added _ (row Open 0 1 0 0 1) size in
    let r1 = keep.row_added _ (row Plain 1 1 1 7 4) r0 in
    let r2 = keep.row_added _ (row Plain 1 1 2 8 9) r1 in
    let r3 = keep.row_added _ (row Close 1 0 0 0 1) r2 in
    let r4 = keep.row_added _ (row Plain 0 2 2 9 3) r3 in
    let r5 = keep.row_added _ (row End 2 2 0 0 0) r4 in
    let r6 = keep.row_added _ (row End 0 0 0 0 20) r5 in
    keep.line_added _ (line 1 2 2 0) (keep.line_added _ (line 0 1 1 0) r6)

-- what is printed of its file
flight_text : CallsKeepEaseAndSettle → LeastPrints flight_file (codes "P 9 5\n0 - 0\n1 0 7\n3 - 0\n4 1 9\n5 - 0\n")
unfolding encode digits settled_log recorded_reading best_rows best_moments record_between row_added line_added records_added at_end from_note from_lines from_rows sized
flight_text promises =
    let sound = flight_sound promises in
    let computed = promises.computed points flight points_lawful sound in
    let recorded : RecordedReading points flight (settled_log points flight) 9 flight_moves = (computed.some (settled_log points flight) computed.settled 9 flight_moves).1 (5, refl) in
    prints points_lawful promises flight_file sound _ (loaded refl (reading recorded (search rules) (one_more refl (one_more refl (one_more refl (one_more refl (one_more refl none)))))))

pub worked : CallsKeepEaseAndSettle → WorkedExamples
unfolding encode digits settled_log recorded_reading best_rows best_moments record_between row_added line_added records_added at_end from_note from_lines from_rows sized
worked promises = record {
  joining = record { full_seconds = refl; no_rank = refl; last_rank = refl; too_many_breaches = refl; last_sum = refl; first_worst = refl };
  settling = record { flight_log = refl; flight_reading = refl };
  layout = record {
    header_written = refl;
    header_taken = refl;
    row_held = refl;
    row_written = refl;
    row_taken = refl;
    halves_up = refl;
    no_trust = refl;
    worst_stays = refl;
    above_is_worst = refl;
    unscaled = refl;
    small_written = refl;
    small_loaded = refl;
    other_kind = refl;
    nothing = refl;
    one_more = refl;
    no_section = refl;
  };
  flight_made = refl;
  flight_made_severity = refl;
  flight_made_rank = refl;
  flight_cost = refl;
  flight_moves_packed = refl;
  flight_path = refl;
  flight_written = refl;
  flight_check = refl;
  short_buffer = refl;
  short_left = refl;
  flight_header = refl;
  flight_row = refl;
  flight_loaded = refl;
  flight_printed = flight_text promises;
  severity_cost = refl;
  dearer_made = refl;
  dearer_cost = refl;
  new_none = refl;
  end_made = refl;
  end_cost = refl;
  other_bracket = refl;
  same_bracket = refl;
  rank_declined = refl;
  square = refl;
  oblong = refl;
  size_number = refl;
  cost_number = refl;
  reading_number = refl;
  length_number = refl;
}
