-- The worked example, by computing it.
use Rattle.std.proofs.Common.{◌≡◌, length, Some, refl}
use Rattle.costs.specs.Kinds.{points}
use Rattle.board.specs.Computing.{settled_log, record_between, best_moments, best_rows, recorded_reading}
use Rattle.board.specs.Examples.{flight, flight_moves, SettlingExamples}

flight_log : length (settled_log points flight) ≡ 17
unfolding settled_log
flight_log = refl

flight_reading : recorded_reading points flight (settled_log points flight) ≡ Some (record { row = 5; cost = 9; moves = flight_moves })
unfolding settled_log recorded_reading best_rows best_moments record_between
flight_reading = refl

pub settling_examples : SettlingExamples
settling_examples = record { flight_log = flight_log; flight_reading = flight_reading }
