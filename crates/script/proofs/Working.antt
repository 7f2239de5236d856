-- The worked scripts, computed.
use Rattle.std.proofs.Common.{refl}
use lib.Utf8.{encode}
use Rattle.std.specs.Fmt.{digits}
use Rattle.board.specs.Computing.{settled_log, record_between, best_moments, best_rows, recorded_reading}
use Rattle.file.specs.Records.{row_added, line_added, records_added}
use Rattle.file.specs.Load.{at_end, from_note, from_lines, from_rows, sized}
use Rattle.hex.specs.Hex.{encode_with, decode_pairs}
use Rattle.words.specs.Hex.{hex_number_of}
use Rattle.words.specs.Numbers.{number_of}
use Rattle.words.specs.Trims.{trimmed_of}
use Rattle.script.specs.Names.{spells}
use Rattle.script.specs.Worked.{WorkedScripts}

pub worked : WorkedScripts
unfolding encode digits settled_log recorded_reading best_rows best_moments record_between row_added line_added records_added at_end from_note from_lines from_rows sized encode_with decode_pairs hex_number_of number_of trimmed_of spells
worked = record { small = refl; each = refl }
