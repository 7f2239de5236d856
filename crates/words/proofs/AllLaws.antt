-- The laws, by name.
use Rattle.words.specs.Laws.{WordsCutAndReadBack}
use Rattle.words.proofs.Cutting.{uncut_append, cuts_apart}
use Rattle.words.proofs.Digits.{decimal_digits, reads_back}
use Rattle.words.proofs.HexDigits.{bytes_read_back, number_reads_back}
use Rattle.words.proofs.Splitting.{rejoins}
use Rattle.words.proofs.Trimming.{same_pieces}

pub word_laws : WordsCutAndReadBack
word_laws = record {
  cuts = cuts_apart;
  uncut = uncut_append;
  trims = same_pieces;
  rejoins = rejoins;
  digits = decimal_digits;
  numbers_back = reads_back;
  hex_back = number_reads_back;
  bytes_back = bytes_read_back;
}
