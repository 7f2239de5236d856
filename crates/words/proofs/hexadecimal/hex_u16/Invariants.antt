-- What is left of the word gives what the whole does, and the number has as many digits as were read.
use Rattle.std.proofs.Common.{◌≡◌, ◌^◌, ◌<◌, drop, Some}
use Rattle.words.specs.Hex.{hex_on}
use Rattle.words.proofs.hexadecimal.hex_u16.Given as goal

abbrev pub invariant-loop-byte : goal.invariant-loop-byte
invariant-loop-byte l = (l.n < 16 ^ l.byte-index) × (hex_on (Some l.n) (drop l.byte-index l.word) ≡ hex_on (Some 0) l.word)
