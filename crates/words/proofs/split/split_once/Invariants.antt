-- What is before the index, in front of the split of the rest, is the split of the whole.
use Rattle.std.proofs.Common.{◌≡◌, take, drop}
use Rattle.words.specs.Splits.{split_of}
use Rattle.words.proofs.Splitting.{longer_by}
use Rattle.words.proofs.split.split_once.Given as goal

abbrev pub invariant-loop-i : goal.invariant-loop-i
invariant-loop-i l = longer_by (take l.i l.bytes) (split_of l.mark (drop l.i l.bytes)) ≡ split_of l.mark l.bytes
