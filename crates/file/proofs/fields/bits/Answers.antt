use Rattle.std.proofs.Common.{◌/◌, ◌^◌}
use Rattle.std.proofs.lemmas.Nat.{and_mask, one_shl}
use Rattle.file.proofs.fields.bits.Goals as goal

pub returns-clause-value : goal.returns-clause-value
returns-clause-value c = let one = one_shl c.args.width 64 c.requires.within.1 in rw one (and_mask (c.args.word / 2 ^ c.args.below) c.args.width)
