-- What is left of the word gives what the whole does.
use Rattle.std.proofs.Common.{◌≡◌, ◌≤◌, drop}
use Rattle.words.proofs.Digits.{continued}
use Rattle.words.proofs.decimal.number.Given as goal

abbrev pub invariant-loop-byte : goal.invariant-loop-byte
invariant-loop-byte l = (l.n ≤ l.most) × (continued l.most l.n (drop l.byte-index l.word) ≡ continued l.most 0 l.word)
