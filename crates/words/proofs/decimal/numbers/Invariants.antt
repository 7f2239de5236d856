-- The words before the index are read.
use Rattle.std.proofs.Common.{◌≡◌, ℕ, ◌<◌, [], map, length, get_or, Some}
use Rattle.words.specs.Numbers.{number_of}
use Rattle.words.proofs.decimal.numbers.Given as goal

abbrev pub invariant-loop-i : goal.invariant-loop-i
invariant-loop-i g l = (length l.found ≡ length l.most) × ((k : ℕ) → k < l.i → number_of (get_or l.most k 0) (get_or (map (λ x. x.now) l.words) k []) ≡ Some (get_or l.found k 0))
