-- What is left has the same bytes without separators at that end.
use Rattle.std.proofs.Common.{◌≡◌, length}
use Rattle.words.specs.Trims.{without_back}
use Rattle.words.proofs.trim.trim_back.Given as goal

abbrev pub invariant-loop-rest : goal.invariant-loop-rest
invariant-loop-rest g l = without_back g.S.Separator.separates l.rest ≡ without_back g.S.Separator.separates l.bytes

abbrev pub decreases-loop-rest : goal.decreases-loop-rest
decreases-loop-rest g l = length l.rest
