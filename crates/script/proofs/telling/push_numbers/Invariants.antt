use Rattle.std.proofs.Common.{◌≡◌, ◌++◌, drop}
use Rattle.std.specs.List.{flat_map}
use Rattle.script.specs.Telling.{spaced_number}
use Rattle.script.proofs.telling.push_numbers.Given as goal

abbrev pub invariant-loop-number : goal.invariant-loop-number
invariant-loop-number l =
    l.out.items ++ flat_map spaced_number (drop l.number-index l.numbers) ≡ l.initial.out.items ++ flat_map spaced_number l.numbers
