-- What is printed so far and what the lines that are left print is the whole.
use Rattle.std.proofs.Common.{◌≡◌, ◌++◌, map, drop, vec_items}
use Rattle.std.specs.List.{flat_map}
use Rattle.price.specs.Printed.{line_printed, input_printed}
use Rattle.price.proofs.text.price_lines.Given as goal

abbrev pub invariant-loop-line : goal.invariant-loop-line
invariant-loop-line l = vec_items l.out ++ flat_map line_printed (drop l.line-index (map (λ x. x.now) l.line-items)) ≡ input_printed l.input
