-- What is left of the list gives what the whole does.
use Rattle.std.proofs.Common.{◌≡◌, ◌≤◌, length, drop}
use Rattle.costs.specs.Lists.{joined, joined_onto, not_a_cost_from}
use Rattle.costs.proofs.list.join_all.Given as goal

abbrev pub invariant-loop-i : goal.invariant-loop-i
invariant-loop-i g l =
    let m = g.K.Kind.meaning in
    (l.i ≤ length l.xs) × (joined_onto m l.total (drop l.i l.xs) ≡ joined m l.xs)
    × (not_a_cost_from m l.i (drop l.i l.xs) ≡ not_a_cost_from m 0 l.xs)
