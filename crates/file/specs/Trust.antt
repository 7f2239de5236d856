-- What trust makes of a line's cost.
use Rattle.std.specs.Prelude.{ℕ, ◌+◌, ◌*◌, ◌/◌, cond, ◌==◌, nat_lt}
use Rattle.costs.specs.Meaning.{Meaning}

-- cost times trust, divided by 16, to the nearest, halves up
abbrev pub nearest : ℕ → ℕ → ℕ
nearest trust cost = (cost * trust + 8) / 16

-- the worst stays the worst, and what is above 4,294,967,294 becomes it
abbrev pub scaled_cost : ℕ → ℕ → ℕ → ℕ
scaled_cost worst trust cost = cond (cost == worst) worst (cond (nat_lt 4294967294 (nearest trust cost)) worst (nearest trust cost))

-- where trust scales the kind, the cost scaled; elsewhere the cost as it is
abbrev pub trusted : Meaning → ℕ → ℕ → ℕ
trusted m trust cost = cond m.scaled (scaled_cost m.worst trust cost) cost
