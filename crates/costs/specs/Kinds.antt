-- The three kinds. In each, free is 0, worst is 4,294,967,295, and the smaller number is the cheaper.
use Rattle.std.specs.Prelude.{ℕ, ◌+◌, ◌*◌, ◌/◌, ◌%◌, ◌^◌, min, max, Bool, true, false, cond, ◌||◌, ◌==◌, nat_le, nat_lt}
use Rattle.costs.specs.Meaning.{Meaning}

-- every number of 32 bits
abbrev pub every : ℕ → Bool
every x = nat_lt x (2 ^ 32)

-- a sum of points; above 4,294,967,294 it is the worst
abbrev pub points_join : ℕ → ℕ → ℕ
points_join a b = cond (nat_lt 4294967294 (a + b)) 4294967295 (a + b)

-- Points: joining adds. The only kind that trust scales.
abbrev pub points : Meaning
points = record {
  is_cost = every;
  no_dearer = nat_le;
  join = points_join;
  free = 0;
  worst = 4294967295;
  letter = 80;
  scaled = true;
}

-- Severity: joining takes the larger.
abbrev pub severity : Meaning
severity = record {
  is_cost = every;
  no_dearer = nat_le;
  join = max;
  free = 0;
  worst = 4294967295;
  letter = 83;
  scaled = false;
}

-- a rank's upper 12 bits
abbrev pub breaches : ℕ → ℕ
breaches x = x / 2 ^ 20

-- a rank's lower 20 bits
abbrev pub seconds : ℕ → ℕ
seconds x = x % 2 ^ 20

-- at most 4,094 breaches, or the worst
abbrev pub rank_cost : ℕ → Bool
rank_cost x = nat_le (breaches x) 4094 || x == 4294967295

-- both parts are added; breaches above 4,094 make the worst, and seconds stop at 1,048,575
abbrev pub rank_join : ℕ → ℕ → ℕ
rank_join a b =
    cond (nat_lt 4094 (breaches a + breaches b)) 4294967295 ((breaches a + breaches b) * 2 ^ 20 + min (seconds a + seconds b) 1048575)

-- Rank: breaches before seconds.
abbrev pub rank : Meaning
rank = record {
  is_cost = rank_cost;
  no_dearer = nat_le;
  join = rank_join;
  free = 0;
  worst = 4294967295;
  letter = 82;
  scaled = false;
}
