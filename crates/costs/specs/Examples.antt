-- Worked examples of the three kinds.
use Rattle.std.specs.Prelude.{◌≡◌, true, false}
use Rattle.costs.specs.Kinds.{points, rank}

pub record JoiningExamples : Type 0 where
  -- 1 breach and 1,048,575 seconds joined with 1 second is unchanged
  pub full_seconds : rank.join 2097151 1 ≡ 2097151
  -- 4,095 breaches are no cost
  pub no_rank : rank.is_cost 4293918720 ≡ false
  -- 4,094 breaches and all seconds are one
  pub last_rank : rank.is_cost 4293918719 ≡ true
  -- a breach above 4,094 makes the worst
  pub too_many_breaches : rank.join 4292870144 1048576 ≡ rank.worst
  -- the last sum of points below the worst, and the first that is the worst
  pub last_sum : points.join 4294967290 4 ≡ 4294967294
  pub first_worst : points.join 4294967290 5 ≡ points.worst
