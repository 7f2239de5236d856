-- Joining a list of numbers under a kind.
use Rattle.std.specs.Prelude.{◌≡◌, ℕ, List, ◌++◌, Ok, Err, Option, Result, not}
use Rattle.std.specs.Option.{option_map_or}
use Rattle.std.specs.List.{AllByRecursion, fold, position_from}
use Rattle.costs.specs.Meaning.{Meaning, Cost}

-- each number of the list is a cost
abbrev pub Costs : Meaning → List ℕ → Type 0
Costs m xs = AllByRecursion (Cost m) xs

-- the list joined from first to last, onto a
abbrev pub joined_onto : Meaning → ℕ → List ℕ → ℕ
joined_onto m a xs = fold m.join a xs

-- the list joined from first to last; free for the empty one
abbrev pub joined : Meaning → List ℕ → ℕ
joined m xs = joined_onto m m.free xs

-- the index of the first number that is no cost, counted from i
abbrev pub not_a_cost_from : Meaning → ℕ → List ℕ → Option ℕ
not_a_cost_from m i xs = position_from (λ x. not (m.is_cost x)) i xs

-- what joining a list answers: its joined cost, or the index of the first number that is no cost
abbrev pub join_answer : Meaning → List ℕ → Result ℕ ℕ
join_answer m xs = option_map_or Err (not_a_cost_from m 0 xs) (Ok (joined m xs))

-- a list cut anywhere: the two parts' totals joined are the whole's
abbrev pub CutAnywhere : Meaning → Type 0
CutAnywhere m =
    (xs ys : List ℕ) → Costs m xs → Costs m ys → joined m (xs ++ ys) ≡ m.join (joined m xs) (joined m ys)
