-- The numbers of places and of pairs.
use Rattle.std.proofs.Common.{◌≡◌, ◌*◌, ◌<◌, ◌≤◌, mul_comm, arith}
use Rattle.std.proofs.lemmas.Nat.{mul-add-lt}
use Rattle.board.specs.Moves.{Place, On, place_number, moment, mode}
use Rattle.board.specs.Content.{Content}
use Rattle.board.specs.Logs.{pair_of}

pub place_below : (c : Content) (p : Place) → On c p → place_number c p < c.modes * c.moments
place_below c p on = omega (arith, mul-add-lt (mode p) c.moments (moment p) c.modes on.0 on.1, mul_comm c.moments c.modes)

pub number_in : (c : Content) (p : Place) → c.modes * c.moments ≤ 64 → On c p → place_number c p < 64
number_in c p small on = omega (arith, place_below c p on)

pub pair_in : (c : Content) (s q : Place) → c.modes * c.moments ≤ 64 → On c s → On c q → pair_of c s q < 4096
pair_in c s q small on on' = let h = number_in c s small on in let h' = number_in c q small on' in omega arith

pub pair_parts : (c : Content) (s q s' q' : Place) → c.modes * c.moments ≤ 64 → On c q → On c q' → pair_of c s q ≡ pair_of c s' q' → (place_number c s ≡ place_number c s') × (place_number c q ≡ place_number c q')
pair_parts c s q s' q' small on on' e = let h = number_in c q small on in let h' = number_in c q' small on' in (omega arith, omega arith)
