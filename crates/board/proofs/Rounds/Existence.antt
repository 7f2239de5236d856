-- A run of as many rounds as there are pairs of places settles.
use Rattle.std.proofs.Common.{◌≡◌, ℕ, zero, suc, ◌*◌, ◌<◌, ◌≤◌, Bool, true, false, cond, not, ◌&&◌, List, [], ◌∷◌, length, Some, None, Option, sym, refl, ap, ◌∙◌, inl, inr, suc-mul, zero-mul, arith, length-append}
use Rattle.std.specs.List.{flat_map}
use Rattle.std.proofs.lemmas.Bool.{and_from, and_left, not_from_true}
use Rattle.costs.specs.Meaning.{Meaning, Lawful}
use Rattle.board.specs.Content.{Content, Sound}
use Rattle.board.specs.Moves.{Place}
use Rattle.board.specs.Settling.{In, Record, start, diagonal, moments_of, places, Round, Rounds, begin, round, SettledLog}
use Rattle.board.specs.Computing.{same_place, unrecorded?, next, run_on, run, pair_count, settled_log}
use Rattle.board.proofs.Basics.Membership.{in_each}
use Rattle.board.proofs.Rounds.Diagonal.{in_places}
use Rattle.board.proofs.Rounds.Candidates.{same_place_refl}
use Rattle.board.proofs.Rounds.Runs.{next_round, next_done, run_reached, unsettled_from}
use Rattle.board.proofs.Rounds.Pairs.{candidate_on}

-- a pair of places, as a record of it
abbrev pair_of : Place → Place → Record
pair_of s q = record { from = s; to = q; cost = 0; derivation = start; moves = [] }

abbrev pairs_from : List Place → Place → List Record
pairs_from ps s = flat_map (λ q. pair_of s q ∷ []) ps

abbrev pairs : List Place → List Record
pairs ps = flat_map (pairs_from ps) ps

in_pairs : (ps : List Place) (s q : Place) → In s ps → In q ps → In (pair_of s q) (pairs ps)
in_pairs ps s q i j = in_each (pairs_from ps) ps s (pair_of s q) i (in_each (λ w. pair_of s w ∷ []) ps q (pair_of s q) j (inl refl))

-- how many pairs there are
length_moments : (n t : ℕ) → length (moments_of n t) ≡ t
length_moments n zero = refl
length_moments n (suc t) = ap suc (length_moments n t)

length_places : (n t : ℕ) → length (places n t) ≡ n * t
length_places zero t = sym (zero-mul t)
length_places (suc n) t = omega (arith, length-append (moments_of n t) (places n t), length_moments n t, length_places n t, suc-mul n t)

length_each : {A B : Type 0} (f : A → List B) (k : ℕ) → ((x : A) → length (f x) ≡ k) → (xs : List A) → length (flat_map f xs) ≡ length xs * k
length_each f k h [] = sym (zero-mul k)
length_each f k h (x ∷ xs) = omega (arith, length-append (f x) (flat_map f xs), h x, length_each f k h xs, suc-mul (length xs) k)

length_pairs_from : (ps : List Place) (s : Place) → length (pairs_from ps s) ≡ length ps
length_pairs_from ps s = length_each (λ q. pair_of s q ∷ []) 1 (λ q. refl) ps ∙ omega arith

length_pairs : (ps : List Place) → length (pairs ps) ≡ length ps * length ps
length_pairs ps = length_each (pairs_from ps) (length ps) (length_pairs_from ps) ps

abbrev pub board_pairs : Content → List Record
board_pairs c = pairs (places c.modes c.moments)

pub length_board_pairs : (c : Content) → length (board_pairs c) ≡ pair_count c
length_board_pairs c = length_pairs (places c.modes c.moments) ∙ ap (λ k. k * k) (length_places c.modes c.moments)

-- how many of the pairs are unsettled
abbrev pub open_in : List Record → List Record → ℕ
open_in log [] = 0
open_in log (p ∷ ps) = cond (unrecorded? log p) (suc (open_in log ps)) (open_in log ps)

pub open_length : (log ps : List Record) → open_in log ps ≤ length ps
open_length log [] = omega arith
open_length log (p ∷ ps) = bound (unrecorded? log p) (open_length log ps)
  where
    bound : (t : Bool) → open_in log ps ≤ length ps → cond t (suc (open_in log ps)) (open_in log ps) ≤ suc (length ps)
    bound true h = omega arith
    bound false h = omega arith

module _ (log : List Record) (x : Record) where
  -- settling x makes no pair unsettled
  open_less : (ps : List Record) → open_in (x ∷ log) ps ≤ open_in log ps
  open_less [] = omega arith
  open_less (p ∷ ps) = bound (not (same_place x.from p.from && same_place x.to p.to)) (unrecorded? log p) (open_less ps)
    where
      bound : (s t : Bool) → open_in (x ∷ log) ps ≤ open_in log ps → cond (s && t) (suc (open_in (x ∷ log) ps)) (open_in (x ∷ log) ps) ≤ cond t (suc (open_in log ps)) (open_in log ps)
      bound true true h = omega arith
      bound true false h = omega arith
      bound false true h = omega arith
      bound false false h = omega arith

  -- and settles its own
  open_fewer : (p : Record) (ps : List Record) → In p ps → unrecorded? log p ≡ true → unrecorded? (x ∷ log) p ≡ false → open_in (x ∷ log) ps < open_in log ps
  open_fewer p [] i e f = absurd i
  open_fewer p (q ∷ ps) (inl i) e f =
      let e' : unrecorded? log q ≡ true = ap (unrecorded? log) (sym i) ∙ e in
      let f' : unrecorded? (x ∷ log) q ≡ false = ap (unrecorded? (x ∷ log)) (sym i) ∙ f in
      bound (unrecorded? (x ∷ log) q) (unrecorded? log q) f' e' (open_less ps)
    where
      bound : (s t : Bool) → s ≡ false → t ≡ true → open_in (x ∷ log) ps ≤ open_in log ps → cond s (suc (open_in (x ∷ log) ps)) (open_in (x ∷ log) ps) < cond t (suc (open_in log ps)) (open_in log ps)
      bound true t g h k = absurd cc
      bound false true g h k = omega arith
      bound false false g h k = absurd cc
  open_fewer p (q ∷ ps) (inr i) e f = bound (not (same_place x.from q.from && same_place x.to q.to)) (unrecorded? log q) (open_fewer p ps i e f)
    where
      bound : (s t : Bool) → open_in (x ∷ log) ps < open_in log ps → cond (s && t) (suc (open_in (x ∷ log) ps)) (open_in (x ∷ log) ps) < cond t (suc (open_in log ps)) (open_in log ps)
      bound true true h = omega arith
      bound true false h = omega arith
      bound false true h = omega arith
      bound false false h = omega arith

module _ {m : Meaning} {c : Content} (laws : Lawful m) (sound : Sound m c) where
  pub round_fewer : {n : ℕ} {log : List Record} {x : Record} → Rounds m c n log → Round m c log x → open_in (x ∷ log) (board_pairs c) < open_in log (board_pairs c)
  round_fewer {log = log} {x = x} s r =
      let p = pair_of x.from x.to in
      let on = candidate_on laws sound s r.candidate in
      open_fewer log x p (board_pairs c) (in_pairs _ x.from x.to (in_places _ _ _ on.0.0 on.0.1) (in_places _ _ _ on.1.0 on.1.1)) (unsettled_from log p r.unrecorded) (and_left _ _ (not_from_true _ (and_from _ _ (same_place_refl x.from) (same_place_refl x.to))))

  enough : (k : ℕ) {n : ℕ} {log : List Record} → Rounds m c n log → open_in log (board_pairs c) ≤ k → next m c (run m c k log) ≡ None
  enough zero {log = log} s h = stops (next m c log) refl
    where
      stops : (o : Option Record) → next m c log ≡ o → next m c log ≡ None
      stops None e = e
      stops (Some x) e = absurd (let k = round_fewer s (next_round laws sound s e) in omega arith)
  enough (suc k) {log = log} s h = further (next m c log) refl (λ x r. enough k (round s r) (let k = round_fewer s r in omega arith))
    where
      further : (o : Option Record) → next m c log ≡ o → ((x : Record) → Round m c log x → next m c (run m c k (x ∷ log)) ≡ None) → next m c (run_on log (λ x. run m c k (x ∷ log)) o) ≡ None
      further None e f = e
      further (Some x) e f = f x (next_round laws sound s e)

  pub exists : SettledLog m c (settled_log m c)
  unfolding settled_log
  exists =
      let few : open_in (diagonal m c) (board_pairs c) ≤ pair_count c = omega (arith, open_length (diagonal m c) (board_pairs c), length_board_pairs c) in
      next_done laws sound (run_reached laws sound (pair_count c) begin).1 (enough (pair_count c) begin few)
