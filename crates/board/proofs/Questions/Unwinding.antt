-- What a cursor has left after each move that it gives, and what is written from the back.
use Rattle.std.proofs.Common.{◌≡◌, ℕ, ◌+◌, ◌-◌, ◌<◌, ◌≤◌, List, [], ◌∷◌, ◌++◌, map, length, get_or, take, drop, set, sym, ap, ◌∙◌, subst, ap₂, arith}
use Rattle.std.proofs.lemmas.List.{append-nil, append_assoc, length-take-le, take_more, drop_more, drop_all, set_at, same_from_push, take-append-drop}
use Rattle.board.specs.declared.cursor.Pending.{Pending}
use Rattle.board.specs.declared.log.Log.{Log}
use Rattle.board.specs.declared.log.Derivation.TheVariants.{Step, Call}
use Rattle.board.specs.declared.moves.Move.{Move}
use Rattle.board.specs.Settling.{Record, bare}
use Rattle.board.specs.Logged.{spelled, logged}
use Rattle.board.specs.Logs.{numbered, Refers}
use Rattle.board.specs.Logs.{Spells}
use Rattle.board.specs.Spelled.{moves_at}
use Rattle.std.specs.List.{flat_map}
use Rattle.std.proofs.lemmas.Grind.{flat_map-append}
use Rattle.board.specs.Cursors.{pending_moves}
use Rattle.board.proofs.Rounds.Logging.{settled_is}

-- a record's length is kept, its front and inside are earlier, and its moves are theirs with its own
module _ {l : Log} (s : Spells l) (i : ℕ) (within : i < l.count) where
  pub counted : length (moves_at l i) < 65536 → get_or l.lengths i 0 ≡ length (moves_at l i)
  counted h = omega (arith, s.lengths_are i within)

  pub step_in : (b : ℕ) (v : Move) → (numbered l i).derivation ≡ Step b v → b < i
  step_in b v e = subst (Refers i) e (s.earlier i within)

  pub moves_step : (b : ℕ) (v : Move) → (numbered l i).derivation ≡ Step b v → moves_at l i ≡ moves_at l b ++ (v ∷ [])
  moves_step b v e = ap (spelled (logged l.records i)) e ∙ ap (λ (x : Record). x.moves ++ (v ∷ [])) (settled_is l.records i b (step_in b v e))

  pub call_in : (b j o w t : ℕ) → (numbered l i).derivation ≡ Call b j o w t → (b < i) × (j < i)
  call_in b j o w t e = subst (Refers i) e (s.earlier i within)

  pub moves_call : (b j o w t : ℕ) → (numbered l i).derivation ≡ Call b j o w t → moves_at l i ≡ moves_at l b ++ (bare o ∷ (moves_at l j ++ (bare w ∷ [])))
  moves_call b j o w t e =
      let h = call_in b j o w t e in
      ap (spelled (logged l.records i)) e ∙ ap₂ (λ (x y : Record). x.moves ++ (bare o ∷ (y.moves ++ (bare w ∷ [])))) (settled_is l.records i b h.0) (settled_is l.records i j h.1)

pending_moves_push : (l : Log) (ps : List Pending) (p : Pending) → flat_map (pending_moves l) (ps ++ (p ∷ [])) ≡ flat_map (pending_moves l) ps ++ pending_moves l p
pending_moves_push l ps p = flat_map-append (pending_moves l) ps (p ∷ []) ∙ ap (λ (xs : List Move). flat_map (pending_moves l) ps ++ xs) (append-nil (pending_moves l p))

module _ {l : Log} (s : Spells l) (i : ℕ) (within : i < l.count) where
  module _ (ps : List Pending) where
    pub step_last : (b : ℕ) (v : Move) → (numbered l i).derivation ≡ Step b v → flat_map (pending_moves l) ps ++ moves_at l i ≡ (flat_map (pending_moves l) ps ++ moves_at l b) ++ (v ∷ [])
    step_last b v e = ap (λ (ys : List Move). flat_map (pending_moves l) ps ++ ys) (moves_step s i within b v e) ∙ sym (append_assoc (flat_map (pending_moves l) ps) (moves_at l b) (v ∷ []))

    pub call_last : (qs : List Pending) (b j o w t : ℕ) → (numbered l i).derivation ≡ Call b j o w t → qs ≡ ps ++ (record { front = b; row = o } ∷ []) → flat_map (pending_moves l) ps ++ moves_at l i ≡ (flat_map (pending_moves l) qs ++ moves_at l j) ++ (bare w ∷ [])
    call_last qs b j o w t e h = rw (moves_call s i within b j o w t e, h, pending_moves_push l ps (record { front = b; row = o })) (simp append_assoc)

-- the last of the first k moves, and those before it
pub last_of : (ms before : List Move) (k : ℕ) (v : Move) → 0 < k → k ≤ length ms → take k ms ≡ before ++ (v ∷ []) → (before ≡ take (k - 1) ms) × (v ≡ get_or ms (k - 1) (bare 0))
last_of ms before k v h g e =
    let j : k ≡ k - 1 + 1 = omega arith in
    same_from_push before (take (k - 1) ms) v (get_or ms (k - 1) (bare 0)) (sym e ∙ (ap (λ (m : ℕ). take m ms) j ∙ take_more ms (k - 1) (bare 0) (omega arith)))

-- a buffer with the moves from the k-th on written, before the first is, at each, and at the end
module _ {A : Type 0} (f : Move → A) (ms : List Move) (old : List A) (n : ℕ) where
  abbrev pub written : ℕ → List A
  written k = take k old ++ (map f (drop k ms) ++ drop n old)

  pub write_none : n ≡ length ms → old ≡ written n
  write_none e = sym (ap (λ (d : List Move). take n old ++ (map f d ++ drop n old)) (drop_all n ms (omega arith)) ∙ take-append-drop n old)

  pub write_more : (k : ℕ) (x : A) (out : List A) → 0 < k → k ≤ length ms → k ≤ length old → out ≡ written k → x ≡ f (get_or ms (k - 1) (bare 0)) → set out (k - 1) x ≡ written (k - 1)
  write_more k x out h g r e z =
      let j : k ≡ k - 1 + 1 = omega arith in
      let rest = map f (drop (k - 1 + 1) ms) ++ drop n old in
      let split : out ≡ take (k - 1) old ++ (get_or old (k - 1) (f (bare 0)) ∷ rest) = e ∙ (ap written j ∙ (ap (λ (t : List A). t ++ rest) (take_more old (k - 1) (f (bare 0)) (omega arith)) ∙ append_assoc (take (k - 1) old) (get_or old (k - 1) (f (bare 0)) ∷ []) rest)) in
      ap₂ (λ (o : List A) (y : A). set o (k - 1) y) split z
      ∙ (set_at (take (k - 1) old) (get_or old (k - 1) (f (bare 0))) rest (f (get_or ms (k - 1) (bare 0))) (k - 1) (length-take-le (k - 1) old (omega arith))
      ∙ ap (λ (t : List Move). take (k - 1) old ++ (map f t ++ drop n old)) (sym (drop_more ms (k - 1) (bare 0) (omega arith))))
