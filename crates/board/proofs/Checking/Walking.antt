-- The moves that a check takes one after the other, without a fault.
use Rattle.std.proofs.Common.{◌≡◌, ℕ, zero, suc, ◌+◌, ◌≤◌, Bool, true, false, cond, ◌⊎◌, List, [], ◌∷◌, map, length, take, Some, Ok, Err, Result, sym, refl, ap, ◌∙◌, subst, inl, inr, ⊎_elim, arith}
use Rattle.std.proofs.lemmas.Option.{none-some, same_Some}
use Rattle.std.proofs.lemmas.Bool.{cond-true, cond-false}
use Rattle.std.specs.List.{slice_get}
use Rattle.costs.specs.Meaning.{Meaning}
use Rattle.board.specs.declared.moves.Move.{Move}
use Rattle.board.specs.declared.moves.Effect.{Effect}
use Rattle.board.specs.declared.check.Fault.{Fault}
use Rattle.board.specs.declared.refusal.Refusal.{Refusal}
use Rattle.board.specs.declared.refusal.Refusal.TheVariants.{NoEnd}
use Rattle.board.specs.Content.{Content}
use Rattle.board.specs.Moves.{Place, is_end}
use Rattle.board.specs.Paths.{Path, stop, go, stack, Running}
use Rattle.board.specs.Packing.{unpacked}
use Rattle.board.specs.Checks.{Progress, take_move, named_by_number, or_fault, checked_from}
use Rattle.board.specs.Accepted.{ShallowFrom}
use Rattle.board.proofs.Checking.Accepting.{err_ok, took, ended_named, stack_one, still_few, shallow_none, shallow_more, shallow_less, running_one, running_off, opened_one, takes}

-- the check takes these numbers, and comes from one progress to the other
pub data Walk (m : Meaning) (c : Content) : Progress → List ℕ → Progress → Type 0 where
  here : {w : Progress} → Walk m c w [] w
  on : {w v u : Progress} {x : ℕ} {xs : List ℕ} → take_move m c w x ≡ Ok v → Walk m c v xs u → Walk m c w (x ∷ xs) u

-- the fault of the move of this index
abbrev pub fault : ℕ → Refusal → Fault
fault i e = record { index = i; refusal = e }

-- why a check that has come to w, with the move n of the list before it, goes no further
abbrev pub Halts : Meaning → Content → List ℕ → ℕ → Progress → Refusal → Type 0
Halts m c xs n w e = ((x : ℕ) × (slice_get xs n ≡ Some x) × (take_move m c w x ≡ Err e)) ⊎ ((n ≡ length xs) × (w.ended ≡ false) × (e ≡ NoEnd))

-- A check from w that stops with a fault: how many it took before, and why it halts there.
pub record Halted (m : Meaning) (c : Content) (w : Progress) (i : ℕ) (xs : List ℕ) (f : Fault) : Type 0 where
  pub after : ℕ
  pub index : f.index ≡ i + after
  pub reached : Progress
  pub walk : Walk m c w (take after xs) reached
  pub halts : Halts m c xs after reached f.refusal

-- The path that a walk without an end row goes, and what it does to the brackets.
pub record Gone (m : Meaning) (c : Content) (w : Progress) (xs : List ℕ) (u : Progress) : Type 0 where
  pub moves : List Move
  pub packs : map unpacked xs ≡ map Some moves
  pub costs : List ℕ
  pub effects : List Effect
  pub path : Path m c moves w.place u.place costs effects
  pub running : Running effects
  pub brackets : stack effects w.unclosed ≡ Some u.unclosed
  pub shallow : ShallowFrom w.unclosed effects

-- under way: at the place p, with brackets st open, and the cost a so far
abbrev pub standing : Place → List ℕ → ℕ → Progress
standing p st a = record { place = p; unclosed = st; ended = false; cost = a }

pub err_in : {A E : Type 0} (x y : E) → ◌≡◌ {A = Result A E} (Err x) (Err y) → x ≡ y
err_in x y e = cc

module _ {m : Meaning} {c : Content} where
  -- how a check stops with a fault
  pub halted : (xs : List ℕ) (w : Progress) (i : ℕ) (f : Fault) → checked_from m c w i xs ≡ Err f → Halted m c w i xs f
  halted [] w i f e = either w.ended refl e
    where
      either : (b : Bool) → w.ended ≡ b → cond b (Ok w.cost) (Err (fault i NoEnd)) ≡ Err f → Halted m c w i [] f
      either true t g = absurd (err_ok f w.cost (sym g))
      either false t g =
          let f-is : fault i NoEnd ≡ f = err_in _ _ g in
          record { after = 0; index = omega (arith, ap (λ (z : Fault). z.index) f-is); reached = w; walk = here; halts = inr (refl, t, ap (λ (z : Fault). z.refusal) (sym f-is)) }
  halted (x ∷ xs) w i f e = either (take_move m c w x) refl (λ v. halted xs v (suc i) f) e
    where
      further : (v : Progress) → take_move m c w x ≡ Ok v → Halted m c v (suc i) xs f → Halted m c w i (x ∷ xs) f
      further v t h = record { after = suc h.after; index = omega (arith, h.index); reached = h.reached; walk = on t h.walk; halts = ⊎_elim (λ z. inl z) (λ z. inr (ap suc z.0, z.1, z.2)) h.halts }

      either : (r : Result Progress Refusal) → take_move m c w x ≡ r → ((v : Progress) → checked_from m c v (suc i) xs ≡ Err f → Halted m c v (suc i) xs f) → or_fault i r (λ v. checked_from m c v (suc i) xs) ≡ Err f → Halted m c w i (x ∷ xs) f
      either (Ok v) t again g = further v t (again v g)
      either (Err y) t again g =
          let f-is : fault i y ≡ f = err_in _ _ g in
          record { after = 0; index = omega (arith, ap (λ (z : Fault). z.index) f-is); reached = w; walk = here; halts = inl (x, refl, t ∙ ap (λ (z : Fault). Err z.refusal) f-is) }

  -- a walk up to a move that is refused is a check that stops there
  pub stops_at : (n : ℕ) (xs : List ℕ) {w u : Progress} (i x : ℕ) (e : Refusal) → Walk m c w (take n xs) u → slice_get xs n ≡ Some x → take_move m c u x ≡ Err e → checked_from m c w i xs ≡ Err (fault (i + n) e)
  stops_at zero [] i x e walk s t = absurd (none-some x s)
  stops_at zero (y ∷ xs) {w} i x e here s t =
      let j : i ≡ i + 0 = omega arith in
      ap (λ o. or_fault i o (λ v. checked_from m c v (suc i) xs)) (ap (take_move m c w) (same_Some _ _ s) ∙ t) ∙ ap (λ k. Err (fault k e)) j
  stops_at (suc n) [] i x e walk s t = absurd (none-some x s)
  stops_at (suc n) (y ∷ xs) i x e (on g walk) s t =
      let j : suc i + n ≡ i + suc n = omega arith in
      ap (λ o. or_fault i o (λ v. checked_from m c v (suc i) xs)) g ∙ stops_at n xs (suc i) x e walk s t ∙ ap (λ k. Err (fault k e)) j

  -- a walk of the whole list without an end row is a check that stops behind it
  pub stops_after : {w u : Progress} {xs : List ℕ} (i : ℕ) → Walk m c w xs u → u.ended ≡ false → checked_from m c w i xs ≡ Err (fault (i + length xs) NoEnd)
  stops_after i here n = let j : i ≡ i + 0 = omega arith in cond-false _ _ _ n ∙ ap (λ k. Err (fault k NoEnd)) j
  stops_after i (on {xs = xs} g walk) n =
      let j : suc i + length xs ≡ i + suc (length xs) = omega arith in
      ap (λ o. or_fault i o (λ v. checked_from m c v (suc i) xs)) g ∙ stops_after (suc i) walk n ∙ ap (λ k. Err (fault k NoEnd)) j

  -- a walk of the whole list to its end row is a check that accepts
  pub walk_accepted : {w u : Progress} {xs : List ℕ} (i : ℕ) → Walk m c w xs u → u.ended ≡ true → checked_from m c w i xs ≡ Ok u.cost
  walk_accepted i here n = cond-true _ _ _ n
  walk_accepted i (on {xs = xs} g walk) n = ap (λ o. or_fault i o (λ v. checked_from m c v (suc i) xs)) g ∙ walk_accepted (suc i) walk n

  -- and back
  pub accepted_walk : (xs : List ℕ) (w : Progress) (i k : ℕ) → checked_from m c w i xs ≡ Ok k → (u : Progress) × Walk m c w xs u × (u.ended ≡ true)
  accepted_walk [] w i k e = either w.ended refl e
    where
      either : (b : Bool) → w.ended ≡ b → cond b (Ok w.cost) (Err (fault i NoEnd)) ≡ Ok k → (u : Progress) × Walk m c w [] u × (u.ended ≡ true)
      either true t g = (w, here, t)
      either false t g = absurd (err_ok _ k g)
  accepted_walk (x ∷ xs) w i k e = either (take_move m c w x) refl (λ v. accepted_walk xs v (suc i) k) e
    where
      either : (r : Result Progress Refusal) → take_move m c w x ≡ r → ((v : Progress) → checked_from m c v (suc i) xs ≡ Ok k → (u : Progress) × Walk m c v xs u × (u.ended ≡ true)) → or_fault i r (λ v. checked_from m c v (suc i) xs) ≡ Ok k → (u : Progress) × Walk m c w (x ∷ xs) u × (u.ended ≡ true)
      either (Ok v) t again g = let z = again v g in (z.0, on t z.1, z.2)
      either (Err y) t again g = absurd (err_ok _ k g)

  -- where no end row came at last, none came before
  unended : {w u : Progress} {xs : List ℕ} → Walk m c w xs u → u.ended ≡ false → w.ended ≡ false
  unended here n = n
  unended (on {w} {v} {x = x} t walk) n = either w.ended refl
    where
      either : (b : Bool) → w.ended ≡ b → b ≡ false
      either true e = absurd (ended_named m c.moments w (named_by_number c (unpacked x)) v e t)
      either false e = refl

  -- a walk without an end row goes a path
  pub gone : {w u : Progress} {xs : List ℕ} → length w.unclosed ≤ 4096 → Walk m c w xs u → u.ended ≡ false → Gone m c w xs u
  gone few here n = record { moves = []; packs = refl; costs = []; effects = []; path = stop; running = tt; brackets = refl; shallow = shallow_none _ few }
  gone few (on {w} {v} {u} {x} {xs} t walk) n =
      let s = took m c w x v t in
      let a = s.arrival in
      let e : is_end a.effect ≡ false = sym s.ended_is ∙ unended walk n in
      let r = gone (still_few a.effect _ _ few s.stacks) walk n in
      record {
        moves = s.move ∷ r.moves;
        packs = λ i. s.unpacks i ∷ r.packs i;
        costs = a.cost ∷ r.costs;
        effects = a.effect ∷ r.effects;
        path = go s.goes (subst (λ p. Path m c r.moves p u.place r.costs r.effects) s.place_is r.path);
        running = running_one a.effect r.effects e r.running;
        brackets = stack_one a.effect r.effects _ _ e s.stacks ∙ r.brackets;
        shallow = shallow_more a.effect r.effects _ _ e s.stacks few r.shallow;
      }

  -- and back
  pub walked : {vs : List Move} {p q : Place} {ks : List ℕ} {es : List Effect} → Path m c vs p q ks es → Running es → (st o : List ℕ) → stack es st ≡ Some o → ShallowFrom st es → (xs : List ℕ) → map unpacked xs ≡ map Some vs → (a : ℕ) → (k : ℕ) × Walk m c (standing p st a) xs (standing q o k)
  walked {p = p} stop run st o s d [] u a = (a, subst (λ l. Walk m c (standing p st a) [] (standing p l a)) (same_Some _ _ s) here)
  walked stop run st o s d (x ∷ xs) u a = absurd cc
  walked (go g path) run st o s d [] u a = absurd cc
  walked (go {v} {vs} {p} {r} {q} {k} {ks} {e} {es} g path) run st o s d (x ∷ xs) u a =
      let u₀ : unpacked x ≡ Some v = cc in
      let u₁ : map unpacked xs ≡ map Some vs = cc in
      let ne = running_off e es run in
      let z = opened_one e es st o ne.0 s d in
      let t = takes x v p r k a e st z.0 u₀ g z.1 in
      let t' : take_move m c (standing p st a) x ≡ Ok (standing r z.0 (m.join a k)) = t ∙ ap (λ (b : Bool). Ok (record { place = r; unclosed = z.0; ended = b; cost = m.join a k })) ne.0 in
      let y = walked path ne.1 z.0 o (sym (stack_one e es st z.0 ne.0 z.1) ∙ s) (shallow_less e es st z.0 ne.0 z.1 d) xs u₁ (m.join a k) in
      (y.0, on t' y.1)
