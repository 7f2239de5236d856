-- Lists of ascending numbers, gathered one after the other.
use Rattle.std.proofs.Common.{◌≡◌, ℕ, ◌+◌, ◌*◌, ◌<◌, ◌≤◌, Bool, true, false, List, [], ◌∷◌, ◌++◌, length, get_or, Some, None, sym, ap, ◌∙◌, subst, ap₂, ⊎_elim, arith, length-append}
use Rattle.std.proofs.lemmas.Bool.{cases_eq, both_ways}
use Rattle.std.proofs.lemmas.Option.{slice_get_within}
use Rattle.std.specs.List.{slice_get}
use Rattle.costs.specs.Meaning.{Meaning, Lawful, Cost}
use Rattle.board.specs.declared.row.Row.{Row}
use Rattle.board.specs.declared.row.Line.{Line}
use Rattle.board.specs.declared.log.Log.{Log}
use Rattle.board.specs.declared.settling.Goal.{Goal}
use Rattle.board.specs.Content.{Content, Sound}
use Rattle.board.specs.Moves.{place_number}
use Rattle.board.specs.Logs.{numbered, Ready}
use Rattle.board.specs.Lowering.{Attained, LowerBound}
use Rattle.board.specs.Minima.{Link, StandsFor, Led}
use Rattle.board.specs.Winning.{Gathered, LineTo, TightAt, GoalOn, Serve, ServeIn, is_close}
use Rattle.board.proofs.Basics.Membership.{some_eq, none_some}
use Rattle.board.proofs.Basics.Numbers.{number_in}
use Rattle.board.proofs.Least.Lowering.{attained_cost}
use Rattle.board.proofs.Least.Links.{link_cost, record_cost}
use Rattle.std.proofs.Math.ListN.{get_or-append}
use Rattle.std.proofs.Math.Seq.{get_or-append_seam}

pub gathered_none : (P : ℕ → Type 0) → Gathered P 0 []
gathered_none P = record { ascending = λ i j h k. absurd (omega arith); below = λ i h. absurd (omega arith); complete = λ j h p. absurd (omega arith); few = omega arith }

module _ {P : ℕ → Type 0} {n : ℕ} {xs : List ℕ} (g : Gathered P n xs) where
  -- n is not of P
  pub gathered_skip : (P n → ⊥) → Gathered P (n + 1) xs
  gathered_skip none = record {
    ascending = g.ascending;
    below = λ i h. let k = g.below i h in omega arith;
    complete = λ j h p. ⊎_elim (λ (e : j ≡ n). absurd (none (subst P e p))) (λ (w : j ≡ n → ⊥). g.complete j (omega arith) p) (cases_eq j n);
    few = let k = g.few in omega arith;
  }

  -- n is gathered
  pub gathered_push : Gathered P (n + 1) (xs ++ (n ∷ []))
  gathered_push = record {
    ascending = λ i j h k. let s = long in ⊎_elim
        (λ (e : j ≡ length xs). let v : i < length xs = omega arith in let low = g.below i v in omega (arith, low, old i v, ap (λ (z : ℕ). get_or (xs ++ (n ∷ [])) z 0) e, new))
        (λ (w : j ≡ length xs → ⊥). let v : j < length xs = omega arith in let u : i < length xs = omega arith in let low = g.ascending i j h v in omega (arith, low, old i u, old j v))
        (cases_eq j (length xs));
    below = λ i h. let s = long in ⊎_elim
        (λ (e : i ≡ length xs). omega (arith, ap (λ (z : ℕ). get_or (xs ++ (n ∷ [])) z 0) e, new))
        (λ (w : i ≡ length xs → ⊥). let v : i < length xs = omega arith in let low = g.below i v in omega (arith, low, old i v))
        (cases_eq i (length xs));
    complete = λ j h p. let s = long in ⊎_elim
        (λ (e : j ≡ n). (length xs, omega arith, new ∙ sym e))
        (λ (w : j ≡ n → ⊥). let f = g.complete j (omega arith) p in let f1 = f.1 in (f.0, omega arith, old f.0 f.1 ∙ f.2))
        (cases_eq j n);
    few = let k = g.few in let s = long in omega arith;
  }
    where
      long : length (xs ++ (n ∷ [])) ≡ length xs + 1
      long = length-append xs (n ∷ [])

      old : (i : ℕ) → i < length xs → get_or (xs ++ (n ∷ [])) i 0 ≡ get_or xs i 0
      old i h = get_or-append xs (n ∷ []) 0 i h

      new : get_or (xs ++ (n ∷ [])) (length xs) 0 ≡ n
      new = get_or-append_seam xs n [] 0

-- all numbers are gathered
pub gathered_all : {P : ℕ → Type 0} {xs : List ℕ} (k n : ℕ) → k ≤ n → n ≤ k → Gathered P k xs → Gathered P n xs
gathered_all {P} {xs} k n h i g = let e : k ≡ n = omega arith in subst (λ (z : ℕ). Gathered P z xs) e g

-- one line more, and one place more
module _ (c : Content) {t n : ℕ} {xs : List ℕ} (g : Gathered (LineTo c t) n xs) where
  pub line_other : (w : Line) → slice_get c.lines n ≡ Some w → (w.to ≡ t → ⊥) → Gathered (LineTo c t) (n + 1) xs
  line_other w e other = gathered_skip g (λ p. other (ap (λ (z : Line). z.to) (some_eq _ _ _ e p.1) ∙ p.2))

  pub line_none : slice_get c.lines n ≡ None → Gathered (LineTo c t) (n + 1) xs
  line_none e = gathered_skip g (λ p. none_some _ _ e p.1)

module _ {m : Meaning} {c : Content} {l : Log} (laws : Lawful m) (ready : Ready m c l) (goal : Goal) (on : GoalOn c goal) where
  -- what the index has between where the goal starts and the place numbered r
  pub tight_in : (r i : ℕ) → r < 64 → get_or l.index (place_number c goal.from * 64 + r) None ≡ Some i → (i < l.count) × (place_number c (numbered l i).to ≡ r)
  tight_in r i h e =
      let f = ready.book.finds _ i e in
      let f1 = f.1 in
      let a = number_in c _ ready.sound.few_places (ready.book.kept i f.0).to_on in
      (f.0, omega arith)

  module _ {r : ℕ} {xs : List ℕ} (g : Gathered (TightAt m c l goal) r xs) (h : r < 64) where
    -- its front is in the index
    tight_index : (p : TightAt m c l goal r) → get_or l.index (place_number c goal.from * 64 + r) None ≡ Some p.front
    tight_index p = ap₂ (λ (a b : ℕ). get_or l.index (a * 64 + b) None) (ap (place_number c) (sym p.starts)) (sym p.there) ∙ ready.book.found p.front p.front_in

    pub tight_none : get_or l.index (place_number c goal.from * 64 + r) None ≡ None → Gathered (TightAt m c l goal) (r + 1) xs
    tight_none e = gathered_skip g (λ p. none_some _ _ e (tight_index p))

    pub tight_dear : (links : List ℕ) (i : ℕ) → length links ≡ 4096 → Attained m (Link m c l) links → LowerBound m (Link m c l) links → get_or l.index (place_number c goal.from * 64 + r) None ≡ Some i → m.no_dearer (m.join (numbered l i).cost (get_or links (r * 64 + place_number c goal.to) 0)) goal.cost ≡ false → Cost m goal.cost → Gathered (TightAt m c l goal) (r + 1) xs
    tight_dear links i long attained bounds e dear goal-cost = gathered_skip g (λ p.
        let same : i ≡ p.front = some_eq _ _ _ e (tight_index p) in
        let a = record_cost laws ready p.front p.front_in in
        let q = number_in c goal.to ready.sound.few_places on.1 in
        let link-cost' = attained_cost laws (link_cost laws ready) links attained (r * 64 + place_number c goal.to) (omega arith) in
        let price = link_cost laws ready _ _ p.link in
        let step = laws.mono_right _ _ _ link-cost' price a (bounds _ _ p.link) in
        both_ways _ (subst (λ (n : ℕ). m.no_dearer (m.join (numbered l n).cost (get_or links (r * 64 + place_number c goal.to) 0)) goal.cost ≡ false) same dear) (laws.trans _ _ _ (laws.join_cost _ _ a link-cost') (laws.join_cost _ _ a price) goal-cost step p.within))

-- a marked close row that leads to the mode u
pub record CloserTo (c : Content) (leads : List Bool) (u w : ℕ) : Type 0 where
  pub row : Row
  pub found : slice_get c.rows w ≡ Some row
  pub marked : get_or leads w false ≡ true
  pub closes : is_close row.kind ≡ true
  pub enters : row.to ≡ u

module _ {m : Meaning} {c : Content} (laws : Lawful m) (sound : Sound m c) (leads : List Bool) (u : ℕ) where
  module _ {n : ℕ} {xs : List ℕ} (g : Gathered (CloserTo c leads u) n xs) where
    pub closer_no_row : slice_get c.rows n ≡ None → Gathered (CloserTo c leads u) (n + 1) xs
    closer_no_row e = gathered_skip g (λ p. none_some _ _ e p.found)

    pub closer_other : (r : Row) → slice_get c.rows n ≡ Some r → (get_or leads n false ≡ true → is_close r.kind ≡ true → r.to ≡ u → ⊥) → Gathered (CloserTo c leads u) (n + 1) xs
    closer_other r e far = gathered_skip g (λ p. let is : p.row ≡ r = some_eq _ _ _ p.found e in far p.marked (subst (λ (x : Row). is_close x.kind ≡ true) is p.closes) (subst (λ (x : Row). x.to ≡ u) is p.enters))

  -- for each close row to the mode one of the list stands
  pub closers_serve : Led m c leads → (n : ℕ) → length c.rows ≤ n → {xs : List ℕ} → Gathered (CloserTo c leads u) n xs → Serve m c u xs
  closers_serve led n h {xs} all w r e closes to =
      let s = led w r e in
      let within = slice_get_within c.rows s.0 s.2.by s.2.found in
      let f = all.complete s.0 (omega arith) (record { row = s.2.by; found = s.2.found; marked = s.1; closes = ap is_close (s.2.kind ∙ closes); enters = s.2.enters ∙ to }) in
      (f.0, f.1, subst (StandsFor m c r) (sym f.2) s.2)

-- those of one bracket
module _ (c : Content) (xs : List ℕ) (bracket : ℕ) where
  -- of the first n of the list
  pub record Picked (n : ℕ) (ys : List ℕ) : Type 0 where
    pub few : length ys ≤ n
    pub picked : (i : ℕ) → i < n → (r : Row) → slice_get c.rows (get_or xs i 0) ≡ Some r → r.label ≡ bracket → (j : ℕ) × (j < length ys) × (get_or ys j 0 ≡ get_or xs i 0)

  pub picked_none : Picked 0 []
  picked_none = record { few = omega arith; picked = λ i h. absurd (omega arith) }

  pub picked_skip : (n : ℕ) (ys : List ℕ) → Picked n ys → ((r : Row) → slice_get c.rows (get_or xs n 0) ≡ Some r → r.label ≡ bracket → ⊥) → Picked (n + 1) ys
  picked_skip n ys p none = record {
    few = let f = p.few in omega arith;
    picked = λ i h r e f. ⊎_elim (λ (z : i ≡ n). absurd (none r (ap (λ (k : ℕ). slice_get c.rows (get_or xs k 0)) (sym z) ∙ e) f)) (λ (z : i ≡ n → ⊥). p.picked i (omega arith) r e f) (cases_eq i n);
  }

  pub picked_push : (n : ℕ) (ys : List ℕ) → Picked n ys → Picked (n + 1) (ys ++ (get_or xs n 0 ∷ []))
  picked_push n ys p = record {
    few = let f = p.few in omega (arith, length-append ys (get_or xs n 0 ∷ []));
    picked = λ i h r e f. ⊎_elim
        (λ (z : i ≡ n). (length ys, omega (arith, length-append ys (get_or xs n 0 ∷ [])), get_or-append_seam ys (get_or xs n 0) [] 0 ∙ ap (λ (k : ℕ). get_or xs k 0) (sym z)))
        (λ (z : i ≡ n → ⊥). let s = p.picked i (omega arith) r e f in let s1 = s.1 in (s.0, omega (arith, length-append ys (get_or xs n 0 ∷ [])), get_or-append ys (get_or xs n 0 ∷ []) 0 s.0 s.1 ∙ s.2))
        (cases_eq i n);
  }

  pub picked_serve : {m : Meaning} (u n : ℕ) (ys : List ℕ) → length xs ≤ n → Serve m c u xs → Picked n ys → ServeIn m c bracket u ys
  picked_serve {m} u n ys h serve p w r e closes label to =
      let s = serve w r e closes to in
      let s1 = s.1 in
      let q = p.picked s.0 (omega arith) s.2.by s.2.found (s.2.label ∙ label) in
      (q.0, q.1, subst (StandsFor m c r) (sym q.2) s.2)
