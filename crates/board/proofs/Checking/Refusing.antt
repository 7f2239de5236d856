-- A check refuses a move behind those that it took exactly for the reasons that are given.
use Rattle.std.proofs.Common.{◌≡◌, ℕ, suc, ◌-◌, ◌<◌, ◌≤◌, Bool, true, false, cond, not, ◌||◌, eqb, ltb, ◌⊎◌, List, [], ◌∷◌, length, Some, None, Ok, Err, Option, Result, sym, refl, ap, ◌∙◌, subst, append-nil, inl, inr, ⊎_elim, arith}
use Rattle.std.proofs.lemmas.Option.{none-some}
use Rattle.std.proofs.lemmas.Bool.{both_ways, and_from, not_from_true, not_from_false, eqb-false, eq-eqb, ne_eqb, ltb-false, le-ltb, lt-ltb, cond-true, cond-false}
use Rattle.costs.specs.Meaning.{Meaning}
use Rattle.board.specs.declared.moves.Move.{Move}
use Rattle.board.specs.declared.moves.Arrival.{Arrival}
use Rattle.board.specs.declared.moves.Effect.{Effect}
use Rattle.board.specs.declared.moves.Effect.TheVariants.{Quiet, Opens, Closes, Ends}
use Rattle.board.specs.declared.named.Named.{Named}
use Rattle.board.specs.declared.row.Row.{Row}
use Rattle.board.specs.declared.row.RowKind.{RowKind}
use Rattle.board.specs.declared.row.RowKind.TheVariants.{Plain, Open, Close, End}
use Rattle.board.specs.declared.row.Line.{Line}
use Rattle.board.specs.declared.refusal.Refusal.{Refusal}
use Rattle.board.specs.declared.refusal.Refusal.TheVariants.{BadMove, NotNext, BadBracket, TooDeep}
use Rattle.board.specs.Content.{Content, Sound}
use Rattle.board.specs.Moves.{Place}
use Rattle.board.specs.Arrivals.{timely, starts_then, starts_at, arrival_by}
use Rattle.board.specs.Packing.{unpacked}
use Rattle.board.specs.Checks.{bracketed, Progress, before_moves, arrived, take_named, named_by_number, take_move}
use Rattle.board.specs.Faults.{Underway, Over, GoesFrom, GoesSomewhere, Refused, bad_move, not_here, not_now, bad_close, bad_end, too_deep}
use Rattle.board.proofs.Checking.Accepting.{err_ok, accepts}
use Rattle.board.proofs.Basics.Membership.{some_eq}
use Rattle.board.proofs.Paths.Naming.{named_goes, goes_named}
use Rattle.board.proofs.Checking.Walking.{Walk, standing, err_in, walk_accepted, accepted_walk, gone, walked}

-- what the number names
abbrev names : Content → ℕ → Option Named
names c x = named_by_number c (unpacked x)

-- the moment at which what is named may start: its line's, or the last one
abbrev start_moment : ℕ → Option Line → ℕ
start_moment moments None = moments - 1
start_moment moments (Some l) = l.from

timely_last : (k : RowKind) (moments t : ℕ) → suc t ≡ moments → timely k moments t ≡ true
timely_last Plain moments t e = refl
timely_last Open moments t e = refl
timely_last Close moments t e = refl
timely_last End moments t e = eq-eqb _ _ e

starts_last : (moments : ℕ) (r : Row) (o : Option Line) → 0 < moments → starts_then moments r o (start_moment moments o) ≡ true
starts_last moments r None h = and_from _ _ (lt-ltb _ _ (omega arith)) (timely_last r.kind _ _ (omega arith))
starts_last moments r (Some l) h = eq-eqb _ _ refl

module _ (m : Meaning) (c : Content) (x : ℕ) where
  -- what is named goes from a place where it starts
  goes_on : (n : Named) (p : Place) → names c x ≡ Some n → starts_at c.moments n p ≡ true → GoesFrom m c x p (arrival_by m n p).effect
  goes_on n p e s = by_move (unpacked x) refl e
    where
      by_move : (o : Option Move) → unpacked x ≡ o → named_by_number c o ≡ Some n → GoesFrom m c x p (arrival_by m n p).effect
      by_move None u f = absurd (none-some n f)
      by_move (Some v) u f = record { move = v; packs = u; to = (arrival_by m n p).to; cost = (arrival_by m n p).cost; goes = named_goes m c v p n f s }

  -- and there is one: in its row's mode, at the line's moment or at the last one
  goes_somewhere : Sound m c → (n : Named) → names c x ≡ Some n → GoesSomewhere m c x
  goes_somewhere sound n e =
      let p : Place = (n.row.from, start_moment c.moments n.line) in
      (p, (arrival_by m n p).effect, goes_on n p e (and_from _ _ (eq-eqb _ _ refl) (starts_last c.moments n.row n.line sound.some_moment)))

  -- What goes from a place, as the check sees it: it is named, starts there and leads on with this effect.
  record Starting (p : Place) (e : Effect) : Type 0 where
    name : Named
    named_so : names c x ≡ Some name
    starts : starts_at c.moments name p ≡ true
    does : (arrival_by m name p).effect ≡ e

  -- and so it is
  starting : (p : Place) (e : Effect) → GoesFrom m c x p e → Starting p e
  starting p e g =
      let z = goes_named m c g.move p g.to g.cost e g.goes in
      record { name = z.name; named_so = ap (named_by_number c) g.packs ∙ z.named_so; starts = z.starts; does = ap (λ (a : Arrival). a.effect) z.leads_on }

  -- what names nothing goes from no place, and the other way round
  nowhere : names c x ≡ None → GoesSomewhere m c x → ⊥
  nowhere e g = let z = starting g.0 g.1 g.2 in none-some z.name (sym e ∙ z.named_so)

  names_nothing : Sound m c → (GoesSomewhere m c x → ⊥) → names c x ≡ None
  names_nothing sound h = either (names c x) refl
    where
      either : (o : Option Named) → names c x ≡ o → o ≡ None
      either None e = refl
      either (Some n) e = absurd (h (goes_somewhere sound n e))

  -- what is named and does not go from here does not start here, and the other way round
  elsewhere : (n : Named) (p : Place) → names c x ≡ Some n → ((e : Effect) → GoesFrom m c x p e → ⊥) → starts_at c.moments n p ≡ false
  elsewhere n p i h = either (starts_at c.moments n p) refl
    where
      either : (b : Bool) → starts_at c.moments n p ≡ b → b ≡ false
      either true s = absurd (h _ (goes_on n p i s))
      either false s = refl

  from_elsewhere : (n : Named) (p : Place) → names c x ≡ Some n → starts_at c.moments n p ≡ false → (e : Effect) → GoesFrom m c x p e → ⊥
  from_elsewhere n p i s e g =
      let z = starting p e g in
      both_ways _ s (ap (λ (y : Named). starts_at c.moments y p) (some_eq _ _ _ i z.named_so) ∙ z.starts)

  -- a move that goes from the place reached is refused for its brackets
  goes_refused : (p : Place) (st : List ℕ) (k : ℕ) (a : Effect) (e : Refusal) → GoesFrom m c x p a → bracketed a st ≡ Err e → take_move m c (standing p st k) x ≡ Err e
  goes_refused p st k a e g b =
      let z = starting p a g in
      ap (take_named m c.moments (standing p st k)) z.named_so
      ∙ cond-false _ _ _ (not_from_true _ z.starts)
      ∙ ap (arrived m k (arrival_by m z.name p)) (ap (λ y. bracketed y st) z.does ∙ b)

arrived_err : (m : Meaning) (k : ℕ) (a : Arrival) (o : Result (List ℕ) Refusal) (e : Refusal) → arrived m k a o ≡ Err e → o ≡ Err e
arrived_err m k a (Ok st) e h = absurd (err_ok e _ (sym h))
arrived_err m k a (Err y) e h = ap Err (err_in y e h)

-- a close of a bracket that is not the last one open
not_last : (n : ℕ) (st : List ℕ) → ((rest : List ℕ) → st ≡ n ∷ rest → ⊥) → bracketed (Closes n) st ≡ Err BadBracket
not_last n [] h = refl
not_last n (y ∷ st) h = cond-false _ _ _ (ne_eqb _ _ (λ e. h st (ap (λ z. z ∷ st) e)))

-- an end with a bracket open
not_empty : (st : List ℕ) → (st ≡ [] → ⊥) → bracketed Ends st ≡ Err BadBracket
not_empty [] h = absurd (h refl)
not_empty (y ∷ st) h = refl

no_one : (y : ℕ) (st : List ℕ) → [] ≡ y ∷ st → ⊥
no_one y st e = cc

same_first : (y a : ℕ) (st rest : List ℕ) → y ∷ st ≡ a ∷ rest → y ≡ a
same_first y a st rest e = cc

module _ {m : Meaning} {c : Content} (before : List ℕ) where
  -- what was taken is under way
  abbrev pub underway : {u : Progress} → Walk m c (before_moves m) before u → u.ended ≡ false → Underway m c before
  underway {u} walk n =
      let g = gone (omega arith) walk n in
      record { moves = g.moves; packs = g.packs; reached = u.place; costs = g.costs; effects = g.effects; path = g.path; running = g.running; unclosed = u.unclosed; brackets = g.brackets; shallow = g.shallow }

  -- or over
  over : {u : Progress} → Walk m c (before_moves m) before u → u.ended ≡ true → Over m c before
  over {u} walk t = (u.cost, (accepts before u.cost).0 (walk_accepted 0 walk t))

  -- it is one of the two
  came : (u : Progress) → Walk m c (before_moves m) before u → Underway m c before ⊎ Over m c before
  came u walk = either u.ended refl
    where
      either : (b : Bool) → u.ended ≡ b → Underway m c before ⊎ Over m c before
      either true t = inr (over walk t)
      either false n = inl (underway walk n)

  -- and back
  pub walk_under : (w : Underway m c before) → (k : ℕ) × Walk m c (before_moves m) before (standing w.reached w.unclosed k)
  walk_under w = walked w.path w.running [] w.unclosed w.brackets w.shallow before w.packs m.free

  walk_over : Over m c before → (u : Progress) × Walk m c (before_moves m) before u × (u.ended ≡ true)
  walk_over o = accepted_walk before (before_moves m) 0 o.0 ((accepts before o.0).1 o.1)

  module _ (sound : Sound m c) (x : ℕ) where
    -- refused for its brackets
    by_effect : (e : Refusal) (w : Underway m c before) (a : Effect) → GoesFrom m c x w.reached a → (st : List ℕ) → w.unclosed ≡ st → bracketed a st ≡ Err e → Refused m c before x e
    by_effect e w Quiet g st s b = absurd (err_ok e st (sym b))
    by_effect e w (Opens a) g st s b = deep (ltb (length st) 4096) refl b
      where
        deep : (t : Bool) → ltb (length st) 4096 ≡ t → cond t (Ok (a ∷ st)) (Err TooDeep) ≡ Err e → Refused m c before x e
        deep true t f = absurd (err_ok e _ (sym f))
        deep false t f =
            let few = w.shallow w.effects [] w.unclosed (sym (append-nil _)) w.brackets in
            let many = ltb-false _ _ t in
            subst (Refused m c before x) (err_in _ _ f) (too_deep w g (omega (arith, ap length s)))
    by_effect e w (Closes a) g [] s b = subst (Refused m c before x) (err_in _ _ b) (bad_close w g (λ rest h. no_one a rest (sym s ∙ h)))
    by_effect e w (Closes a) g (y ∷ st) s b = same (eqb y a) refl b
      where
        same : (t : Bool) → eqb y a ≡ t → cond t (Ok st) (Err BadBracket) ≡ Err e → Refused m c before x e
        same true t f = absurd (err_ok e _ (sym f))
        same false t f = subst (Refused m c before x) (err_in _ _ f) (bad_close w g (λ rest h. eqb-false y a t (same_first y a st rest (sym s ∙ h))))
    by_effect e w Ends g [] s b = absurd (err_ok e [] (sym b))
    by_effect e w Ends g (y ∷ st) s b = subst (Refused m c before x) (err_in _ _ b) (bad_end w g (λ h. no_one y st (sym h ∙ s)))

    -- a move that is not taken is refused for a reason
    pub refused : (e : Refusal) (u : Progress) → Walk m c (before_moves m) before u → take_move m c u x ≡ Err e → Refused m c before x e
    refused e u walk t = by_name (names c x) refl t
      where
        by_place : (n : Named) → names c x ≡ Some n → (a b : Bool) → u.ended ≡ a → starts_at c.moments n u.place ≡ b → cond (a || not b) (Err NotNext) (arrived m u.cost (arrival_by m n u.place) (bracketed (arrival_by m n u.place).effect u.unclosed)) ≡ Err e → Refused m c before x e
        by_place n i true b ended s f = subst (Refused m c before x) (err_in _ _ f) (not_now (over walk ended) (goes_somewhere m c x sound n i))
        by_place n i false true going s f = by_effect e (underway walk going) _ (goes_on m c x n u.place i s) u.unclosed refl (arrived_err m u.cost (arrival_by m n u.place) _ e f)
        by_place n i false false going s f = subst (Refused m c before x) (err_in _ _ f) (not_here (underway walk going) (goes_somewhere m c x sound n i) (from_elsewhere m c x n u.place i s))

        by_name : (o : Option Named) → names c x ≡ o → take_named m c.moments u o ≡ Err e → Refused m c before x e
        by_name None n f = subst (Refused m c before x) (err_in _ _ f) (bad_move (came u walk) (nowhere m c x n))
        by_name (Some n) i f = by_place n i _ _ refl refl f

    -- and back
    pub refusing : (e : Refusal) → Refused m c before x e → (u : Progress) × Walk m c (before_moves m) before u × (take_move m c u x ≡ Err e)
    refusing e (bad_move taken h) = ⊎_elim (λ w. refuse _ (walk_under w).1) (λ o. refuse _ (walk_over o).1) taken
      where
        refuse : (u : Progress) → Walk m c (before_moves m) before u → (u : Progress) × Walk m c (before_moves m) before u × (take_move m c u x ≡ Err BadMove)
        refuse u walk = (u, walk, ap (take_named m c.moments u) (names_nothing m c x sound h))
    refusing e (not_here w s none) =
        let z = starting m c x s.0 s.1 s.2 in
        let walk = walk_under w in
        (_, walk.1, ap (take_named m c.moments (standing w.reached w.unclosed walk.0)) z.named_so ∙ cond-true _ _ _ (not_from_false _ (elsewhere m c x z.name w.reached z.named_so none)))
    refusing e (not_now o s) =
        let z = starting m c x s.0 s.1 s.2 in
        let walk = walk_over o in
        (walk.0, walk.1, ap (take_named m c.moments walk.0) z.named_so ∙ cond-true _ _ _ (ap (λ b. b || not (starts_at c.moments z.name walk.0.place)) walk.2))
    refusing e (bad_close {n} w g none) = let walk = walk_under w in (_, walk.1, goes_refused m c x w.reached w.unclosed walk.0 (Closes n) _ g (not_last n w.unclosed none))
    refusing e (bad_end w g left) = let walk = walk_under w in (_, walk.1, goes_refused m c x w.reached w.unclosed walk.0 Ends _ g (not_empty w.unclosed left))
    refusing e (too_deep {n} w g many) =
        let walk = walk_under w in
        let full : 4096 ≤ length w.unclosed = omega arith in
        (_, walk.1, goes_refused m c x w.reached w.unclosed walk.0 (Opens n) _ g (cond-false _ _ _ (le-ltb _ _ full)))
