-- The check accepts exactly the complete readings with at most 4,096 brackets open at any time.
use Rattle.std.proofs.Common.{◌≡◌, ℕ, suc, ◌<◌, ◌≤◌, Bool, true, false, cond, eqb, ltb, ◌↔◌, List, [], ◌∷◌, ◌++◌, map, length, Some, None, Ok, Err, Option, Result, sym, refl, ap, ◌∙◌, subst, arith}
use Rattle.std.proofs.lemmas.Option.{none-some, same_Some}
use Rattle.std.proofs.lemmas.Bool.{both_ways, or_parts, or_from, not-false, not_from_true, ltb-true, lt-ltb, cond-true, cond-false}
use Rattle.costs.specs.Meaning.{Meaning}
use Rattle.costs.specs.Lists.{joined_onto}
use Rattle.board.specs.declared.moves.Move.{Move}
use Rattle.board.specs.declared.moves.Effect.{Effect}
use Rattle.board.specs.declared.moves.Effect.TheVariants.{Quiet, Opens, Closes, Ends}
use Rattle.board.specs.declared.moves.Arrival.{Arrival}
use Rattle.board.specs.declared.named.Named.{Named}
use Rattle.board.specs.declared.check.Fault.{Fault}
use Rattle.board.specs.declared.refusal.Refusal.{Refusal}
use Rattle.board.specs.declared.refusal.Refusal.TheVariants.{TooDeep, BadBracket}
use Rattle.board.specs.Content.{Content}
use Rattle.board.specs.Moves.{Place, Transition}
use Rattle.board.specs.Paths.{Path, stop, go, stack, Running}
use Rattle.board.specs.Packing.{unpacked}
use Rattle.board.specs.Arrivals.{named, arrival_by}
use Rattle.board.specs.Checks.{bracketed, Progress, before_moves, arrived, take_named, named_by_number, take_move, or_fault, checked_from, check_answer}
use Rattle.board.specs.Accepted.{ShallowFrom, PacksReading, AcceptsReadings}
use Rattle.board.specs.Moves.{is_end}
use Rattle.board.proofs.Paths.Naming.{named_goes, goes_named}
use Rattle.board.proofs.Paths.Balance.{body_stack, stack_body}
use Rattle.board.proofs.Paths.Decomposing.{same_head, same_tail, no_cons, cons_no}

pub err_ok : {A E : Type 0} (e : E) (x : A) → Err e ≡ Ok x → ⊥
err_ok e x h = cc

ok_in : {A E : Type 0} (x y : A) → ◌≡◌ {A = Result A E} (Ok x) (Ok y) → x ≡ y
ok_in x y e = cc

pub cond_ok : {A E : Type 0} (b : Bool) (e : E) (o : Result A E) (x : A) → cond b (Err e) o ≡ Ok x → (b ≡ false) × (o ≡ Ok x)
cond_ok true e o x h = absurd (err_ok e x h)
cond_ok false e o x h = (refl, h)

-- one move of a check, taken apart
pub record Took (m : Meaning) (c : Content) (w : Progress) (x : ℕ) (w' : Progress) : Type 0 where
  pub move : Move
  pub unpacks : unpacked x ≡ Some move
  pub arrival : Arrival
  pub goes : Transition m c move w.place arrival.to arrival.cost arrival.effect
  pub stacks : bracketed arrival.effect w.unclosed ≡ Ok w'.unclosed
  pub place_is : w'.place ≡ arrival.to
  pub ended_is : w'.ended ≡ is_end arrival.effect
  pub cost_is : w'.cost ≡ m.join w.cost arrival.cost

module _ (m : Meaning) (c : Content) (w : Progress) (x : ℕ) (w' : Progress) where
  took_arrival : (v : Move) (a : Arrival) (o : Result (List ℕ) Refusal) → unpacked x ≡ Some v → Transition m c v w.place a.to a.cost a.effect → bracketed a.effect w.unclosed ≡ o → arrived m w.cost a o ≡ Ok w' → Took m c w x w'
  took_arrival v a (Ok st) u g b e =
      let w-is : record { place = a.to; unclosed = st; ended = is_end a.effect; cost = m.join w.cost a.cost } ≡ w' = ok_in _ _ e in
      record {
        move = v;
        unpacks = u;
        arrival = a;
        goes = g;
        stacks = b ∙ ap (λ (z : Progress). Ok z.unclosed) w-is;
        place_is = ap (λ (z : Progress). z.place) (sym w-is);
        ended_is = ap (λ (z : Progress). z.ended) (sym w-is);
        cost_is = ap (λ (z : Progress). z.cost) (sym w-is);
      }
  took_arrival v a (Err y) u g b e = absurd (err_ok y w' e)

  took_named : (v : Move) (o : Option Named) → unpacked x ≡ Some v → named c v ≡ o → take_named m c.moments w o ≡ Ok w' → Took m c w x w'
  took_named v None u n e = absurd (err_ok _ w' e)
  took_named v (Some a) u n e =
      let z = cond_ok _ _ _ _ e in
      let t = or_parts _ _ z.0 in
      took_arrival v (arrival_by m a w.place) _ u (named_goes m c v w.place a n (not-false _ t.1)) refl z.1

  took_number : (o : Option Move) → unpacked x ≡ o → take_named m c.moments w (named_by_number c o) ≡ Ok w' → Took m c w x w'
  took_number None u e = absurd (err_ok _ w' e)
  took_number (Some v) u e = took_named v _ u refl e

  pub took : take_move m c w x ≡ Ok w' → Took m c w x w'
  took e = took_number _ refl e

-- after an end row nothing is taken
pub ended_named : (m : Meaning) (moments : ℕ) (w : Progress) (o : Option Named) (v : Progress) → w.ended ≡ true → take_named m moments w o ≡ Ok v → ⊥
ended_named m moments w None v t e = err_ok _ v e
ended_named m moments w (Some n) v t e = both_ways _ (or_parts _ _ (cond_ok _ _ _ _ e).0).0 t

at_end : (m : Meaning) (c : Content) (w : Progress) (i k : ℕ) (xs : List ℕ) → w.ended ≡ true → checked_from m c w i xs ≡ Ok k → (xs ≡ []) × (w.cost ≡ k)
at_end m c w i k [] t e = (refl, ok_in _ _ (sym (cond-true _ _ _ t) ∙ e))
at_end m c w i k (x ∷ xs) t e = absurd (stuck (take_move m c w x) refl e)
  where
    stuck : (r : Result Progress Refusal) → take_move m c w x ≡ r → or_fault i r (λ v. checked_from m c v (suc i) xs) ≡ Ok k → ⊥
    stuck (Ok v) f g = ended_named m c.moments w (named_by_number c (unpacked x)) v t f
    stuck (Err y) f g = err_ok _ k g

-- one effect on the stack
pub stack_one : (e : Effect) (es : List Effect) (st st' : List ℕ) → is_end e ≡ false → bracketed e st ≡ Ok st' → stack (e ∷ es) st ≡ stack es st'
stack_one Quiet es st st' n b = ap (stack es) (ok_in _ _ b)
stack_one (Opens a) es st st' n b = deep (ltb (length st) 4096) b
  where
    deep : (t : Bool) → cond t (Ok (a ∷ st)) (Err TooDeep) ≡ Ok st' → stack es (a ∷ st) ≡ stack es st'
    deep true f = ap (stack es) (ok_in _ _ f)
    deep false f = absurd (err_ok _ st' f)
stack_one (Closes a) es [] st' n b = absurd (err_ok _ st' b)
stack_one (Closes a) es (x ∷ st) st' n b = same (eqb x a) b
  where
    same : (t : Bool) → cond t (Ok st) (Err BadBracket) ≡ Ok st' → cond t (stack es st) None ≡ stack es st'
    same true f = ap (stack es) (ok_in _ _ f)
    same false f = absurd (err_ok _ st' f)
stack_one Ends es st st' n b = absurd (both_ways _ n refl)

-- at most 4,096 stay open
pub still_few : (e : Effect) (st st' : List ℕ) → length st ≤ 4096 → bracketed e st ≡ Ok st' → length st' ≤ 4096
still_few Quiet st st' h b = let l : length st ≡ length st' = ap length (ok_in _ _ b) in omega arith
still_few (Opens a) st st' h b = deep (ltb (length st) 4096) refl b
  where
    deep : (t : Bool) → ltb (length st) 4096 ≡ t → cond t (Ok (a ∷ st)) (Err TooDeep) ≡ Ok st' → length st' ≤ 4096
    deep true g f = let l : suc (length st) ≡ length st' = ap length (ok_in _ _ f) in let k = ltb-true _ _ g in omega arith
    deep false g f = absurd (err_ok _ st' f)
still_few (Closes a) [] st' h b = absurd (err_ok _ st' b)
still_few (Closes a) (x ∷ st) st' h b = same (eqb x a) b
  where
    same : (t : Bool) → cond t (Ok st) (Err BadBracket) ≡ Ok st' → length st' ≤ 4096
    same true f = let l : length st ≡ length st' = ap length (ok_in _ _ f) in omega arith
    same false f = absurd (err_ok _ st' f)
still_few Ends [] st' h b = let l : 0 ≡ length st' = ap length (ok_in [] st' b) in omega arith
still_few Ends (x ∷ st) st' h b = absurd (err_ok _ st' b)

pub shallow_none : (st : List ℕ) → length st ≤ 4096 → ShallowFrom st []
shallow_none st few [] rest o f k = let l : length st ≡ length o = ap length (same_Some _ _ k) in omega arith
shallow_none st few (x ∷ front) rest o f k = absurd (no_cons _ _ f)

pub shallow_more : (e : Effect) (es : List Effect) (st st' : List ℕ) → is_end e ≡ false → bracketed e st ≡ Ok st' → length st ≤ 4096 → ShallowFrom st' es → ShallowFrom st (e ∷ es)
shallow_more e es st st' n b few s [] rest o f k = let l : length st ≡ length o = ap length (same_Some _ _ k) in omega arith
shallow_more e es st st' n b few s (x ∷ front) rest o f k =
    let y : x ≡ e = sym (same_head _ _ _ _ f) in
    s front rest o (same_tail _ _ _ _ f) (sym (stack_one e front st st' n b) ∙ ap (λ z. stack (z ∷ front) st) (sym y) ∙ k)

pub shallow_less : (e : Effect) (es : List Effect) (st st' : List ℕ) → is_end e ≡ false → bracketed e st ≡ Ok st' → ShallowFrom st (e ∷ es) → ShallowFrom st' es
shallow_less e es st st' n b s front rest o f k = s (e ∷ front) rest o (ap (λ l. e ∷ l) f) (stack_one e front st st' n b ∙ k)

pub running_one : (e : Effect) (es : List Effect) → is_end e ≡ false → Running es → Running (e ∷ es)
running_one Quiet es n r = r
running_one (Opens a) es n r = r
running_one (Closes a) es n r = r
running_one Ends es n r = absurd (both_ways _ n refl)

pub running_off : (e : Effect) (es : List Effect) → Running (e ∷ es) → (is_end e ≡ false) × Running es
running_off Quiet es r = (refl, r)
running_off (Opens a) es r = (refl, r)
running_off (Closes a) es r = (refl, r)
running_off Ends es r = absurd r

pub is_ends : (e : Effect) → is_end e ≡ true → e ≡ Ends
is_ends Quiet h = absurd (both_ways _ refl h)
is_ends (Opens a) h = absurd (both_ways _ refl h)
is_ends (Closes a) h = absurd (both_ways _ refl h)
is_ends Ends h = refl

ends_empty : (st st' : List ℕ) → bracketed Ends st ≡ Ok st' → st ≡ []
ends_empty [] st' b = refl
ends_empty (x ∷ st) st' b = absurd (err_ok _ st' b)

no_packs : (xs : List ℕ) → map unpacked xs ≡ [] → xs ≡ []
no_packs [] e = refl
no_packs (x ∷ xs) e = absurd cc

-- one effect of a word that the stack takes
pub opened_one : (e : Effect) (es : List Effect) (st o : List ℕ) → is_end e ≡ false → stack (e ∷ es) st ≡ Some o → ShallowFrom st (e ∷ es) → (st' : List ℕ) × (bracketed e st ≡ Ok st')
opened_one Quiet es st o n s d = (st, refl)
opened_one (Opens a) es st o n s d = let z = d (Opens a ∷ []) es (a ∷ st) refl refl in let l : length st < 4096 = omega arith in (a ∷ st, cond-true _ _ _ (lt-ltb _ _ l))
opened_one (Closes a) es [] o n s d = absurd (none-some o s)
opened_one (Closes a) es (x ∷ st) o n s d = same (eqb x a) s
  where
    same : (t : Bool) → cond t (stack es st) None ≡ Some o → (st' : List ℕ) × (cond t (Ok st) (Err BadBracket) ≡ Ok st')
    same true f = (st, refl)
    same false f = absurd (none-some o f)
opened_one Ends es st o n s d = absurd (both_ways _ n refl)

stack_empty : (st : List ℕ) → stack [] st ≡ Some [] → st ≡ []
stack_empty st e = cc

-- what is left of a reading, from a place with brackets st open and the cost a so far; k in all
record Rest (m : Meaning) (c : Content) (p : Place) (st : List ℕ) (a : ℕ) (xs : List ℕ) (k : ℕ) : Type 0 where
  moves : List Move
  packs : map unpacked xs ≡ map Some moves
  costs : List ℕ
  body : List Effect
  stops : Place
  path : Path m c moves p stops costs (body ++ (Ends ∷ []))
  running : Running body
  closes : stack body st ≡ Some []
  shallow : ShallowFrom st body
  price : k ≡ joined_onto m a costs

-- what the rest of a check gives, one move on
abbrev Again : Meaning → Content → ℕ → List ℕ → Type 0
Again m c i xs = (w : Progress) (k : ℕ) → length w.unclosed ≤ 4096 → w.ended ≡ false → checked_from m c w (suc i) xs ≡ Ok k → Rest m c w.place w.unclosed w.cost xs k

module _ {m : Meaning} {c : Content} where
  rest_end : (w w' : Progress) (x : ℕ) (k : ℕ) → (s : Took m c w x w') → w'.ended ≡ true → w'.cost ≡ k → length w.unclosed ≤ 4096 → Rest m c w.place w.unclosed w.cost (x ∷ []) k
  rest_end w w' x k s t h few =
      let e = is_ends _ (sym s.ended_is ∙ t) in
      let st-is : w.unclosed ≡ [] = ends_empty _ _ (ap (λ z. bracketed z w.unclosed) (sym e) ∙ s.stacks) in
      let a = s.arrival in
      let g : Transition m c s.move w.place a.to a.cost Ends = subst (Transition m c s.move w.place a.to a.cost) e s.goes in
      record {
        moves = s.move ∷ [];
        packs = ap (λ z. z ∷ []) s.unpacks;
        costs = a.cost ∷ [];
        body = [];
        stops = a.to;
        path = go g stop;
        running = tt;
        closes = ap Some st-is;
        shallow = shallow_none w.unclosed few;
        price = sym h ∙ s.cost_is;
      }

  rest_more : (w w' : Progress) (x : ℕ) (xs : List ℕ) (k : ℕ) → (s : Took m c w x w') → w'.ended ≡ false → length w.unclosed ≤ 4096 → Rest m c w'.place w'.unclosed w'.cost xs k → Rest m c w.place w.unclosed w.cost (x ∷ xs) k
  rest_more w w' x xs k s t few r =
      let e : is_end s.arrival.effect ≡ false = sym s.ended_is ∙ t in
      let path : Path m c r.moves s.arrival.to r.stops r.costs (r.body ++ (Ends ∷ [])) = subst (λ p. Path m c r.moves p r.stops r.costs (r.body ++ (Ends ∷ []))) s.place_is r.path in
      record {
        moves = s.move ∷ r.moves;
        packs = λ i. s.unpacks i ∷ r.packs i;
        costs = s.arrival.cost ∷ r.costs;
        body = s.arrival.effect ∷ r.body;
        stops = r.stops;
        path = go s.goes path;
        running = running_one s.arrival.effect r.body e r.running;
        closes = stack_one s.arrival.effect r.body _ _ e s.stacks ∙ r.closes;
        shallow = shallow_more s.arrival.effect r.body _ _ e s.stacks few r.shallow;
        price = r.price ∙ ap (λ z. joined_onto m z r.costs) s.cost_is;
      }

  passed : (xs : List ℕ) (i : ℕ) (w : Progress) (k : ℕ) → length w.unclosed ≤ 4096 → w.ended ≡ false → checked_from m c w i xs ≡ Ok k → Rest m c w.place w.unclosed w.cost xs k
  passed [] i w k few f e = absurd (err_ok _ k (sym (cond-false _ _ _ f) ∙ e))
  passed (x ∷ xs) i w k few f e = first (passed xs (suc i)) (take_move m c w x) refl e
    where
      by_end : Again m c i xs → (w' : Progress) → Took m c w x w' → checked_from m c w' (suc i) xs ≡ Ok k → (t : Bool) → w'.ended ≡ t → Rest m c w.place w.unclosed w.cost (x ∷ xs) k
      by_end again w' s g true t =
          let z = at_end m c w' (suc i) k xs t g in
          subst (λ l. Rest m c w.place w.unclosed w.cost (x ∷ l) k) (sym z.0) (rest_end w w' x k s t z.1 few)
      by_end again w' s g false t =
          rest_more w w' x xs k s t few (again w' k (still_few s.arrival.effect _ _ few s.stacks) t g)

      first : Again m c i xs → (o : Result Progress Refusal) → take_move m c w x ≡ o → or_fault i o (λ v. checked_from m c v (suc i) xs) ≡ Ok k → Rest m c w.place w.unclosed w.cost (x ∷ xs) k
      first again (Ok w') t g = by_end again w' (took m c w x w' t) g _ refl
      first again (Err y) t g = absurd (err_ok _ k g)

  -- and back: a transition is taken
  pub takes : (x : ℕ) (v : Move) (p q : Place) (k a : ℕ) (e : Effect) (st st' : List ℕ) → unpacked x ≡ Some v → Transition m c v p q k e → bracketed e st ≡ Ok st' → take_move m c (record { place = p; unclosed = st; ended = false; cost = a }) x ≡ Ok (record { place = q; unclosed = st'; ended = is_end e; cost = m.join a k })
  takes x v p q k a e st st' u g b =
      let w : Progress = record { place = p; unclosed = st; ended = false; cost = a } in
      let z = goes_named m c v p q k e g in
      ap (λ o. take_named m c.moments w (named_by_number c o)) u
      ∙ ap (take_named m c.moments w) z.named_so
      ∙ cond-false _ _ _ (or_from _ _ refl (not_from_true _ z.starts))
      ∙ ap (λ (h : Arrival). arrived m a h (bracketed h.effect st)) z.leads_on
      ∙ ap (arrived m a (record { to = q; cost = k; effect = e })) b

  nothing : {vs : List Move} {p q : Place} {ks : List ℕ} {es : List Effect} → Path m c vs p q ks es → es ≡ [] → (vs ≡ []) × (ks ≡ [])
  nothing stop e = (refl, refl)
  nothing (go g p) e = absurd (cons_no _ _ e)

  accepted : (body : List Effect) {vs : List Move} {p q : Place} {ks : List ℕ} {es : List Effect} → Path m c vs p q ks es → es ≡ body ++ (Ends ∷ []) → Running body → (st : List ℕ) → stack body st ≡ Some [] → ShallowFrom st body → (xs : List ℕ) → map unpacked xs ≡ map Some vs → (i a : ℕ) → checked_from m c (record { place = p; unclosed = st; ended = false; cost = a }) i xs ≡ Ok (joined_onto m a ks)
  accepted [] stop eq run st s d xs u i a = absurd (no_cons _ _ eq)
  accepted [] (go {v} {vs} {p = p} {r = r} {k = k} {ks = ks} g path) eq run st s d [] u i a = absurd cc
  accepted [] (go {v} {vs} {p = p} {r = r} {k = k} {ks = ks} g path) eq run st s d (x ∷ xs) u i a =
      let z = nothing path (same_tail _ _ _ _ eq) in
      let g' : Transition m c v p r k Ends = subst (Transition m c v p r k) (same_head _ _ _ _ eq) g in
      let u₀ : unpacked x ≡ Some v = cc in
      let u₁ : map unpacked xs ≡ map Some vs = cc in
      let xs-is : xs ≡ [] = no_packs xs (u₁ ∙ ap (map Some) z.0) in
      let b : bracketed Ends st ≡ Ok [] = ap (bracketed Ends) (stack_empty st s) in
      let t = takes x v p r k a Ends st [] u₀ g' b in
      let w : Progress = record { place = r; unclosed = []; ended = true; cost = m.join a k } in
      ap (λ (o : Result Progress Refusal). or_fault i o (λ y. checked_from m c y (suc i) xs)) t ∙ ap (checked_from m c w (suc i)) xs-is ∙ ap (λ l. Ok (joined_onto m (m.join a k) l)) (sym z.1)
  accepted (e ∷ body) stop eq run st s d xs u i a = absurd (no_cons _ _ eq)
  accepted (e ∷ body) (go {v} {vs} {p = p} {r = r} {k = k} {ks = ks} g path) eq run st s d [] u i a = absurd cc
  accepted (e ∷ body) (go {v} {vs} {p = p} {r = r} {k = k} {ks = ks} g path) eq run st s d (x ∷ xs) u i a =
      let g' : Transition m c v p r k e = subst (Transition m c v p r k) (same_head _ _ _ _ eq) g in
      let u₀ : unpacked x ≡ Some v = cc in
      let u₁ : map unpacked xs ≡ map Some vs = cc in
      let ne = running_off e body run in
      let o = opened_one e body st [] ne.0 s d in
      let w-is = ap (λ (t : Bool). checked_from m c (record { place = r; unclosed = o.0; ended = t; cost = m.join a k }) (suc i) xs) ne.0 in
      let t = takes x v p r k a e st o.0 u₀ g' o.1 in
      let on = accepted body path (same_tail _ _ _ _ eq) ne.1 o.0 (sym (stack_one e body st o.0 ne.0 o.1) ∙ s) (shallow_less e body st o.0 ne.0 o.1 d) xs u₁ (suc i) (m.join a k) in
      ap (λ (o : Result Progress Refusal). or_fault i o (λ y. checked_from m c y (suc i) xs)) t ∙ w-is ∙ on

  pub accepts : (xs : List ℕ) (k : ℕ) → (check_answer m c xs ≡ Ok k) ↔ PacksReading m c xs k
  accepts xs k = (there, back)
    where
      there : check_answer m c xs ≡ Ok k → PacksReading m c xs k
      there e =
          let r = passed xs 0 (before_moves m) k (omega arith) refl e in
          record {
            moves = r.moves;
            packs = r.packs;
            complete = record { costs = r.costs; body = r.body; stops = r.stops; path = r.path; balanced = stack_body r.body r.closes; running = r.running; price = r.price };
            shallow = r.shallow;
          }

      back : PacksReading m c xs k → check_answer m c xs ≡ Ok k
      back h =
          accepted h.complete.body h.complete.path refl h.complete.running [] (body_stack h.complete.body h.complete.balanced) h.shallow xs h.packs 0 m.free
          ∙ ap Ok (sym h.complete.price)

-- what an answer of the check says of the moves
pub answer_accepts : {m : Meaning} {c : Content} (xs : List ℕ) (r : Result ℕ Fault) → r ≡ check_answer m c xs → AcceptsReadings m c xs r
answer_accepts {m} {c} xs r e = subst (AcceptsReadings m c xs) (sym e) (accepts xs)
