-- Balanced paths, taken apart at their last step or call.
use Rattle.std.proofs.Common.{◌≡◌, ℕ, List, [], ◌∷◌, ◌++◌, Option, sym, refl, ap, ◌∙◌, subst, ⊎_elim, append_assoc, append-nil}
use Rattle.costs.specs.Meaning.{Meaning, Lawful, Cost}
use Rattle.costs.specs.Lists.{Costs, joined, joined_onto}
use Rattle.board.specs.declared.row.Row.{Row}
use Rattle.board.specs.declared.moves.Move.{Move}
use Rattle.board.specs.declared.moves.Effect.{Effect}
use Rattle.board.specs.declared.moves.Effect.TheVariants.{Quiet, Opens, Closes, Ends}
use Rattle.board.specs.Content.{Content, Sound}
use Rattle.board.specs.Moves.{Place, Untimed, Timed, Transition}
use Rattle.board.specs.Paths.{Path, stop, go, Dyck, empty, both, pair, brackets, Balanced, Running}
use Rattle.board.proofs.Basics.Joining.{joined_cost, onto_total}

-- A balanced path without end rows, built at its end by steps and calls.
pub data GrownPath (m : Meaning) (c : Content) : Place → Place → ℕ → Type 0 where
  none_yet : {s : Place} {k : ℕ} → k ≡ m.free → GrownPath m c s s k
  then_step : {s r q : Place} {n k total : ℕ} {v : Move} → GrownPath m c s r n → Transition m c v r q k Quiet → total ≡ m.join n k → GrownPath m c s q total
  then_call : {s r t u q : Place} {n k n' l b total : ℕ} {o w : Move} → GrownPath m c s r n → Transition m c o r t k (Opens b) → GrownPath m c t u n' → Transition m c w u q l (Closes b) → total ≡ m.join (m.join (m.join n k) n') l → GrownPath m c s q total

-- the costs of moves and paths are costs
module _ {m : Meaning} {c : Content} (laws : Lawful m) (sound : Sound m c) where
  untimed_cost : {r : Row} {w : Option ℕ} {t u k : ℕ} → Cost m r.cost → Untimed c r w t u k → Cost m k
  untimed_cost h s = subst (λ x. Cost m x) (sym s.price) h

  timed_cost : {r : Row} {w : Option ℕ} {t u k : ℕ} → Cost m r.cost → Timed m c r w t u k → Cost m k
  timed_cost h s = subst (λ x. Cost m x) (sym s.price) (laws.join_cost _ _ h (sound.sound_lines s.number s.taken s.found).price)

  pub transition_cost : {v : Move} {p q : Place} {k : ℕ} {e : Effect} → Transition m c v p q k e → Cost m k
  transition_cost g =
      let h = (sound.sound_rows _ _ g.found).price in
      ⊎_elim (λ s. untimed_cost h s) (λ s. timed_cost h s) g.time

  pub path_costs : {vs : List Move} {p q : Place} {ks : List ℕ} {es : List Effect} → Path m c vs p q ks es → Costs m ks
  path_costs stop = tt
  path_costs (go g p) = (transition_cost g, path_costs p)

  pub path_cost : {vs : List Move} {p q : Place} {ks : List ℕ} {es : List Effect} → Path m c vs p q ks es → Cost m (joined m ks)
  path_cost p = joined_cost laws _ (path_costs p)

  pub grown_cost : {p q : Place} {k : ℕ} → GrownPath m c p q k → Cost m k
  grown_cost (none_yet e) = subst (λ x. Cost m x) (sym e) laws.free_cost
  grown_cost (then_step r g e) = subst (λ x. Cost m x) (sym e) (laws.join_cost _ _ (grown_cost r) (transition_cost g))
  grown_cost (then_call r g r' g' e) = subst (λ x. Cost m x) (sym e) (laws.join_cost _ _ (laws.join_cost _ _ (laws.join_cost _ _ (grown_cost r) (transition_cost g)) (grown_cost r')) (transition_cost g'))

-- A balanced word read off the front of a path: the path grown so far, and what is left of the brackets w.
record WordRead (m : Meaning) (c : Content) (s q : Place) (total : ℕ) (w : List Effect) : Type 0 where
  mid : Place
  near : ℕ
  far : List ℕ
  moves : List Move
  effects : List Effect
  grown : GrownPath m c s mid near
  rest : Path m c moves mid q far effects
  left : brackets effects ≡ w
  running : Running effects
  sum : total ≡ joined_onto m near far

-- The next bracket x read off the front of a path: the path grown up to it, its move, and what is left.
record BracketRead (m : Meaning) (c : Content) (s q : Place) (total : ℕ) (x : Effect) (w : List Effect) : Type 0 where
  mid : Place
  after : Place
  move : Move
  near : ℕ
  price : ℕ
  far : List ℕ
  moves : List Move
  effects : List Effect
  grown : GrownPath m c s mid near
  by : Transition m c move mid after price x
  rest : Path m c moves after q far effects
  left : brackets effects ≡ w
  running : Running effects
  sum : total ≡ joined_onto m (m.join near price) far

pub same_head : (x y : Effect) (xs ys : List Effect) → x ∷ xs ≡ y ∷ ys → x ≡ y
same_head x y xs ys e = cc

pub same_tail : (x y : Effect) (xs ys : List Effect) → x ∷ xs ≡ y ∷ ys → xs ≡ ys
same_tail x y xs ys e = cc

pub no_cons : (x : Effect) (xs : List Effect) → [] ≡ x ∷ xs → ⊥
no_cons x xs e = cc

pub cons_no : (x : Effect) (xs : List Effect) → x ∷ xs ≡ [] → ⊥
cons_no x xs e = cc

word_eq : {m : Meaning} {c : Content} {s q : Place} {a b : ℕ} {w : List Effect} → a ≡ b → WordRead m c s q b w → WordRead m c s q a w
word_eq {m} {c} {s} {q} {w = w} e h = subst (λ n. WordRead m c s q n w) (sym e) h

grown_eq : {m : Meaning} {c : Content} {s q : Place} {a b : ℕ} → a ≡ b → GrownPath m c s q b → GrownPath m c s q a
grown_eq {m} {c} {s} {q} e h = subst (λ n. GrownPath m c s q n) (sym e) h

module _ {m : Meaning} {c : Content} where
  bracket_here : {v : Move} {vs : List Move} {s p r q : Place} {k k0 : ℕ} {ks : List ℕ} {e x : Effect} {es w : List Effect} → GrownPath m c s p k0 → Transition m c v p r k e → Path m c vs r q ks es → Running es → e ∷ brackets es ≡ x ∷ w → BracketRead m c s q (joined_onto m (m.join k0 k) ks) x w
  bracket_here {v} {vs} {s} {p} {r} {q} {k} {k0} {ks} {e} {x} {es} {w} grown g path run eq = record {
    mid = p;
    after = r;
    move = v;
    near = k0;
    price = k;
    far = ks;
    moves = vs;
    effects = es;
    grown = grown;
    by = subst (λ y. Transition m c v p r k y) (same_head _ _ _ _ eq) g;
    rest = path;
    left = same_tail _ _ _ _ eq;
    running = run;
    sum = refl;
  }

  -- up to the next bracket
  read_bracket : {vs : List Move} {s p q : Place} {k0 : ℕ} {ks : List ℕ} {x : Effect} {es w : List Effect} → Path m c vs p q ks es → GrownPath m c s p k0 → Running es → brackets es ≡ x ∷ w → BracketRead m c s q (joined_onto m k0 ks) x w
  read_bracket stop grown run eq = absurd (no_cons _ _ eq)
  read_bracket (go {e = Quiet} g p) grown run eq = read_bracket p (then_step grown g refl) run eq
  read_bracket (go {e = Opens n} g p) grown run eq = bracket_here grown g p run eq
  read_bracket (go {e = Closes n} g p) grown run eq = bracket_here grown g p run eq
  read_bracket (go {e = Ends} g p) grown run eq = absurd run

  bracket_after : {s q : Place} {total : ℕ} {x : Effect} {w : List Effect} → WordRead m c s q total (x ∷ w) → BracketRead m c s q total x w
  bracket_after {s} {q} {x = x} {w = w} r = subst (λ n. BracketRead m c s q n x w) (sym r.sum) (read_bracket r.rest r.grown r.running r.left)

  -- up to the end, where no bracket is left
  read_rest : {vs : List Move} {s p q : Place} {k0 : ℕ} {ks : List ℕ} {es : List Effect} → Path m c vs p q ks es → GrownPath m c s p k0 → Running es → brackets es ≡ [] → GrownPath m c s q (joined_onto m k0 ks)
  read_rest stop grown run eq = grown
  read_rest (go {e = Quiet} g p) grown run eq = read_rest p (then_step grown g refl) run eq
  read_rest (go {e = Opens n} g p) grown run eq = absurd (cons_no _ _ eq)
  read_rest (go {e = Closes n} g p) grown run eq = absurd (cons_no _ _ eq)
  read_rest (go {e = Ends} g p) grown run eq = absurd run

module _ {m : Meaning} {c : Content} (laws : Lawful m) (sound : Sound m c) where
  -- the costs after a call's opening, onto x, where the call's inside costs j and its close l
  onto_inner : (x j l : ℕ) (far rest : List ℕ) → Cost m x → Cost m j → Cost m l → Costs m far → Costs m rest → joined m far ≡ joined_onto m (m.join j l) rest → joined_onto m x far ≡ joined_onto m (m.join (m.join x j) l) rest
  onto_inner x j l far rest hx hj hl hf hr e =
      let jl = laws.join_cost j l hj hl in
      let xj = laws.join_cost x j hx hj in
      onto_total laws x far hx hf
      ∙ ap (m.join x) (e ∙ onto_total laws (m.join j l) rest jl hr)
      ∙ sym (laws.assoc x (m.join j l) (joined m rest) hx jl (joined_cost laws rest hr))
      ∙ ap (λ z. m.join z (joined m rest)) (sym (laws.assoc x j l hx hj hl))
      ∙ sym (onto_total laws (m.join (m.join x j) l) rest (laws.join_cost _ l xj hl) hr)

  -- a call: its opening bracket o, and from there on up to its closing bracket w
  read_call : {s q : Place} {total n : ℕ} {u v : List Effect} (o : BracketRead m c s q total (Opens n) u) → BracketRead m c o.after q (joined m o.far) (Closes n) v → WordRead m c s q total v
  read_call o w =
      let x = m.join o.near o.price in
      let x-cost = laws.join_cost _ _ (grown_cost laws sound o.grown) (transition_cost laws sound o.by) in
      record {
        mid = w.after;
        near = m.join (m.join x w.near) w.price;
        far = w.far;
        moves = w.moves;
        effects = w.effects;
        grown = then_call o.grown o.by w.grown w.by refl;
        rest = w.rest;
        left = w.left;
        running = w.running;
        sum = o.sum ∙ onto_inner x w.near w.price o.far w.far x-cost (grown_cost laws sound w.grown) (transition_cost laws sound w.by) (path_costs laws sound o.rest) (path_costs laws sound w.rest) w.sum;
      }

  -- a balanced word
  read_word : {v w : List Effect} {vs : List Move} {s p q : Place} {k0 : ℕ} {ks : List ℕ} {es : List Effect} → Dyck v → Path m c vs p q ks es → GrownPath m c s p k0 → Running es → brackets es ≡ v ++ w → WordRead m c s q (joined_onto m k0 ks) w
  read_word {vs = vs} {p = p} {k0 = k0} {ks = ks} {es = es} empty path grown running eq = record { mid = p; near = k0; far = ks; moves = vs; effects = es; grown = grown; rest = path; left = eq; running = running; sum = refl }
  read_word (both {a} {b} d d') path grown running eq =
      let r = read_word d path grown running (eq ∙ append_assoc a b _) in
      word_eq r.sum (read_word d' r.rest r.grown r.running r.left)
  read_word (pair {a} n d) path grown running eq =
      let o = read_bracket path grown running (eq ∙ ap (λ z. Opens n ∷ z) (append_assoc a _ _)) in
      read_call o (bracket_after (read_word d o.rest (none_yet refl) o.running o.left))

  -- every balanced path without end rows is built so, at its cost
  pub grown_of : {vs : List Move} {p q : Place} {ks : List ℕ} {es : List Effect} → Path m c vs p q ks es → Balanced es → Running es → GrownPath m c p q (joined m ks)
  grown_of path d running =
      let r = read_word {w = []} d path (none_yet refl) running (sym (append-nil _)) in
      grown_eq r.sum (read_rest r.rest r.grown r.running r.left)
