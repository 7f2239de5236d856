-- Finding the call that makes a goal.
use Rattle.std.proofs.Common.{◌≡◌, ℕ, ◌+◌, ◌*◌, ◌<◌, ◌≤◌, true, false, List, [], ◌∷◌, ◌++◌, length, get_or, Some, None, sym, refl, ap, ◌∙◌, subst, subst₂, ap₂, inl, inr, ⊎_elim, arith}
use Rattle.std.proofs.lemmas.Bool.{cases_eq, cases_lt, both_ways, and_parts, and_from, eqb-true, eq-eqb}
use Rattle.std.specs.List.{slice_get}
use Rattle.costs.specs.Meaning.{Meaning, Lawful, Cost, NoDearer}
use Rattle.board.specs.declared.row.Row.{Row}
use Rattle.board.specs.declared.row.RowKind.TheVariants.{Open}
use Rattle.board.specs.declared.moves.Move.{Move}
use Rattle.board.specs.declared.moves.Effect.TheVariants.{Opens, Closes}
use Rattle.board.specs.declared.log.Log.{Log}
use Rattle.board.specs.declared.log.Derivation.{Derivation as LogDerivation}
use Rattle.board.specs.declared.log.Derivation.TheVariants.{Call}
use Rattle.board.specs.declared.settling.Goal.{Goal}
use Rattle.board.specs.Content.{Content}
use Rattle.board.specs.Moves.{Place, mode, moment, On, place_number, Transition}
use Rattle.board.specs.Settling.{Record, Derivation, by_step, by_call, bare, call_record, Candidate, step, call, derivation_key, Lex}
use Rattle.board.specs.Logged.{derivation_of, record_of, records}
use Rattle.board.specs.Logs.{numbered, nth_record, Ready, pair_of}
use Rattle.board.specs.Minima.{Link, StandsFor}
use Rattle.board.specs.Winning.{GoalOn, Makes, made, Wins, Finds, IsCallAt, IsCallBy, IsCallOpenedBy, IsCall, Gathered, TightAt, BracketRows, ServeIn, is_close, closes_to}
use Rattle.board.proofs.Paths.Standing.{leaves_on, enters_on}
use Rattle.board.proofs.Basics.Laws.{no_dearer_same}
use Rattle.board.proofs.Basics.Membership.{some_eq, none_some}
use Rattle.board.proofs.Rounds.Diagonal.{place_eq}
use Rattle.board.proofs.Rounds.Precedence.{lex_refl}
use Rattle.board.proofs.Paths.Decomposing.{transition_cost}
use Rattle.board.proofs.Rounds.Uniqueness.{number_eq, bracket_alone, opens_not_quiet, closes_not_quiet}
use Rattle.board.proofs.Rounds.Candidates.{move_eq}
use Rattle.board.proofs.Rounds.Logging.{logged_in, in_logged, settled_is}
use Rattle.board.proofs.Basics.Numbers.{number_in}
use Rattle.board.proofs.Least.Bracketing.{goes_row, place_unique, bracket_leaves, bracket_enters, bracket_price, bracket_does, bracket_goes, effect_open, effect_close, not_both, not_close, open_kind, close_kind, close_is, stands_cheap}
use Rattle.board.proofs.Least.Links.{record_cost, joined_right}
use Rattle.board.proofs.Least.Winning.{wins_more}

-- the front and inside of a call that makes a goal
pub record CallParts (m : Meaning) (c : Content) (l : Log) (g : Goal) (o w t : ℕ) : Type 0 where
  pub front : ℕ
  pub inside : ℕ
  pub front_in : front < l.count
  pub inside_in : inside < l.count
  pub starts : (numbered l front).from ≡ g.from
  pub price : ℕ
  pub last : ℕ
  pub bracket : ℕ
  pub opens : Transition m c (bare o) (numbered l front).to (numbered l inside).from price (Opens bracket)
  pub closes : Transition m c (bare w) (numbered l inside).to g.to last (Closes bracket)
  pub when : moment (numbered l front).to ≡ t
  pub costs : m.join (m.join (m.join (numbered l front).cost price) (numbered l inside).cost) last ≡ g.cost

pub call_of : {m : Meaning} {c : Content} {l : Log} {g : Goal} {y : Record} (o w t : ℕ) → Candidate m c (records l) y → y.from ≡ g.from → y.to ≡ g.to → y.cost ≡ g.cost → y.derivation ≡ by_call o w t → CallParts m c l g o w t
call_of o w t (step a {v} i u) s e f d = let z : by_step v ≡ by_call o w t = d in absurd cc
call_of {m} {c} {l} {g} o w t (call a b {o = o'} {w = w'} {q} {k} {l = n} {n = bracket} i u j v) s e f d =
    let z : by_call o'.row w'.row (moment a.to) ≡ by_call o w t = d in
    let eo : o'.row ≡ o = cc in
    let ew : w'.row ≡ w = cc in
    let et : moment a.to ≡ t = cc in
    let ra = logged_in l.records l.count a i in
    let rb = logged_in l.records l.count b j in
    let mo : o' ≡ bare o = move_eq o' (bare o) eo (bracket_alone (opens_not_quiet bracket) u).0 in
    let mw : w' ≡ bare w = move_eq w' (bare w) ew (bracket_alone (closes_not_quiet bracket) v).0 in
    record {
      front = ra.0;
      inside = rb.0;
      front_in = ra.1;
      inside_in = rb.1;
      starts = ap (λ (x : Record). x.from) (sym ra.2) ∙ s;
      price = k;
      last = n;
      bracket = bracket;
      opens = subst (λ (z : Move). Transition m c z (numbered l ra.0).to (numbered l rb.0).from k (Opens bracket)) mo (subst₂ (λ (p q : Place). Transition m c o' p q k (Opens bracket)) (ap (λ (x : Record). x.to) ra.2) (ap (λ (x : Record). x.from) rb.2) u);
      closes = subst (λ (z : Move). Transition m c z (numbered l rb.0).to g.to n (Closes bracket)) mw (subst₂ (λ (p q : Place). Transition m c w' p q n (Closes bracket)) (ap (λ (x : Record). x.to) rb.2) e v);
      when = ap (λ (x : Record). moment x.to) (sym ra.2) ∙ et;
      costs = ap₂ (λ (x y : Record). m.join (m.join (m.join x.cost k) y.cost) n) (sym ra.2) (sym rb.2) ∙ f;
    }

-- what the index has between two places
pub between_places : {m : Meaning} {c : Content} {l : Log} (ready : Ready m c l) (p q : Place) → On c p → On c q → (i : ℕ) → get_or l.index (pair_of c p q) None ≡ Some i → (i < l.count) × ((numbered l i).from ≡ p) × ((numbered l i).to ≡ q)
between_places {c = c} {l} ready p q hp hq i e =
    let f = ready.book.finds _ i e in
    let kept = ready.book.kept i f.0 in
    let f1 = f.1 in
    let a = number_in c (numbered l i).to ready.sound.few_places kept.to_on in
    let b = number_in c q ready.sound.few_places hq in
    (f.0, number_eq c _ _ kept.from_on hp (omega arith), number_eq c _ _ kept.to_on hq (omega arith))

module _ {m : Meaning} {c : Content} {l : Log} (laws : Lawful m) (ready : Ready m c l) (g : Goal) (on : GoalOn c g) where
  pub call_parts : (o w t : ℕ) (y : Record) → Makes m c l g y → IsCallAt o w t y.derivation → CallParts m c l g o w t
  call_parts o w t y k d = call_of o w t k.candidate k.starts k.ends k.costs d

  -- an open row
  module _ (o : ℕ) (a : Row) (row_is : slice_get c.rows o ≡ Some a) (opens : a.kind ≡ Open) where
    -- where a call that it opens starts and enters
    front_at : {w t : ℕ} (x : CallParts m c l g o w t) → (numbered l x.front).to ≡ (a.from, t)
    front_at {w} {t} x = place_eq (numbered l x.front).to (a.from, t) (bracket_leaves o a row_is x.opens) x.when

    inside_from : {w t : ℕ} (x : CallParts m c l g o w t) → (numbered l x.inside).from ≡ (a.to, t)
    inside_from {w} {t} x = bracket_enters o a row_is (opens_not_quiet x.bracket) x.opens ∙ ap (λ (n : ℕ). (a.to, n)) x.when

    bracket_is : {w t : ℕ} (x : CallParts m c l g o w t) → x.bracket ≡ a.label
    bracket_is x = let z : Opens x.bracket ≡ Opens a.label = bracket_does o a row_is x.opens ∙ effect_open a opens in cc

    pub moment_in : {w t : ℕ} (x : CallParts m c l g o w t) → t < c.moments
    moment_in {w} {t} x = let h = (ready.book.kept x.front x.front_in).to_on.1 in omega (arith, x.when)

    front_index : {w t : ℕ} (x : CallParts m c l g o w t) → get_or l.index (pair_of c g.from (a.from, t)) None ≡ Some x.front
    front_index x = ap₂ (λ (p q : Place). get_or l.index (pair_of c p q) None) (sym x.starts) (sym (front_at x)) ∙ ready.book.found x.front x.front_in

    inside_index : {w t : ℕ} (x : CallParts m c l g o w t) (q : Place) → (numbered l x.inside).to ≡ q → get_or l.index (pair_of c (a.to, t) q) None ≡ Some x.inside
    inside_index x q to = ap₂ (λ (p q : Place). get_or l.index (pair_of c p q) None) (sym (inside_from x)) (sym to) ∙ ready.book.found x.inside x.inside_in

    -- its front's place is tight
    is_tight : {w t : ℕ} (x : CallParts m c l g o w t) → TightAt m c l g (place_number c (a.from, t))
    is_tight {w} {t} x =
        let hk = transition_cost laws ready.sound x.opens in
        let hl = transition_cost laws ready.sound x.closes in
        let ha = record_cost laws ready x.front x.front_in in
        let hb = record_cost laws ready x.inside x.inside_in in
        let same = joined_right laws ready _ _ _ _ ha hk hb hl ∙ x.costs in
        record {
          front = x.front;
          front_in = x.front_in;
          starts = x.starts;
          there = ap (place_number c) (front_at x);
          price = m.join x.price (m.join (numbered l x.inside).cost x.last);
          link = subst (λ (n : ℕ). Link m c l (n * 64 + place_number c g.to) (m.join x.price (m.join (numbered l x.inside).cost x.last))) (ap (place_number c) (front_at x)) (inr (
            x.inside,
            x.inside_in,
            o,
            w,
            record {
              place = (numbered l x.front).to;
              exit = g.to;
              bracket = x.bracket;
              price = x.price;
              last = x.last;
              opens = x.opens;
              closes = x.closes;
              at = refl;
              cost_is = refl;
            },
          ));
          within = subst (NoDearer m (m.join (numbered l x.front).cost (m.join x.price (m.join (numbered l x.inside).cost x.last)))) same (no_dearer_same laws _ (laws.join_cost _ _ ha (laws.join_cost _ _ hk (laws.join_cost _ _ hb hl))));
        }

    -- so the list has it
    listed : (xs : List ℕ) → Gathered (TightAt m c l g) 64 xs → {w t : ℕ} (x : CallParts m c l g o w t) → (n : ℕ) × (n < length xs) × (get_or xs n 0 ≡ place_number c (a.from, t))
    listed xs all {w} {t} x = all.complete (place_number c (a.from, t)) (number_in c (a.from, t) ready.sound.few_places (leaves_on ready.sound o a row_is t (moment_in x))) (is_tight x)

    -- the place of a number of the list
    module _ (xs : List ℕ) (all : Gathered (TightAt m c l g) 64 xs) (n : ℕ) (p : Place) (number_is : place_number c p ≡ get_or xs n 0) (there : moment p < c.moments) where
      the_place : (t : ℕ) → t < c.moments → get_or xs n 0 ≡ place_number c (a.from, t) → p ≡ (a.from, t)
      the_place t h e = place_unique c p (a.from, t) there h (number_is ∙ e)

    -- the list's first n give no call by a close row
    abbrev pub NoneWhile : ℕ → List ℕ → ℕ → Type 0
    NoneWhile w xs n = (i : ℕ) → i < n → (t : ℕ) → t < c.moments → get_or xs i 0 ≡ place_number c (a.from, t) → Finds m c l g (IsCallAt o w t) None

    pub none_while_more : (w : ℕ) (xs : List ℕ) (n : ℕ) → NoneWhile w xs n → ((t : ℕ) → t < c.moments → get_or xs n 0 ≡ place_number c (a.from, t) → Finds m c l g (IsCallAt o w t) None) → NoneWhile w xs (n + 1)
    none_while_more w xs n old new i h = ⊎_elim (λ (e : i ≡ n). subst (λ (j : ℕ). (t : ℕ) → t < c.moments → get_or xs j 0 ≡ place_number c (a.from, t) → Finds m c l g (IsCallAt o w t) None) (sym e) new) (λ (z : i ≡ n → ⊥). old i (omega arith)) (cases_eq i n)

    pub none_reached : (xs : List ℕ) → Gathered (TightAt m c l g) 64 xs → (n : ℕ) → length xs ≤ n → ((w : ℕ) → NoneWhile w xs n) → Finds m c l g (IsCallOpenedBy o) None
    none_reached xs all n h old y k (w, (t, d)) = let x = call_parts o w t y k d in let f = listed xs all x in let f1 = f.1 in old w f.0 (omega arith) t (moment_in x) f.2 y k d

    -- another mode
    pub other_mode : (xs : List ℕ) (n : ℕ) (p : Place) → place_number c p ≡ get_or xs n 0 → moment p < c.moments → (mode p ≡ a.from → ⊥) → (t : ℕ) → t < c.moments → get_or xs n 0 ≡ place_number c (a.from, t) → ⊥
    other_mode xs n p number_is there far t h e = far (ap (λ (z : Place). mode z) (place_unique c p (a.from, t) there h (number_is ∙ e)))

    -- the moment of the place
    pub same_moment : (xs : List ℕ) (n : ℕ) (p : Place) → place_number c p ≡ get_or xs n 0 → moment p < c.moments → (t : ℕ) → t < c.moments → get_or xs n 0 ≡ place_number c (a.from, t) → moment p ≡ t
    same_moment xs n p number_is there t h e = ap (λ (z : Place). moment z) (place_unique c p (a.from, t) there h (number_is ∙ e))

    -- no front there
    pub reaches_no_front : (p : Place) → get_or l.index (pair_of c g.from p) None ≡ None → (w t : ℕ) → p ≡ (a.from, t) → Finds m c l g (IsCallAt o w t) None
    reaches_no_front p e w t is y k d = none_some _ _ e (ap (λ (z : Place). get_or l.index (pair_of c g.from z) None) is ∙ front_index (call_parts o w t y k d))

    -- no close row of the list reaches it from there
    module _ (t i : ℕ) (there : t < c.moments) (at : get_or l.index (pair_of c g.from (a.from, t)) None ≡ Some i) where
      -- by those that the numbered of the list stand for
      abbrev pub NoneBy : List ℕ → ℕ → Type 0
      NoneBy xs n = (k : ℕ) → k < n → (w : ℕ) (x : CallParts m c l g o w t) → StandsFor m c x.closes.by (get_or xs k 0) → ⊥

      pub none_by_more : (xs : List ℕ) (n : ℕ) → NoneBy xs n → ((w : ℕ) (x : CallParts m c l g o w t) → StandsFor m c x.closes.by (get_or xs n 0) → ⊥) → NoneBy xs (n + 1)
      none_by_more xs n old new k h = ⊎_elim (λ (e : k ≡ n). subst (λ (j : ℕ). (w : ℕ) (x : CallParts m c l g o w t) → StandsFor m c x.closes.by (get_or xs j 0) → ⊥) (sym e) new) (λ (z : k ≡ n → ⊥). old k (omega arith)) (cases_eq k n)

      pub none_by_all : (xs : List ℕ) → ServeIn m c a.label (mode g.to) xs → (n : ℕ) → length xs ≤ n → NoneBy xs n → (w : ℕ) → Finds m c l g (IsCallAt o w t) None
      none_by_all xs serve n h old w y k d =
          let x = call_parts o w t y k d in
          let z = close_kind _ _ _ x.closes.does in
          let s = serve w x.closes.by x.closes.found z.0 (sym z.1 ∙ bracket_is x) (sym x.closes.enters) in
          let s1 = s.1 in
          old s.0 (omega arith) w x s.2

      -- the row that was read
      module _ (n : ℕ) (w : ℕ) (x : CallParts m c l g o w t) (s : StandsFor m c x.closes.by n) where
        pub serves_no_row : slice_get c.rows n ≡ None → ⊥
        serves_no_row e = none_some _ _ e s.found

        module _ (b : Row) (read : slice_get c.rows n ≡ Some b) where
          serves_is : s.by ≡ b
          serves_is = some_eq _ _ _ s.found read

          serves_index : get_or l.index (pair_of c (a.to, t) (b.from, moment g.to)) None ≡ Some x.inside
          serves_index =
              let from : mode (numbered l x.inside).to ≡ b.from = x.closes.leaves ∙ sym s.leaves ∙ ap (λ (r : Row). r.from) serves_is in
              inside_index x (b.from, moment g.to) (place_eq (numbered l x.inside).to (b.from, moment g.to) from (bracket_alone (closes_not_quiet x.bracket) x.closes).1)

          pub serves_no_inside : get_or l.index (pair_of c (a.to, t) (b.from, moment g.to)) None ≡ None → ⊥
          serves_no_inside e = none_some _ _ e serves_index

          pub serves_dear : Cost m g.cost → (j : ℕ) → get_or l.index (pair_of c (a.to, t) (b.from, moment g.to)) None ≡ Some j → m.no_dearer (m.join (m.join (m.join (numbered l i).cost a.cost) (numbered l j).cost) b.cost) g.cost ≡ false → ⊥
          serves_dear goal-cost j at' dear =
              let front : i ≡ x.front = some_eq _ _ _ at (front_index x) in
              let inside : j ≡ x.inside = some_eq _ _ _ at' serves_index in
              let price : x.price ≡ a.cost = bracket_price o a row_is x.opens in
              let hk = transition_cost laws ready.sound x.opens in
              let hl = transition_cost laws ready.sound x.closes in
              let ha = record_cost laws ready x.front x.front_in in
              let hb = record_cost laws ready x.inside x.inside_in in
              let hs = (ready.sound.sound_rows n s.by s.found).price in
              let before = laws.join_cost _ _ (laws.join_cost _ _ ha hk) hb in
              let low : NoDearer m (m.join (m.join (m.join (numbered l x.front).cost x.price) (numbered l x.inside).cost) s.by.cost) g.cost = subst (NoDearer m (m.join (m.join (m.join (numbered l x.front).cost x.price) (numbered l x.inside).cost) s.by.cost)) x.costs (laws.mono_right _ _ _ hs hl before (stands_cheap x.closes s)) in
              let here : m.join (m.join (m.join (numbered l i).cost a.cost) (numbered l j).cost) b.cost ≡ m.join (m.join (m.join (numbered l x.front).cost x.price) (numbered l x.inside).cost) s.by.cost =
              λ z. m.join (m.join (m.join (numbered l (front z)).cost (sym price z)) (numbered l (inside z)).cost) (sym serves_is z).cost in
              both_ways _ (ap (λ (n : ℕ). m.no_dearer n g.cost) (sym here) ∙ dear) low

    -- a close row beside it
    module _ (w : ℕ) (b : Row) (rows : BracketRows c g o w a b) where
      inside_to : {t : ℕ} (x : CallParts m c l g o w t) → (numbered l x.inside).to ≡ (b.from, moment g.to)
      inside_to x = place_eq (numbered l x.inside).to (b.from, moment g.to) (bracket_leaves w b rows.closing x.closes) (bracket_alone (closes_not_quiet x.bracket) x.closes).1

      inside_there : {t : ℕ} (x : CallParts m c l g o w t) → get_or l.index (pair_of c (a.to, t) (b.from, moment g.to)) None ≡ Some x.inside
      inside_there x = inside_index x _ (inside_to x)

      pub call_no_front : (t : ℕ) → get_or l.index (pair_of c g.from (a.from, t)) None ≡ None → Finds m c l g (IsCallAt o w t) None
      call_no_front t e y k d = none_some _ _ e (front_index (call_parts o w t y k d))

      pub call_no_inside : (t : ℕ) → get_or l.index (pair_of c (a.to, t) (b.from, moment g.to)) None ≡ None → Finds m c l g (IsCallAt o w t) None
      call_no_inside t e y k d = none_some _ _ e (inside_there (call_parts o w t y k d))

      module _ (t i j : ℕ) (there : t < c.moments) (at : get_or l.index (pair_of c g.from (a.from, t)) None ≡ Some i) (at' : get_or l.index (pair_of c (a.to, t) (b.from, moment g.to)) None ≡ Some j) where
        pub call_no_cost : (m.join (m.join (m.join (numbered l i).cost a.cost) (numbered l j).cost) b.cost ≡ g.cost → ⊥) → Finds m c l g (IsCallAt o w t) None
        call_no_cost far y k d =
            let x = call_parts o w t y k d in
            let ei : i ≡ x.front = some_eq _ _ _ at (front_index x) in
            let ej : j ≡ x.inside = some_eq _ _ _ at' (inside_there x) in
            far ((λ z. m.join (m.join (m.join (numbered l (ei z)).cost (sym (bracket_price o a row_is x.opens) z)) (numbered l (ej z)).cost) (sym (bracket_price w b rows.closing x.closes) z)) ∙ x.costs)

        pub call_wins : m.join (m.join (m.join (numbered l i).cost a.cost) (numbered l j).cost) b.cost ≡ g.cost → Wins m c l g (IsCallAt o w t) (Call i j o w t)
        call_wins costs =
            let fi = between_places ready g.from (a.from, t) on.0 (leaves_on ready.sound o a row_is t there) i at in
            let fj = between_places ready (a.to, t) (b.from, moment g.to) (enters_on ready.sound o a row_is t there) (leaves_on ready.sound w b rows.closing _ on.1.1) j at' in
            let ni = not_both a.kind opens in
            let nj = not_close b.kind rows.closes in
            let go-in : Transition m c (bare o) (numbered l i).to (numbered l j).from a.cost (Opens a.label) = bracket_goes o a row_is (Opens a.label) (effect_open a opens) ni.0 ni.1 (numbered l i).to (numbered l j).from (ap (λ (z : Place). mode z) fi.2) (subst (λ (n : ℕ). n < c.moments) (sym (ap (λ (z : Place). moment z) fi.2)) there) (fj.1 ∙ ap (λ (n : ℕ). (a.to, n)) (sym (ap (λ (z : Place). moment z) fi.2))) in
            let go-out : Transition m c (bare w) (numbered l j).to g.to b.cost (Closes a.label) = bracket_goes w b rows.closing (Closes a.label) (effect_close b rows.closes ∙ ap Closes rows.same) nj.0 nj.1 (numbered l j).to g.to (ap (λ (z : Place). mode z) fj.2) (subst (λ (n : ℕ). n < c.moments) (sym (ap (λ (z : Place). moment z) fj.2)) on.1.1) (place_eq g.to (b.to, moment (numbered l j).to) (sym rows.enters) (sym (ap (λ (z : Place). moment z) fj.2))) in
            let si = sym (settled_is l.records l.count i fi.0) in
            let sj = sym (settled_is l.records l.count j fj.0) in
            let is : call_record m (nth_record l i) (bare o) a.cost (nth_record l j) (bare w) b.cost g.to ≡ record_of (records l) (made g (Call i j o w t)) =
            λ z. record { from = fi.1 z; to = g.to; cost = costs z; derivation = by_call o w (moment (fi.2 z)); moves = (si z).moves ++ (bare o ∷ ((sj z).moves ++ (bare w ∷ []))) } in
            record {
              refers = (fi.0, fj.0);
              makes = record {
                candidate = subst (Candidate m c (records l)) is (call (nth_record l i) (nth_record l j) (in_logged l.records l.count i fi.0) go-in (in_logged l.records l.count j fj.0) go-out);
                starts = refl;
                ends = refl;
                costs = refl;
              };
              one = refl;
              first = λ y k d. subst (λ (z : Derivation). Lex (derivation_key (by_call o w t)) (derivation_key z)) (sym d) (lex_refl (derivation_key (by_call o w t)));
            }

      -- the earliest
      pub call_none_by : (xs : List ℕ) → Gathered (TightAt m c l g) 64 xs → (n : ℕ) → length xs ≤ n → NoneWhile w xs n → Finds m c l g (IsCallBy o w) None
      call_none_by xs all n h old y k (t, d) = let x = call_parts o w t y k d in let f = listed xs all x in let f1 = f.1 in old f.0 (omega arith) t (moment_in x) f.2 y k d

      pub call_wins_by : (xs : List ℕ) → Gathered (TightAt m c l g) 64 xs → (n : ℕ) (p : Place) (s : LogDerivation) → n < length xs → place_number c p ≡ get_or xs n 0 → moment p < c.moments → mode p ≡ a.from → NoneWhile w xs n → Wins m c l g (IsCallAt o w (moment p)) s → Wins m c l g (IsCallBy o w) s
      call_wins_by xs all n p s hn number_is there from old wins = wins_more m c l g (IsCallAt o w (moment p)) (IsCallBy o w) s wins (moment p, wins.one) (λ y k q.
          let x = call_parts o w q.0 y k q.1 in
          let f = listed xs all x in
          ⊎_elim
          (λ (h : f.0 < n). absurd (old f.0 h q.0 (moment_in x) f.2 y k q.1))
          (λ (h : n ≤ f.0). ⊎_elim
          (λ (e : f.0 ≡ n). inl (q.1 ∙ ap (by_call o w) (sym (same_moment xs n p number_is there q.0 (moment_in x) (ap (λ (z : ℕ). get_or xs z 0) (sym e) ∙ f.2)))))
          (λ (ne : f.0 ≡ n → ⊥). inr (later y q.0 q.1 (let up = all.ascending n f.0 (omega arith) f.1 in omega (arith, up, f.2, number_is, ap (λ (z : ℕ). z * c.moments) from))))
          (cases_eq f.0 n))
          (cases_lt f.0 n))
        where
          later : (y : Record) (t : ℕ) → y.derivation ≡ by_call o w t → moment p < t → Lex (derivation_key (derivation_of s)) (derivation_key y.derivation)
          later y t d h = subst₂ (λ (x z : Derivation). Lex (derivation_key x) (derivation_key z)) (sym wins.one) (sym d) (inr (refl, inr (refl, inr (refl, inl h))))

    -- which close rows serve
    pub brackets : (w : ℕ) (b : Row) → slice_get c.rows w ≡ Some b → closes_to b a.label (mode g.to) ≡ true → BracketRows c g o w a b
    brackets w b e f =
        let p1 = and_parts _ _ f in
        let p2 = and_parts _ _ p1.1 in
        record { opening = row_is; closing = e; opens = opens; closes = close_is _ p1.0; same = eqb-true _ _ p2.0; enters = eqb-true _ _ p2.1 }

    pub no_bracket : (w : ℕ) (b : Row) → slice_get c.rows w ≡ Some b → closes_to b a.label (mode g.to) ≡ false → Finds m c l g (IsCallBy o w) None
    no_bracket w b e f y k (t, d) =
        let x = call_parts o w t y k d in
        let z = close_kind b.kind x.bracket b.label (bracket_does w b e x.closes) in
        let to = bracket_enters w b e (closes_not_quiet x.bracket) x.closes in
        both_ways _ f (and_from _ _ (ap is_close z.0) (and_from _ _ (eq-eqb _ _ (sym z.1 ∙ bracket_is x)) (eq-eqb _ _ (sym (ap (λ (q : Place). mode q) to)))))

-- a call's rows, in their order
module _ (m : Meaning) (c : Content) (l : Log) (g : Goal) where
  pub no_close : (o w : ℕ) → slice_get c.rows w ≡ None → Finds m c l g (IsCallBy o w) None
  no_close o w e y k (t, d) = let x : CallParts m c l g o w t = call_of o w t k.candidate k.starts k.ends k.costs d in none_some _ _ e x.closes.found

  pub no_open : (o : ℕ) → ((a : Row) → slice_get c.rows o ≡ Some a → a.kind ≡ Open → ⊥) → Finds m c l g (IsCallOpenedBy o) None
  no_open o none y k (w, (t, d)) =
      let x : CallParts m c l g o w t = call_of o w t k.candidate k.starts k.ends k.costs d in
      none x.opens.by x.opens.found (open_kind x.opens.by.kind x.bracket x.opens.by.label x.opens.does).0

  abbrev pub NoCloseBelow : ℕ → ℕ → Type 0
  NoCloseBelow o n = (i : ℕ) → i < n → Finds m c l g (IsCallBy o i) None

  pub no_close_more : (o n : ℕ) → NoCloseBelow o n → Finds m c l g (IsCallBy o n) None → NoCloseBelow o (n + 1)
  no_close_more o n old new i h = ⊎_elim (λ (e : i ≡ n). subst (λ (j : ℕ). Finds m c l g (IsCallBy o j) None) (sym e) new) (λ (w : i ≡ n → ⊥). old i (omega arith)) (cases_eq i n)

  pub no_close_left : (o n : ℕ) → length c.rows ≤ n → NoCloseBelow o n → Finds m c l g (IsCallOpenedBy o) None
  no_close_left o n h old y k (w, (t, d)) =
      let x : CallParts m c l g o w t = call_of o w t k.candidate k.starts k.ends k.costs d in
      let r = goes_row x.closes in
      old w (omega arith) y k (t, d)

  pub first_close : (o n : ℕ) (s : LogDerivation) → NoCloseBelow o n → Wins m c l g (IsCallBy o n) s → Wins m c l g (IsCallOpenedBy o) s
  first_close o n s old w = wins_more m c l g (IsCallBy o n) (IsCallOpenedBy o) s w (n, w.one) (λ y k q. ⊎_elim
      (λ (h : q.0 < n). absurd (old q.0 h y k q.1))
      (λ (h : n ≤ q.0). ⊎_elim
      (λ (e : q.0 ≡ n). inl (q.1.0, q.1.1 ∙ ap (λ (z : ℕ). by_call o z q.1.0) e))
      (λ (ne : q.0 ≡ n → ⊥). inr (subst₂ (λ (x z : Derivation). Lex (derivation_key x) (derivation_key z)) (sym w.one.1) (sym q.1.1) (inr (refl, inr (refl, inl (omega arith))))))
      (cases_eq q.0 n))
      (cases_lt q.0 n))

  abbrev pub NoOpenBelow : ℕ → Type 0
  NoOpenBelow n = (i : ℕ) → i < n → Finds m c l g (IsCallOpenedBy i) None

  pub no_open_more : (n : ℕ) → NoOpenBelow n → Finds m c l g (IsCallOpenedBy n) None → NoOpenBelow (n + 1)
  no_open_more n old new i h = ⊎_elim (λ (e : i ≡ n). subst (λ (j : ℕ). Finds m c l g (IsCallOpenedBy j) None) (sym e) new) (λ (w : i ≡ n → ⊥). old i (omega arith)) (cases_eq i n)

  pub no_open_left : (n : ℕ) → length c.rows ≤ n → NoOpenBelow n → Finds m c l g IsCall None
  no_open_left n h old y k (o, (w, (t, d))) =
      let x : CallParts m c l g o w t = call_of o w t k.candidate k.starts k.ends k.costs d in
      let r = goes_row x.opens in
      old o (omega arith) y k (w, (t, d))

  pub first_open : (n : ℕ) (s : LogDerivation) → NoOpenBelow n → Wins m c l g (IsCallOpenedBy n) s → Wins m c l g IsCall s
  first_open n s old w = wins_more m c l g (IsCallOpenedBy n) IsCall s w (n, w.one) (λ y k q. ⊎_elim
      (λ (h : q.0 < n). absurd (old q.0 h y k q.1))
      (λ (h : n ≤ q.0). ⊎_elim
      (λ (e : q.0 ≡ n). inl (q.1.0, (q.1.1.0, q.1.1.1 ∙ ap (λ (z : ℕ). by_call z q.1.0 q.1.1.0) e)))
      (λ (ne : q.0 ≡ n → ⊥). inr (subst₂ (λ (x z : Derivation). Lex (derivation_key x) (derivation_key z)) (sym w.one.1.1) (sym q.1.1.1) (inr (refl, inl (omega arith)))))
      (cases_eq q.0 n))
      (cases_lt q.0 n))
