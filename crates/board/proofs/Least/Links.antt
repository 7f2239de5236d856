-- The least costs of links, and of the candidates that follow them.
use Rattle.std.proofs.Common.{◌≡◌, ℕ, ◌+◌, ◌*◌, ◌<◌, ◌≤◌, Bool, true, false, ◌⊎◌, List, length, get_or, set, Some, None, sym, refl, ap, ◌∙◌, subst, subst₂, ap₂, inl, inr, ⊎_elim, arith, get_or-set_other, get_or-set_same}
use Rattle.std.proofs.lemmas.Bool.{cases_eq, cond-true, cond-false, both_ways, and_parts, and_from, eqb-true, eq-eqb}
use Rattle.std.specs.List.{slice_get}
use Rattle.costs.specs.Meaning.{Meaning, Lawful, Cost, NoDearer}
use Rattle.board.specs.declared.row.Row.{Row}
use Rattle.board.specs.declared.moves.Effect.TheVariants.{Quiet, Opens, Closes}
use Rattle.board.specs.declared.log.Log.{Log}
use Rattle.board.specs.declared.settling.Way.{Way}
use Rattle.board.specs.declared.settling.Waiting.{Waiting}
use Rattle.board.specs.Content.{Content}
use Rattle.board.specs.Moves.{Place, mode, moment, place_number, effect, Transition}
use Rattle.board.specs.Settling.{Record, bare, step_record, call_record, step, call}
use Rattle.board.specs.Logged.{records}
use Rattle.board.specs.Logs.{numbered, nth_record, Ready, pair_of}
use Rattle.board.specs.Lowering.{Attained, lowered, Lowered, Among, Just}
use Rattle.board.specs.Minima.{Link, CandidateAt, FollowedBy, FollowedFrom, Linked, PlacesLeast, BracketedBy, BracketedIf, BracketedOn, BracketedIn}
use Rattle.board.specs.Winning.{is_close, closes_from}
use Rattle.board.proofs.Basics.Membership.{some_eq, none_some}
use Rattle.board.proofs.Paths.Standing.{enters_on, transition_from, transition_to}
use Rattle.board.proofs.Paths.Decomposing.{transition_cost}
use Rattle.board.proofs.Rounds.Diagonal.{place_eq}
use Rattle.board.proofs.Rounds.Uniqueness.{number_eq, bracket_alone, opens_not_quiet, closes_not_quiet, transition_back}
use Rattle.board.proofs.Rounds.Logging.{in_logged, logged_in}
use Rattle.board.proofs.Rounds.Minimal.{Priced, candidate_cost}
use Rattle.board.proofs.Least.Bracketing.{goes_row, small_number, bracket_leaves, bracket_enters, bracket_price, bracket_does, bracket_goes, effect_close, not_close, close_kind, close_is}
use Rattle.board.proofs.Least.Plain.{plain_cost, plain_in}
use Rattle.board.proofs.Least.Lowering.{lowered_one, lowered_for, lowered_same, attained_cost, worst_or}

module _ {m : Meaning} {c : Content} {l : Log} (laws : Lawful m) (ready : Ready m c l) where
  -- the records cost costs
  pub all_priced : Priced m (records l)
  all_priced a h = let r = logged_in l.records l.count a h in subst (λ (x : Record). Cost m x.cost) (sym r.2) (ready.book.kept r.0 r.1).price

  pub record_cost : (i : ℕ) → i < l.count → Cost m (numbered l i).cost
  record_cost i h = (ready.book.kept i h).price

  -- a record between brackets
  pub bracketed_fits : (j : ℕ) → j < l.count → (o w p k : ℕ) → BracketedBy m c (numbered l j) o w p k → (p < 4096) × Cost m k
  bracketed_fits j h o w p k x =
      let a = small_number ready.sound x.place (transition_from ready.sound x.opens) in
      let b = small_number ready.sound x.exit (transition_to ready.sound x.closes) in
      (omega (arith, x.at), subst (Cost m) (sym x.cost_is) (laws.join_cost _ _ (transition_cost laws ready.sound x.opens) (laws.join_cost _ _ (record_cost j h) (transition_cost laws ready.sound x.closes))))

  pub link_cost : (p k : ℕ) → Link m c l p k → Cost m k
  link_cost p k (inl x) = plain_cost laws ready.sound p k x
  link_cost p k (inr (j, h, o, w, x)) = (bracketed_fits j h o w p k x).1

  pub link_in : (p k : ℕ) → Link m c l p k → p < 4096
  link_in p k (inl x) = plain_in laws ready.sound p k x
  link_in p k (inr (j, h, o, w, x)) = (bracketed_fits j h o w p k x).0

  pub from_small : (i : ℕ) → i < l.count → place_number c (numbered l i).from < 64
  from_small i h = small_number ready.sound _ (ready.book.kept i h).from_on

  pub to_small : (i : ℕ) → i < l.count → place_number c (numbered l i).to < 64
  to_small i h = small_number ready.sound _ (ready.book.kept i h).to_on

  -- four costs joined from the left or by a link
  pub joined_right : (a k b n : ℕ) → Cost m a → Cost m k → Cost m b → Cost m n → m.join a (m.join k (m.join b n)) ≡ m.join (m.join (m.join a k) b) n
  joined_right a k b n ha hk hb hn = sym (laws.assoc a k (m.join b n) ha hk (laws.join_cost b n hb hn)) ∙ sym (laws.assoc (m.join a k) b n (laws.join_cost a k ha hk) hb hn)

  -- a record and then a link make a candidate
  followed_candidate : (i q k : ℕ) → i < l.count → q < 64 → Link m c l (place_number c (numbered l i).to * 64 + q) k → CandidateAt m c l (place_number c (numbered l i).from * 64 + q) (m.join (numbered l i).cost k)
  followed_candidate i q k h hq (inl (v, x)) =
      let b = small_number ready.sound x.exit (transition_to ready.sound x.goes) in
      let place : (numbered l i).to ≡ x.place = number_eq c _ _ (ready.book.kept i h).to_on (transition_from ready.sound x.goes) (omega (arith, x.at)) in
      record {
        it = step_record m (nth_record l i) v x.exit k;
        candidate = step (nth_record l i) (in_logged l.records l.count i h) (subst (λ (p : Place). Transition m c v p x.exit k Quiet) (sym place) x.goes);
        at = omega (arith, x.at);
        cost_is = refl;
      }
  followed_candidate i q k h hq (inr (j, hj, o, w, x)) =
      let b = small_number ready.sound x.exit (transition_to ready.sound x.closes) in
      let place : (numbered l i).to ≡ x.place = number_eq c _ _ (ready.book.kept i h).to_on (transition_from ready.sound x.opens) (omega (arith, x.at)) in
      record {
        it = call_record m (nth_record l i) (bare o) x.price (nth_record l j) (bare w) x.last x.exit;
        candidate = call (nth_record l i) (nth_record l j) (in_logged l.records l.count i h) (subst (λ (p : Place). Transition m c (bare o) p (numbered l j).from x.price (Opens x.bracket)) (sym place) x.opens) (in_logged l.records l.count j hj) x.closes;
        at = omega (arith, x.at);
        cost_is = ap (m.join (numbered l i).cost) x.cost_is ∙ joined_right (numbered l i).cost x.price (numbered l j).cost x.last (record_cost i h) (transition_cost laws ready.sound x.opens) (record_cost j hj) (transition_cost laws ready.sound x.closes);
      }

  pub candidate_cost_at : (p k : ℕ) → CandidateAt m c l p k → Cost m k
  candidate_cost_at p k x = subst (Cost m) (sym x.cost_is) (candidate_cost laws ready.sound (all_priced) x.candidate)

  pub attained_cost_within : (xs : List ℕ) → length xs ≡ 4096 → Attained m (CandidateAt m c l) xs → (p : ℕ) → p < 4096 → Cost m (get_or xs p 0)
  attained_cost_within xs long a p h = attained_cost laws candidate_cost_at xs a p (omega arith)

  pub followed_waits : (i q k : ℕ) → i < l.count → q < 64 → (k ≡ m.worst) ⊎ Link m c l (place_number c (numbered l i).to * 64 + q) k → (m.join (numbered l i).cost k ≡ m.worst) ⊎ CandidateAt m c l (place_number c (numbered l i).from * 64 + q) (m.join (numbered l i).cost k)
  followed_waits i q k h hq (inl e) = inl (ap (m.join (numbered l i).cost) e ∙ laws.worst_right _ (record_cost i h))
  followed_waits i q k h hq (inr x) = inr (followed_candidate i q k h hq x)

  -- following the links of a list
  module _ (links : List ℕ) (long : length links ≡ 4096) (attained : Attained m (Link m c l) links) (i : ℕ) (within : i < l.count) where
    link_at : (q : ℕ) → q < 64 → place_number c (numbered l i).to * 64 + q < length links
    link_at q h = let a = to_small i within in omega arith

    pub follow_fits : (xs : List ℕ) → length xs ≡ 4096 → (n p k : ℕ) → n ≤ 64 → Among (FollowedBy m c links (numbered l i)) n p k → (p < length xs) × Cost m k
    follow_fits xs wide n p k h (q, hq, (at, is)) =
        let a = from_small i within in
        (omega arith, subst (Cost m) (sym is) (laws.join_cost _ _ (record_cost i within) (attained_cost laws link_cost links attained _ (link_at q (omega arith)))))

    pub follow_waits : (q p k : ℕ) → q < 64 → p ≡ place_number c (numbered l i).from * 64 + q → k ≡ m.join (numbered l i).cost (get_or links (place_number c (numbered l i).to * 64 + q) 0) → (k ≡ m.worst) ⊎ CandidateAt m c l p k
    follow_waits q p k h at is = subst₂ (λ (s n : ℕ). (n ≡ m.worst) ⊎ CandidateAt m c l s n) (sym at) (sym is) (followed_waits i q _ within h (attained _ (link_at q h)))

    pub follow_only : {xs ys : List ℕ} (q p k : ℕ) → p ≡ place_number c (numbered l i).from * 64 + q → k ≡ m.join (numbered l i).cost (get_or links (place_number c (numbered l i).to * 64 + q) 0) → Lowered m (CandidateAt m c l) xs ys (Just p k) → Lowered m (CandidateAt m c l) xs ys (FollowedBy m c links (numbered l i) q)
    follow_only q p k at is g = lowered_for g (λ p' k' x. (x.0 ∙ sym at, x.1 ∙ sym is))

  -- following one link from each record that ends at its place
  module _ (r q cost : ℕ) (hr : r < 64) (hq : q < 64) (link : (cost ≡ m.worst) ⊎ Link m c l (r * 64 + q) cost) where
    link_is_cost : Cost m cost
    link_is_cost = worst_or laws link_cost cost (r * 64 + q) link

    pub front_found : (s i : ℕ) → get_or l.index (s * 64 + r) None ≡ Some i → (i < l.count) × (place_number c (numbered l i).from ≡ s) × (place_number c (numbered l i).to ≡ r)
    front_found s i e =
        let f = ready.book.finds (s * 64 + r) i e in
        let f1 = f.1 in
        let a = to_small i f.0 in
        (f.0, omega arith, omega arith)

    pub follow_to_fits : (xs : List ℕ) → length xs ≡ 4096 → (n p k : ℕ) → n ≤ 64 → Among (FollowedFrom m l r q cost) n p k → (p < length xs) × Cost m k
    follow_to_fits xs wide n p k h (s, hs, x) =
        let f = front_found s x.front x.front_is in
        let at = x.at in
        (omega arith, subst (Cost m) (sym x.cost_is) (laws.join_cost _ _ (record_cost x.front f.0) link_is_cost))

    pub follow_to_waits : (s i p k : ℕ) → get_or l.index (s * 64 + r) None ≡ Some i → p ≡ s * 64 + q → k ≡ m.join (numbered l i).cost cost → (k ≡ m.worst) ⊎ CandidateAt m c l p k
    follow_to_waits s i p k found at is =
        let f = front_found s i found in
        let link' = subst (λ (n : ℕ). (cost ≡ m.worst) ⊎ Link m c l (n * 64 + q) cost) (sym f.2) link in
        subst₂ (λ (a n : ℕ). (n ≡ m.worst) ⊎ CandidateAt m c l a n) (ap (λ (n : ℕ). n * 64 + q) f.1 ∙ sym at) (sym is) (followed_waits i q cost f.0 hq link')

    pub follow_to_only : {xs ys : List ℕ} (s i p k : ℕ) → get_or l.index (s * 64 + r) None ≡ Some i → p ≡ s * 64 + q → k ≡ m.join (numbered l i).cost cost → Lowered m (CandidateAt m c l) xs ys (Just p k) → Lowered m (CandidateAt m c l) xs ys (FollowedFrom m l r q cost s)
    follow_to_only s i p k found at is g = lowered_for g (λ p' k' x. (x.at ∙ sym at, x.cost_is ∙ ap (λ (n : ℕ). m.join (numbered l n).cost cost) (some_eq _ _ _ x.front_is found) ∙ sym is))

    pub follow_to_none : (xs : List ℕ) (s : ℕ) → Attained m (CandidateAt m c l) xs → get_or l.index (s * 64 + r) None ≡ None → Lowered m (CandidateAt m c l) xs xs (FollowedFrom m l r q cost s)
    follow_to_none xs s ok found = lowered_same laws candidate_cost_at xs ok (λ p k x. none_some _ _ found x.front_is)

    -- a link that got cheaper, and what follows it
    module _ {links : List ℕ} {waiting : Waiting} (ok : Linked m c l links waiting) where
      link_slot : r * 64 + q < length links
      link_slot = omega (arith, ok.held_links.long)

      pub link_lower : (ys : List ℕ) → ys ≡ lowered m links (r * 64 + q) cost → Lowered m (Link m c l) links ys (Just (r * 64 + q) cost)
      link_lower ys e = lowered_one laws link_cost links ys (r * 64 + q) cost ok.held_links.attained link_slot link e

      -- it did not
      pub link_kept : (ys : List ℕ) → ys ≡ lowered m links (r * 64 + q) cost → m.no_dearer (get_or links (r * 64 + q) 0) cost ≡ true → Linked m c l ys waiting
      link_kept ys e h = subst (λ (zs : List ℕ). Linked m c l zs waiting) (sym (e ∙ cond-true _ _ _ h)) ok

      -- it did
      pub link_followed : (ys : List ℕ) (waits : Waiting) → ys ≡ lowered m links (r * 64 + q) cost → m.no_dearer (get_or links (r * 64 + q) 0) cost ≡ false → Lowered m (CandidateAt m c l) waiting.costs waits.costs (Among (FollowedFrom m l r q cost) 64) → PlacesLeast m l waits → Linked m c l ys waits
      link_followed ys waits e h w places = record {
        held_links = record { long = (link_lower ys e).long ∙ ok.held_links.long; attained = (link_lower ys e).attained };
        held_waiting = record { long = w.long ∙ ok.held_waiting.long; attained = w.attained; least = places };
        followed = λ i hi p k x. kept i hi p k x;
      }
        where
          ys_is : ys ≡ set links (r * 64 + q) cost
          ys_is = e ∙ cond-false _ _ _ h

          kept : (i : ℕ) → i < l.count → (p k : ℕ) → Among (FollowedBy m c ys (numbered l i)) 64 p k → NoDearer m (get_or waits.costs p 0) k
          kept i hi p k (u, hu, (at, is)) = ⊎_elim
              (λ (z : place_number c (numbered l i).to * 64 + u ≡ r * 64 + q).
              let new = get_or-set_same links (r * 64 + q) cost 0 link_slot in
              let price : get_or ys (place_number c (numbered l i).to * 64 + u) 0 ≡ cost = ap (λ (zs : List ℕ). get_or zs (place_number c (numbered l i).to * 64 + u) 0) ys_is ∙ ap (λ (n : ℕ). get_or (set links (r * 64 + q) cost) n 0) z ∙ new in
              let a = from_small i hi in
              let there : u ≡ q = omega arith in
              let ends : place_number c (numbered l i).to ≡ r = omega arith in
              w.bounds p k (place_number c (numbered l i).from, a, record { front = i; front_is = ap (λ (n : ℕ). get_or l.index (place_number c (numbered l i).from * 64 + n) None) (sym ends) ∙ ready.book.found i hi; at = at ∙ ap (λ (n : ℕ). place_number c (numbered l i).from * 64 + n) there; cost_is = is ∙ ap (m.join (numbered l i).cost) price }))
              (λ (n : place_number c (numbered l i).to * 64 + u ≡ r * 64 + q → ⊥).
              let price : get_or ys (place_number c (numbered l i).to * 64 + u) 0 ≡ get_or links (place_number c (numbered l i).to * 64 + u) 0 = ap (λ (zs : List ℕ). get_or zs (place_number c (numbered l i).to * 64 + u) 0) ys_is ∙ get_or-set_other links (r * 64 + q) _ cost 0 n in
              let old = ok.followed i hi p k (u, hu, (at, is ∙ ap (m.join (numbered l i).cost) price)) in
              let fits = follow_fits links ok.held_links.long ok.held_links.attained i hi waiting.costs ok.held_waiting.long 64 p k (omega arith) (u, hu, (at, is ∙ ap (m.join (numbered l i).cost) price)) in
              let fits0 = fits.0 in
              laws.trans _ _ _ (attained_cost laws candidate_cost_at waits.costs w.attained p (omega (arith, w.long))) (attained_cost laws candidate_cost_at waiting.costs ok.held_waiting.attained p fits.0) fits.1 (w.lower p fits.0) old)
              (cases_eq (place_number c (numbered l i).to * 64 + u) (r * 64 + q))

-- a record between an open and a close row
module _ {m : Meaning} {c : Content} {l : Log} (laws : Lawful m) (ready : Ready m c l) (j : ℕ) (within : j < l.count) (o : ℕ) where
  -- no close row, or one that does not follow on
  module _ (place : Place) (way : Way) (opens : Transition m c (bare o) place (numbered l j).from way.cost (Opens way.bracket)) (w : ℕ) where
    -- what opens before the record does so from there
    same_opening : (p k : ℕ) (x : BracketedBy m c (numbered l j) o w p k) → (x.place ≡ place) × (x.price ≡ way.cost) × (x.bracket ≡ way.bracket)
    same_opening p k x =
        let back = transition_back x.opens opens in
        let shape : Opens x.bracket ≡ Opens way.bracket = x.opens.does ∙ ap (λ (r : Row). effect r) (some_eq _ _ _ x.opens.found opens.found) ∙ sym opens.does in
        (back.0, back.1, cc)

    pub no_close_row : slice_get c.rows w ≡ None → (p k : ℕ) → BracketedBy m c (numbered l j) o w p k → ⊥
    no_close_row e p k x = none_some _ _ e x.closes.found

    module _ (b : Row) (row_is : slice_get c.rows w ≡ Some b) where
      pub no_close_from : closes_from b way.bracket (mode (numbered l j).to) ≡ false → (p k : ℕ) → BracketedBy m c (numbered l j) o w p k → ⊥
      no_close_from e p k x =
          let z = close_kind b.kind x.bracket b.label (bracket_does w b row_is x.closes) in
          both_ways _ e (and_from _ _ (ap is_close z.0) (and_from _ _ (eq-eqb _ _ (sym z.1 ∙ (same_opening p k x).2)) (eq-eqb _ _ (sym (bracket_leaves w b row_is x.closes)))))

      module _ (follows : closes_from b way.bracket (mode (numbered l j).to) ≡ true) where
        closes : Transition m c (bare w) (numbered l j).to (b.to, moment (numbered l j).to) b.cost (Closes way.bracket)
        closes =
            let p1 = and_parts _ _ follows in
            let p2 = and_parts _ _ p1.1 in
            let kind = close_is _ p1.0 in
            let other = not_close b.kind kind in
            bracket_goes w b row_is (Closes way.bracket) (effect_close b kind ∙ ap Closes (eqb-true _ _ p2.0)) other.0 other.1 (numbered l j).to (b.to, moment (numbered l j).to) (sym (eqb-true _ _ p2.1)) (ready.book.kept j within).to_on.1 refl

        -- the numbers are small
        pub bracket_small : (place_number c place < 64) × (place_number c (b.to, moment (numbered l j).to) < 64)
        bracket_small = (small_number ready.sound place (transition_from ready.sound opens), small_number ready.sound _ (enters_on ready.sound w b row_is _ (ready.book.kept j within).to_on.1))

        pub bracket_link : (k : ℕ) → k ≡ m.join way.cost (m.join (numbered l j).cost b.cost) → (k ≡ m.worst) ⊎ Link m c l (place_number c place * 64 + place_number c (b.to, moment (numbered l j).to)) k
        bracket_link k e = inr (inr (j, within, o, w, record { place = place; exit = (b.to, moment (numbered l j).to); bracket = way.bracket; price = way.cost; last = b.cost; opens = opens; closes = closes; at = refl; cost_is = e }))

        -- it is the only one
        pub bracket_only : (k : ℕ) → k ≡ m.join way.cost (m.join (numbered l j).cost b.cost) → (p' k' : ℕ) → BracketedBy m c (numbered l j) o w p' k' → Just (place_number c place * 64 + place_number c (b.to, moment (numbered l j).to)) k p' k'
        bracket_only k e p' k' x =
            let s = same_opening p' k' x in
            let exit = bracket_enters w b row_is (closes_not_quiet x.bracket) x.closes in
            let last = bracket_price w b row_is x.closes in
            (x.at ∙ ap₂ (λ (r q : Place). pair_of c r q) s.0 exit, x.cost_is ∙ ap₂ (λ (r q : ℕ). m.join r (m.join (numbered l j).cost q)) s.1 last ∙ sym e)

  pub bracket_none : (links : List ℕ) (w : ℕ) → Attained m (Link m c l) links → ((p k : ℕ) → BracketedBy m c (numbered l j) o w p k → ⊥) → Lowered m (Link m c l) links links (BracketedBy m c (numbered l j) o w)
  bracket_none links w ok none = lowered_same laws (link_cost laws ready) links ok none

  -- with each marked close row
  module _ (leads : List Bool) where
    pub on_fits : (links : List ℕ) → length links ≡ 4096 → (n p k : ℕ) → Among (BracketedIf m c leads (numbered l j) o) n p k → (p < length links) × Cost m k
    on_fits links long n p k (w, h, x) = let f = bracketed_fits laws ready j within o w p k x.by in let f0 = f.0 in (omega arith, f.1)

    pub on_all : (p k : ℕ) → BracketedOn m c leads (numbered l j) o p k → Among (BracketedIf m c leads (numbered l j) o) (length c.rows) p k
    on_all p k (w, x) = (w, goes_row x.by.closes, x)

    pub on_none : (links : List ℕ) → Attained m (Link m c l) links → ((w p k : ℕ) → BracketedBy m c (numbered l j) o w p k → ⊥) → Lowered m (Link m c l) links links (BracketedOn m c leads (numbered l j) o)
    on_none links ok none = lowered_same laws (link_cost laws ready) links ok (λ p k x. none x.0 p k x.1.by)

  -- the open row
  pub no_open_row : slice_get c.rows o ≡ None → (w p k : ℕ) → BracketedBy m c (numbered l j) o w p k → ⊥
  no_open_row e w p k x = none_some _ _ e x.opens.found

  module _ (a : Row) (row_is : slice_get c.rows o ≡ Some a) where
    -- where it opens before the record
    opens_where : (w p k : ℕ) (x : BracketedBy m c (numbered l j) o w p k) → x.place ≡ (a.from, moment (numbered l j).from)
    opens_where w p k x = place_eq x.place (a.from, moment (numbered l j).from) (bracket_leaves o a row_is x.opens) (bracket_alone (opens_not_quiet x.bracket) x.opens).1

    pub no_way : ((q : Place) (k n : ℕ) → Transition m c (bare o) (a.from, moment (numbered l j).from) q k (Opens n) → ⊥) → (w p k : ℕ) → BracketedBy m c (numbered l j) o w p k → ⊥
    no_way never w p k x = never _ _ _ (subst (λ (s : Place). Transition m c (bare o) s (numbered l j).from x.price (Opens x.bracket)) (opens_where w p k x) x.opens)

    pub leads_elsewhere : (a.to ≡ mode (numbered l j).from → ⊥) → (w p k : ℕ) → BracketedBy m c (numbered l j) o w p k → ⊥
    leads_elsewhere far w p k x = far (ap (λ (r : Row). r.to) (some_eq _ _ _ row_is x.opens.found) ∙ sym x.opens.enters)

    pub leads_there : (way : Way) → a.to ≡ mode (numbered l j).from → Transition m c (bare o) (a.from, moment (numbered l j).from) way.to way.cost (Opens way.bracket) → Transition m c (bare o) (a.from, moment (numbered l j).from) (numbered l j).from way.cost (Opens way.bracket)
    leads_there way meets goes =
        let mode-is : mode way.to ≡ mode (numbered l j).from = goes.enters ∙ ap (λ (r : Row). r.to) (some_eq _ _ _ goes.found row_is) ∙ meets in
        subst (λ (q : Place). Transition m c (bare o) (a.from, moment (numbered l j).from) q way.cost (Opens way.bracket)) (place_eq way.to (numbered l j).from mode-is (sym (bracket_alone (opens_not_quiet way.bracket) goes).1)) goes

-- with each marked open row
module _ {m : Meaning} {c : Content} {l : Log} (laws : Lawful m) (ready : Ready m c l) (j : ℕ) (within : j < l.count) (leads : List Bool) where
  pub in_fits : (links : List ℕ) → length links ≡ 4096 → (n p k : ℕ) → Among (BracketedOn m c leads (numbered l j)) n p k → (p < length links) × Cost m k
  in_fits links long n p k (o, h, (w, x)) = let f = bracketed_fits laws ready j within o w p k x.by in let f0 = f.0 in (omega arith, f.1)

  pub in_all : (p k : ℕ) → BracketedIn m c leads (numbered l j) p k → Among (BracketedOn m c leads (numbered l j)) (length c.rows) p k
  in_all p k (o, (w, x)) = (o, goes_row x.by.opens, (w, x))

  pub in_unmarked : (links : List ℕ) (o : ℕ) → Attained m (Link m c l) links → get_or leads o false ≡ false → Lowered m (Link m c l) links links (BracketedOn m c leads (numbered l j) o)
  in_unmarked links o ok e = lowered_same laws (link_cost laws ready) links ok (λ p k x. both_ways _ e x.1.opener)

  pub if_unmarked : (links : List ℕ) (o w : ℕ) → Attained m (Link m c l) links → get_or leads w false ≡ false → Lowered m (Link m c l) links links (BracketedIf m c leads (numbered l j) o w)
  if_unmarked links o w ok e = lowered_same laws (link_cost laws ready) links ok (λ p k x. both_ways _ e x.closer)
