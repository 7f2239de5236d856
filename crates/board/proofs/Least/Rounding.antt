-- What a round takes is the round's.
use Rattle.std.proofs.Common.{◌≡◌, ℕ, ◌+◌, ◌*◌, ◌/◌, ◌%◌, ◌<◌, ◌≤◌, ◌⊎◌, List, get_or, Some, None, Option, sym, refl, ap, ◌∙◌, subst, subst₂, ap₂, inl, inr, ⊎_elim, arith}
use lib.Arith.{digits_div, digits_mod}
use Rattle.std.proofs.lemmas.Bool.{cases_eq, cases_lt, both_ways}
use Rattle.costs.specs.Meaning.{Meaning, Lawful, Cost, NoDearer}
use Rattle.board.specs.declared.moves.Move.{Move}
use Rattle.board.specs.declared.moves.Effect.TheVariants.{Quiet, Opens, Closes}
use Rattle.board.specs.declared.log.Log.{Log}
use Rattle.board.specs.declared.log.Derivation.{Derivation as LogDerivation}
use Rattle.board.specs.declared.settling.Goal.{Goal}
use Rattle.board.specs.declared.settling.Minima.{Minima}
use Rattle.board.specs.Content.{Content}
use Rattle.board.specs.Moves.{Place, moment, On, place_number, Transition}
use Rattle.board.specs.Settling.{Record, Derivation, bare, Candidate, step, call, Cheaper, Lex, key, derivation_key, Precedes, Unrecorded, Round}
use Rattle.board.specs.Logged.{record_of, records}
use Rattle.board.specs.Logs.{numbered, nth_record, Kept, pair_of}
use Rattle.board.specs.Minima.{Link, CandidateAt, SettlingInvariant}
use Rattle.board.specs.Winning.{LeastPair, LeastOf, GoalOn, Makes, made, Wins, Finds, Any, IsStep, IsCall}
use Rattle.board.proofs.Basics.Membership.{none_some}
use Rattle.board.proofs.Basics.Laws.{no_dearer_same, cheaper_or}
use Rattle.board.proofs.Rounds.Minimal.{candidate_cost}
use Rattle.board.proofs.Paths.Standing.{transition_to}
use Rattle.board.proofs.Paths.Decomposing.{transition_cost}
use Rattle.board.proofs.Rounds.Uniqueness.{number_eq, bracket_alone, opens_not_quiet, closes_not_quiet}
use Rattle.board.proofs.Rounds.Candidates.{move_eq}
use Rattle.board.proofs.Rounds.Logging.{logged_in, in_logged}
use Rattle.board.proofs.Basics.Numbers.{pair_in, number_in, pair_parts}
use Rattle.board.proofs.Least.Lowering.{attained_cost}
use Rattle.board.proofs.Least.Bracketing.{small_number, place_unique}
use Rattle.board.proofs.Least.Links.{all_priced, link_cost, record_cost, candidate_cost_at, joined_right}
use Rattle.board.proofs.Least.Winning.{wins_more}

-- a candidate is a step or a call
pub step_or_call : {m : Meaning} {c : Content} {log : List Record} {y : Record} → Candidate m c log y → IsStep y.derivation ⊎ IsCall y.derivation
step_or_call (step a {v} i t) = inl (v, refl)
step_or_call (call a b {o} {w} i t j u) = inr (o.row, (w.row, (_, refl)))

-- the first step wins, and where there is none the first call
module _ (m : Meaning) (c : Content) (l : Log) (g : Goal) where
  pub step_wins_all : (s : LogDerivation) → Wins m c l g IsStep s → Wins m c l g Any s
  step_wins_all s w = wins_more m c l g IsStep Any s w tt (λ y k q. ⊎_elim (λ p. inl p) (λ p. inr (subst₂ (λ (x z : Derivation). Lex (derivation_key x) (derivation_key z)) (sym w.one.1) (sym p.1.1.1) (inl (omega arith)))) (step_or_call k.candidate))

  pub call_wins_all : (s : LogDerivation) → Finds m c l g IsStep None → Wins m c l g IsCall s → Wins m c l g Any s
  call_wins_all s none w = wins_more m c l g IsCall Any s w tt (λ y k q. ⊎_elim (λ p. absurd (none y k p)) (λ p. inl p) (step_or_call k.candidate))

  pub none_makes : Finds m c l g IsStep None → Finds m c l g IsCall None → (y : Record) → Makes m c l g y → ⊥
  none_makes steps calls y k = ⊎_elim (steps y k) (calls y k) (step_or_call k.candidate)

module _ {m : Meaning} {c : Content} {l : Log} {s : Minima} (laws : Lawful m) (state : SettlingInvariant m c l s) where
  pub waiting_costs : (p : ℕ) → p < 4096 → Cost m (get_or s.waiting.costs p 0)
  waiting_costs p h = attained_cost laws (candidate_cost_at laws state.ready) s.waiting.costs state.linked.held_waiting.attained p (omega (arith, state.linked.held_waiting.long))

  -- a record with a link behind it costs no less than what waits
  link_covered : (i q k : ℕ) → i < l.count → q < 64 → Link m c l (place_number c (numbered l i).to * 64 + q) k → NoDearer m (get_or s.waiting.costs (place_number c (numbered l i).from * 64 + q) 0) (m.join (numbered l i).cost k)
  link_covered i q k h hq x =
      let a = small_number state.ready.sound _ (state.ready.book.kept i h).from_on in
      let b = small_number state.ready.sound _ (state.ready.book.kept i h).to_on in
      let ha = record_cost laws state.ready i h in
      let hl = attained_cost laws (link_cost laws state.ready) s.links state.linked.held_links.attained (place_number c (numbered l i).to * 64 + q) (omega (arith, state.linked.held_links.long)) in
      let hk = link_cost laws state.ready _ k x in
      laws.trans _ _ _ (waiting_costs _ (omega arith)) (laws.join_cost _ _ ha hl) (laws.join_cost _ _ ha hk) (state.linked.followed i h _ _ (q, hq, (refl, refl))) (laws.mono_right _ _ _ hl hk ha (state.links_bounds _ k x))

  -- no candidate is cheaper than what waits for its pair
  pub covered : {y : Record} → Candidate m c (records l) y → NoDearer m (get_or s.waiting.costs (pair_of c y.from y.to) 0) y.cost
  covered (step a {v} {q} {k} i t) =
      let r = logged_in l.records l.count a i in
      let t' = subst (λ (p : Place). Transition m c v p q k Quiet) (ap (λ (x : Record). x.to) r.2) t in
      let hq = small_number state.ready.sound q (transition_to state.ready.sound t) in
      subst (λ (x : Record). NoDearer m (get_or s.waiting.costs (pair_of c x.from q) 0) (m.join x.cost k)) (sym r.2) (link_covered r.0 (place_number c q) k r.1 hq (inl (v, record { place = (numbered l r.0).to; exit = q; goes = t'; at = refl })))
  covered (call a b {o} {w} {q} {k} {l = last} {n} i t j u) =
      let ra = logged_in l.records l.count a i in
      let rb = logged_in l.records l.count b j in
      let mo : o ≡ bare o.row = move_eq o (bare o.row) refl (bracket_alone (opens_not_quiet n) t).0 in
      let mw : w ≡ bare w.row = move_eq w (bare w.row) refl (bracket_alone (closes_not_quiet n) u).0 in
      let t' : Transition m c (bare o.row) (numbered l ra.0).to (numbered l rb.0).from k (Opens n) = subst (λ (z : Move). Transition m c z (numbered l ra.0).to (numbered l rb.0).from k (Opens n)) mo (subst₂ (λ (p r : Place). Transition m c o p r k (Opens n)) (ap (λ (x : Record). x.to) ra.2) (ap (λ (x : Record). x.from) rb.2) t) in
      let u' : Transition m c (bare w.row) (numbered l rb.0).to q last (Closes n) = subst (λ (z : Move). Transition m c z (numbered l rb.0).to q last (Closes n)) mw (subst (λ (p : Place). Transition m c w p q last (Closes n)) (ap (λ (x : Record). x.to) rb.2) u) in
      let q-on = transition_to state.ready.sound u in
      let hq = small_number state.ready.sound q q-on in
      let low = link_covered ra.0 (place_number c q) (m.join k (m.join (numbered l rb.0).cost last)) ra.1 hq (inr (
        rb.0,
        rb.1,
        o.row,
        w.row,
        record {
          place = (numbered l ra.0).to;
          exit = q;
          bracket = n;
          price = k;
          last = last;
          opens = t';
          closes = u';
          at = refl;
          cost_is = refl;
        },
      )) in
      let same = joined_right laws state.ready (numbered l ra.0).cost k (numbered l rb.0).cost last (record_cost laws state.ready ra.0 ra.1) (transition_cost laws state.ready.sound t) (record_cost laws state.ready rb.0 rb.1) (transition_cost laws state.ready.sound u) in
      subst₂ (λ (x z : Record). NoDearer m (get_or s.waiting.costs (pair_of c x.from q) 0) (m.join (m.join (m.join x.cost k) z.cost) last)) (sym ra.2) (sym rb.2) (subst (NoDearer m (get_or s.waiting.costs (pair_of c (numbered l ra.0).from q) 0)) same low)

  -- a candidate's places
  candidate_on : {y : Record} → Candidate m c (records l) y → On c y.from × On c y.to
  candidate_on (step a i t) = let r = logged_in l.records l.count a i in (subst (λ (x : Record). On c x.from) (sym r.2) (state.ready.book.kept r.0 r.1).from_on, transition_to state.ready.sound t)
  candidate_on (call a b i t j u) = let r = logged_in l.records l.count a i in (subst (λ (x : Record). On c x.from) (sym r.2) (state.ready.book.kept r.0 r.1).from_on, transition_to state.ready.sound u)

  pair_small : {y : Record} → Candidate m c (records l) y → pair_of c y.from y.to < 4096
  pair_small {y} k = let on = candidate_on k in pair_in c y.from y.to state.ready.sound.few_places on.0 on.1

  -- an unsettled pair has no number
  unnumbered : (y : Record) → Candidate m c (records l) y → Unrecorded (records l) y.from y.to → get_or l.index (pair_of c y.from y.to) None ≡ None
  unnumbered y k u = by _ refl
    where
      by : (o : Option ℕ) → get_or l.index (pair_of c y.from y.to) None ≡ o → get_or l.index (pair_of c y.from y.to) None ≡ None
      by None e = e
      by (Some i) e =
          let f = state.ready.book.finds _ i e in
          let on = candidate_on k in
          let kept = state.ready.book.kept i f.0 in
          let z = pair_parts c (numbered l i).from (numbered l i).to y.from y.to state.ready.sound.few_places kept.to_on on.1 f.1 in
          absurd (u (nth_record l i) (in_logged l.records l.count i f.0) (number_eq c _ _ kept.from_on on.0 z.0) (number_eq c _ _ kept.to_on on.1 z.1))

  pub none_left : LeastOf m l s.waiting.costs 4096 None → (y : Record) → Candidate m c (records l) y → Unrecorded (records l) y.from y.to → NoDearer m m.worst y.cost
  none_left k y i u = laws.trans _ _ _ laws.worst_cost (waiting_costs _ (pair_small i)) (candidate_cost laws state.ready.sound (all_priced laws state.ready) i) (k _ (pair_small i) (unnumbered y i u)) (covered i)

  -- the pair that was found
  module _ (p : ℕ) (k : LeastPair m l s.waiting.costs 4096 p) (g : Goal) (from_is : place_number c g.from ≡ p / 64) (to_is : place_number c g.to ≡ p % 64) (from_in : moment g.from < c.moments) (to_in : moment g.to < c.moments) (cost_is : g.cost ≡ get_or s.waiting.costs p 0) where
    found : CandidateAt m c l p (get_or s.waiting.costs p 0)
    found = ⊎_elim (λ e. absurd (both_ways _ k.below (subst (λ (n : ℕ). NoDearer m m.worst n) (sym e) (no_dearer_same laws _ laws.worst_cost)))) (λ x. x) (state.linked.held_waiting.attained p (let h = k.within in omega (arith, state.linked.held_waiting.long)))

    found_from : g.from ≡ found.it.from
    found_from =
        let on = candidate_on found.candidate in
        let b = small_number state.ready.sound found.it.to on.1 in
        place_unique c g.from found.it.from from_in on.0.1 (from_is ∙ ap (λ (n : ℕ). n / 64) found.at ∙ digits_div (place_number c found.it.from) b)

    found_to : g.to ≡ found.it.to
    found_to =
        let on = candidate_on found.candidate in
        let b = small_number state.ready.sound found.it.to on.1 in
        place_unique c g.to found.it.to to_in on.1.1 (to_is ∙ ap (λ (n : ℕ). n % 64) found.at ∙ digits_mod (place_number c found.it.from) b)

    pub goal_on : GoalOn c g
    goal_on = let on = candidate_on found.candidate in (subst (On c) (sym found_from) on.0, subst (On c) (sym found_to) on.1)

    pub goal_cost : Cost m g.cost
    goal_cost = subst (Cost m) (sym cost_is) (waiting_costs p k.within)

    pub goal_made : (y : Record) × Makes m c l g y
    goal_made = (found.it, record { candidate = found.candidate; starts = sym found_from; ends = sym found_to; costs = sym found.cost_is ∙ sym cost_is })

    goal_pair : pair_of c g.from g.to ≡ p
    goal_pair = ap₂ (λ (x y : Place). pair_of c x y) found_from found_to ∙ sym found.at

    pub goal_fresh : get_or l.index (pair_of c g.from g.to) None ≡ None
    goal_fresh = ap (λ (n : ℕ). get_or l.index n None) goal_pair ∙ k.unrecorded

    module _ (src : LogDerivation) (wins : Wins m c l g Any src) where
      pub goal_kept : Kept m c (made g src)
      goal_kept = let on = goal_on in record { price = goal_cost; from_on = on.0; to_on = on.1 }

      -- the pairs' order is that of the keys
      pair_lex : (y : Record) → On c y.from → On c y.to → pair_of c g.from g.to < pair_of c y.from y.to → Lex (key c (record_of (records l) (made g src))) (key c y)
      pair_lex y on on' h =
          let a = number_in c g.to state.ready.sound.few_places (goal_on).1 in
          let b = number_in c y.to state.ready.sound.few_places on' in
          ⊎_elim (λ (z : place_number c g.from < place_number c y.from). inl z) (λ (z : place_number c y.from ≤ place_number c g.from). inr (omega arith, inl (omega arith))) (cases_lt (place_number c g.from) (place_number c y.from))

      -- one for the same pair at the same cost
      same_pair : (y : Record) → Candidate m c (records l) y → g.cost ≡ y.cost → pair_of c g.from g.to ≡ pair_of c y.from y.to → Lex (key c (record_of (records l) (made g src))) (key c y)
      same_pair y i e z =
          let on = candidate_on i in
          let there = goal_on in
          let q = pair_parts c g.from g.to y.from y.to state.ready.sound.few_places there.1 on.1 z in
          let from-same : y.from ≡ g.from = sym (number_eq c _ _ there.0 on.0 q.0) in
          let to-same : y.to ≡ g.to = sym (number_eq c _ _ there.1 on.1 q.1) in
          inr (q.0, inr (q.1, wins.first y (record { candidate = i; starts = from-same; ends = to-same; costs = sym e }) tt))

      goes_first : (y : Record) → Candidate m c (records l) y → Unrecorded (records l) y.from y.to → Precedes m c (record_of (records l) (made g src)) y
      goes_first y i u =
          let hy = candidate_cost laws state.ready.sound (all_priced laws state.ready) i in
          let pair = pair_of c y.from y.to in
          let hw = waiting_costs pair (pair_small i) in
          let hp = waiting_costs p k.within in
          let low = k.first pair (pair_small i) (unnumbered y i u) in
          let cover = covered i in
          let most : NoDearer m g.cost y.cost = subst (λ (n : ℕ). NoDearer m n y.cost) (sym cost_is) (laws.trans _ _ _ hp hw hy low.0 cover) in
          ⊎_elim (λ z. inl z) (λ (e : g.cost ≡ y.cost).
          let back : NoDearer m (get_or s.waiting.costs pair 0) (get_or s.waiting.costs p 0) = subst (NoDearer m (get_or s.waiting.costs pair 0)) (sym e ∙ cost_is) cover in
          let tie = low.1 (laws.antisym _ _ hp hw low.0 back) in
          let at = goal_pair in
          let on = candidate_on i in
          inr (e, ⊎_elim (λ (z : pair_of c g.from g.to ≡ pair). same_pair y i e z) (λ (z : pair_of c g.from g.to ≡ pair → ⊥). pair_lex y on.0 on.1 (omega arith)) (cases_eq (pair_of c g.from g.to) pair)))
          (cheaper_or laws _ _ goal_cost hy most)

      pub round_is : Round m c (records l) (record_of (records l) (made g src))
      round_is = record {
        candidate = wins.makes.candidate;
        unrecorded = λ a h e f. let r = logged_in l.records l.count a h in
            none_some _ _ goal_fresh (ap₂ (λ (x y : Place). get_or l.index (pair_of c x y) None) (sym e) (sym f) ∙ (ap (λ (z : Record). get_or l.index (pair_of c z.from z.to) None) r.2 ∙ state.ready.book.found r.0 r.1));
        below = subst (λ (n : ℕ). Cheaper m n m.worst) (sym cost_is) k.below;
        first = goes_first;
      }
