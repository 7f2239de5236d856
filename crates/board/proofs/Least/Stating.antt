-- What holds between rounds, kept as a record is settled.
use Rattle.std.proofs.Common.{◌≡◌, ◌≢◌, ℕ, ◌+◌, ◌*◌, ◌<◌, min, Bool, List, ◌∷◌, length, get_or, set, replicate, Some, None, Option, get_or-set_other, sym, refl, ap, ◌∙◌, subst, inl, inr, ⊎_elim, arith}
use lib.ListN.{length-replicate}
use Rattle.std.proofs.lemmas.List.{get_or-replicate}
use Rattle.std.proofs.lemmas.Bool.{cases_eq}
use Rattle.costs.specs.Meaning.{Meaning, Lawful, Cost, NoDearer}
use Rattle.board.specs.declared.log.Record.{Record as LogRecord}
use Rattle.board.specs.declared.log.Log.{Log}
use Rattle.board.specs.declared.settling.Minima.{Minima}
use Rattle.board.specs.declared.settling.Waiting.{Waiting}
use Rattle.board.specs.Content.{Content, Sound}
use Rattle.board.specs.Moves.{On, place_number}
use Rattle.board.specs.Settling.{Record, Candidate}
use Rattle.board.specs.Logged.{spelled, record_of, records}
use Rattle.board.specs.Logs.{numbered, Kept, Ready, pushed, empty, Refers, pair_of}
use Rattle.board.specs.Lowering.{Costing, Attained, LowerBound, Lowered}
use Rattle.board.specs.Minima.{PlainLink, Bracketed, BracketedBy, BracketedIn, Link, CandidateAt, Followed, Linked, PlaceLeast, PlacesLeast, Led, SettlingInvariant}
use Rattle.board.proofs.Basics.Laws.{no_dearer_eq, join_no_dearer}
use Rattle.board.proofs.Paths.Decomposing.{transition_cost}
use Rattle.board.proofs.Basics.Numbers.{number_in}
use Rattle.board.proofs.Rounds.Starting.{empty_book}
use Rattle.board.proofs.Rounds.Pushing.{candidate_stays, pushed_records, numbered_new, numbered_old, pushed_ready}
use Rattle.board.proofs.Least.Lowering.{attained_cost}
use Rattle.board.proofs.Least.Plain.{worst_attained}
use Rattle.board.proofs.Least.Bracketing.{stands_goes, stands_cheap}
use Rattle.board.proofs.Least.Links.{link_cost, link_in, candidate_cost_at, follow_fits}

-- the log l' is l with the record r more
pub record Extended (m : Meaning) (c : Content) (l l' : Log) (r : LogRecord) : Type 0 where
  pub ready : Ready m c l'
  pub count : l'.count ≡ l.count + 1
  pub new : numbered l' l.count ≡ r
  pub old : (i : ℕ) → i < l.count → numbered l' i ≡ numbered l i
  pub more : records l' ≡ record_of (records l) r ∷ records l

pub extended : {m : Meaning} {c : Content} {l : Log} (ready : Ready m c l) {p : ℕ} {r : LogRecord} → p ≡ pair_of c r.from r.to → get_or l.index (pair_of c r.from r.to) None ≡ None → Kept m c r → Refers l.count r.derivation → {n : ℕ} → n ≡ min (length (spelled (records l) r.derivation)) 65536 → {l' : Log} → l' ≡ pushed l p r n → Extended m c l l' r
extended {m} {c} {l} ready {p} {r} at fresh kept refers {n} is {l'} e = subst (λ (x : Log). Extended m c l x r) (sym e) (record {
  ready = pushed_ready ready at fresh kept refers is;
  count = refl;
  new = numbered_new ready at fresh kept refers is;
  old = numbered_old ready at fresh kept refers is;
  more = pushed_records ready at fresh kept refers is;
})

module _ {m : Meaning} {c : Content} {l l' : Log} {r : LogRecord} (laws : Lawful m) (x : Extended m c l l' r) where
  -- what stood stands
  link_stays : (p k : ℕ) → Link m c l p k → Link m c l' p k
  link_stays p k (inl z) = inl z
  link_stays p k (inr (j, h, o, w, z)) = inr (j, omega (arith, x.count), o, w, subst (λ (b : LogRecord). BracketedBy m c b o w p k) (sym (x.old j h)) z)

  waits_stays : (p k : ℕ) → CandidateAt m c l p k → CandidateAt m c l' p k
  waits_stays p k z = record { it = z.it; candidate = subst (λ (e : List Record). Candidate m c e z.it) (sym x.more) (candidate_stays (record_of (records l) r) z.candidate); at = z.at; cost_is = z.cost_is }

  attained_stays : {R S : Costing} → ((p k : ℕ) → R p k → S p k) → (xs : List ℕ) → Attained m R xs → Attained m S xs
  attained_stays f xs a p h = ⊎_elim (λ e. inl e) (λ z. inr (f p _ z)) (a p h)

  pub links_stay : (xs : List ℕ) → Attained m (Link m c l) xs → Attained m (Link m c l') xs
  links_stay xs a = attained_stays link_stays xs a

  pub waiting_stay : (xs : List ℕ) → Attained m (CandidateAt m c l) xs → Attained m (CandidateAt m c l') xs
  waiting_stay xs a = attained_stays waits_stays xs a

  pub new_in : l.count < l'.count
  new_in = omega (arith, x.count)

  -- by whether a record is the new one
  by_record : (P : LogRecord → Type 0) → P (numbered l' l.count) → ((i : ℕ) → i < l.count → P (numbered l i)) → (i : ℕ) → i < l'.count → P (numbered l' i)
  by_record P new old i h = ⊎_elim
      (λ (e : i ≡ l.count). subst (λ (j : ℕ). P (numbered l' j)) (sym e) new)
      (λ (n : i ≡ l.count → ⊥). let k : i < l.count = omega (arith, x.count) in subst P (sym (x.old i k)) (old i k))
      (cases_eq i l.count)

  module _ {s : Minima} (state : SettlingInvariant m c l s) where
    -- after the new record is followed
    pub linked_stays : (waits : Waiting) → Lowered m (CandidateAt m c l') s.waiting.costs waits.costs (Followed m c s.links (numbered l' l.count)) → PlacesLeast m l' waits → Linked m c l' s.links waits
    linked_stays waits w places = record {
      held_links = record { long = state.linked.held_links.long; attained = links_stay s.links state.linked.held_links.attained };
      held_waiting = record { long = w.long ∙ state.linked.held_waiting.long; attained = w.attained; least = places };
      followed = by_record (λ (a : LogRecord). LowerBound m (Followed m c s.links a) waits.costs) w.bounds (λ i h p k z.
          let fits = follow_fits laws state.ready s.links state.linked.held_links.long state.linked.held_links.attained i h s.waiting.costs state.linked.held_waiting.long 64 p k (omega arith) z in
          let fits0 = fits.0 in
          laws.trans _ _ _ (attained_cost laws (candidate_cost_at laws x.ready) waits.costs w.attained p (omega (arith, w.long))) (attained_cost laws (candidate_cost_at laws state.ready) s.waiting.costs state.linked.held_waiting.attained p fits.0) fits.1 (w.lower p fits.0) (state.linked.followed i h p k z));
    }

    -- the least from other places than that of the new record
    pub places_stay : (p : ℕ) → p ≡ pair_of c r.from r.to → (t : ℕ) → t < 64 → t ≢ place_number c r.from → l'.index ≡ set l.index p (Some l.count) → PlaceLeast m l' s.waiting.costs t 64 (get_or s.waiting.least t 0)
    places_stay p at t ht far is =
        let q-small = number_in c r.to state.ready.sound.few_places (subst (λ (e : LogRecord). On c e.to) x.new (x.ready.book.kept l.count new_in).to_on) in
        let old = state.linked.held_waiting.least.places t ht in
        let same : (q : ℕ) → q < 64 → get_or l'.index (t * 64 + q) None ≡ get_or l.index (t * 64 + q) None = λ q hq. ap (λ (xs : List (Option ℕ)). get_or xs (t * 64 + q) None) is ∙ get_or-set_other l.index p (t * 64 + q) (Some l.count) None (λ (e : t * 64 + q ≡ p). omega arith) in
        record {
          attained = ⊎_elim (λ z. inl z) (λ z. inr (z.0, z.1, same z.0 z.1 ∙ z.2, z.3)) old.attained;
          bounds = λ q h e. old.bounds q h (sym (same q h) ∙ e);
        }

    module _ (links : List ℕ) (linked : Lowered m (Link m c l') s.links links (BracketedIn m c s.leads (numbered l' l.count))) where
      -- by the new record
      around_new : (o w p k : ℕ) → BracketedBy m c (numbered l' l.count) o w p k → NoDearer m (get_or links p 0) k
      around_new o w p k z =
          let sound = x.ready.sound in
          let so = state.led o z.opens.by z.opens.found in
          let sw = state.led w z.closes.by z.closes.found in
          let hb = (x.ready.book.kept l.count new_in).price in
          let ho = transition_cost laws sound (stands_goes z.opens so.2) in
          let hw = transition_cost laws sound (stands_goes z.closes sw.2) in
          let hk = transition_cost laws sound z.opens in
          let hl = transition_cost laws sound z.closes in
          let by : NoDearer m (get_or links p 0) (m.join so.2.by.cost (m.join (numbered l' l.count).cost sw.2.by.cost)) = linked.bounds p _ (
            so.0,
            (
              sw.0,
              record {
                opener = so.1;
                closer = sw.1;
                by = record { place = z.place; exit = z.exit; bracket = z.bracket; price = so.2.by.cost; last = sw.2.by.cost; opens = stands_goes z.opens so.2; closes = stands_goes z.closes sw.2; at = z.at; cost_is = refl };
              },
            ),
          ) in
          let small = link_in laws x.ready p k (inr (l.count, new_in, o, w, z)) in
          let links-cost = attained_cost laws (link_cost laws x.ready) links linked.attained p (omega (arith, small, linked.long, state.linked.held_links.long)) in
          let inner = laws.mono_right _ _ _ hw hl hb (stands_cheap z.closes sw.2) in
          subst (NoDearer m (get_or links p 0)) (sym z.cost_is) (laws.trans _ _ _ links-cost (laws.join_cost _ _ ho (laws.join_cost _ _ hb hw)) (laws.join_cost _ _ hk (laws.join_cost _ _ hb hl)) by (join_no_dearer laws _ _ _ _ ho hk (laws.join_cost _ _ hb hw) (laws.join_cost _ _ hb hl) (stands_cheap z.opens so.2) inner))

      -- a link of the old log
      as_before : (p k : ℕ) → Link m c l p k → NoDearer m (get_or links p 0) k
      as_before p k z =
          let h = link_in laws state.ready p k z in
          laws.trans _ _ _ (attained_cost laws (link_cost laws x.ready) links linked.attained p (omega (arith, linked.long, state.linked.held_links.long))) (attained_cost laws (link_cost laws state.ready) s.links state.linked.held_links.attained p (omega (arith, state.linked.held_links.long))) (link_cost laws state.ready p k z) (linked.lower p (omega (arith, state.linked.held_links.long))) (state.links_bounds p k z)

      -- all links of the new log are bounded
      links_all : LowerBound m (Link m c l') links
      links_all p k (inl z) = as_before p k (inl z)
      links_all p k (inr (j, h, o, w, z)) = by_record (λ (b : LogRecord). BracketedBy m c b o w p k → NoDearer m (get_or links p 0) k) (around_new o w p k) (λ i hi y. as_before p k (inr (i, hi, o, w, y))) j h z

      pub state_more : (waits : Waiting) → Linked m c l' links waits → SettlingInvariant m c l' (record { links = links; waiting = waits; leads = s.leads })
      state_more waits ok = record {
        ready = x.ready;
        linked = ok;
        links_bounds = links_all;
        leads_long = state.leads_long;
        led = state.led;
      }

-- nothing settled
module _ {m : Meaning} {c : Content} (laws : Lawful m) (sound : Sound m c) where
  no_bracketed : (p k : ℕ) → Bracketed m c empty p k → ⊥
  no_bracketed p k (j, h, o, w, z) = omega arith

  pub empty_state : (l : Log) (b d : ℕ) (links : List ℕ) (leads : List Bool) → l ≡ empty → b ≡ m.worst → d ≡ m.worst → Attained m (PlainLink m c) links → LowerBound m (PlainLink m c) links → length links ≡ 4096 → Led m c leads → length leads ≡ 128 → SettlingInvariant m c l (record { links = links; waiting = record { costs = replicate 4096 b; least = replicate 64 d }; leads = leads })
  empty_state l b d links leads e hb hd attained bounds long led leads-long = subst (λ (x : Log). SettlingInvariant m c x (record { links = links; waiting = record { costs = replicate 4096 b; least = replicate 64 d }; leads = leads })) (sym e) (record {
    ready = record { sound = sound; book = empty_book m c };
    linked = record {
      held_links = record { long = long; attained = λ p h. ⊎_elim (λ z. inl z) (λ z. inr (inl z)) (attained p h) };
      held_waiting = record {
        long = length-replicate 4096 b;
        attained = worst_attained m (CandidateAt m c empty) 4096 b hb;
        least = record {
          long = length-replicate 64 d;
          places = λ t ht. record {
            attained = inl (get_or-replicate 64 t d 0 ht ∙ hd);
            bounds = λ q hq e. no_dearer_eq laws _ _ (subst (Cost m) (sym (get_or-replicate 64 t d 0 ht ∙ hd)) laws.worst_cost) (get_or-replicate 64 t d 0 ht ∙ hd ∙ sym hb ∙ sym (get_or-replicate 4096 (t * 64 + q) b 0 (omega arith)));
          };
        };
      };
      followed = λ i h. absurd (omega arith);
    };
    links_bounds = λ p k z. ⊎_elim (λ y. bounds p k y) (λ y. absurd (no_bracketed p k y)) z;
    leads_long = leads-long;
    led = led;
  })
