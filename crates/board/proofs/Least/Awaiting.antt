-- The least costs of candidates, and the least of these for the unsettled pairs from each place.
use Rattle.std.proofs.Common.{◌≡◌, ℕ, ◌+◌, ◌*◌, ◌/◌, ◌%◌, ◌<◌, ◌≤◌, ◌≢◌, Bool, true, false, cond, List, length, get_or, set, Some, None, Option, sym, refl, ap, ◌∙◌, subst, inl, inr, ⊎_elim, arith, length-set, get_or-set_other, get_or-set_same}
use Rattle.std.proofs.lemmas.Bool.{cases_eq, cases_lt, both_ways, cond-true, cond-false}
use Rattle.std.proofs.lemmas.Nat.{div-add-mod'}
use Rattle.std.specs.Option.{is_some}
use Rattle.costs.specs.Meaning.{Meaning, Lawful, Cost, NoDearer}
use Rattle.board.specs.declared.log.Log.{Log}
use Rattle.board.specs.declared.settling.Waiting.{Waiting}
use Rattle.board.specs.Lowering.{lowered}
use Rattle.board.specs.Minima.{PlaceLeast, PlacesLeast}
use Rattle.board.specs.Winning.{LeastFirst, LeastFrom, LeastPair, LeastOf}
use Rattle.board.proofs.Basics.Laws.{no_dearer_same, cheaper_no_dearer, cheaper_up, cheaper_down}

-- what is not some is none
pub not_some : {A : Type 0} (o : Option A) → is_some o ≡ false → {x : Option A} → o ≡ x → x ≡ None
not_some None e f = sym f
not_some (Some a) e f = absurd (both_ways _ e refl)

-- the first of costs
abbrev pub limit : Meaning → List ℕ → Option ℕ → ℕ
limit m costs None = m.worst
limit m costs (Some s) = get_or costs s 0

module _ {m : Meaning} (laws : Lawful m) (costs : List ℕ) (most : ℕ) (priced : (s : ℕ) → s < most → Cost m (get_or costs s 0)) where
  limit_cost : (n : ℕ) → n < most → (o : Option ℕ) → LeastFrom m costs n o → Cost m (limit m costs o)
  limit_cost n h None k = laws.worst_cost
  limit_cost n h (Some s) k = let w = k.within in priced s (omega arith)

  limit_least : (n : ℕ) (o : Option ℕ) → LeastFrom m costs n o → (t : ℕ) → t < n → NoDearer m (limit m costs o) (get_or costs t 0)
  limit_least n None k t h = k t h
  limit_least n (Some s) k t h = (k.first t h).0

  limit_most : (n : ℕ) → n < most → (o : Option ℕ) → LeastFrom m costs n o → NoDearer m (limit m costs o) m.worst
  limit_most n h None k = no_dearer_same laws _ laws.worst_cost
  limit_most n h (Some s) k = let w = k.within in laws.worst_most _ (priced s (omega arith))

  last : (P : ℕ → Type 0) (n : ℕ) → ((t : ℕ) → t < n → P t) → P n → (t : ℕ) → t < n + 1 → P t
  last P n old new t h = ⊎_elim (λ (z : t ≡ n). subst P (sym z) new) (λ (z : t ≡ n → ⊥). old t (omega arith)) (cases_eq t n)

  pub first_none : LeastFrom m costs 0 None
  first_none t h = absurd (omega arith)

  pub first_keep : (n : ℕ) → n < most → (o : Option ℕ) → NoDearer m (limit m costs o) (get_or costs n 0) → LeastFrom m costs n o → LeastFrom m costs (n + 1) o
  first_keep n h None w k = last (λ (t : ℕ). NoDearer m m.worst (get_or costs t 0)) n k w
  first_keep n h (Some s) w k = record {
    within = let f = k.within in omega arith;
    below = k.below;
    first = last (λ (t : ℕ). NoDearer m (get_or costs s 0) (get_or costs t 0) × ((get_or costs s 0 ≡ get_or costs t 0) → s ≤ t)) n k.first (w, λ z. let f = k.within in omega arith);
  }

  pub first_take : (n : ℕ) → n < most → (o : Option ℕ) → m.no_dearer (limit m costs o) (get_or costs n 0) ≡ false → LeastFrom m costs n o → LeastFrom m costs (n + 1) (Some n)
  first_take n h o cheaper k = record {
    within = omega arith;
    below = cheaper_up laws _ (limit m costs o) _ (priced n h) (limit_cost n h o k) laws.worst_cost cheaper (limit_most n h o k);
    first = last (λ (t : ℕ). NoDearer m (get_or costs n 0) (get_or costs t 0) × ((get_or costs n 0 ≡ get_or costs t 0) → n ≤ t)) n
        (λ t ht. let low = limit_least n o k t ht in let hc = priced t (omega arith) in (
          laws.trans _ _ _ (priced n h) (limit_cost n h o k) hc (cheaper_no_dearer laws _ _ (priced n h) (limit_cost n h o k) cheaper) low,
          λ z. absurd (both_ways _ cheaper (subst (NoDearer m (limit m costs o)) (sym z) low)),
        ))
        (no_dearer_same laws _ (priced n h), λ z. omega arith);
  }

module _ {m : Meaning} (laws : Lawful m) (l : Log) where
  -- the costs from one place, and from all
  module _ (costs : List ℕ) (priced : (p : ℕ) → p < 4096 → Cost m (get_or costs p 0)) (s : ℕ) (hs : s < 64) where
    pub place_cost : (n x : ℕ) → n ≤ 64 → PlaceLeast m l costs s n x → Cost m x
    place_cost n x h r = ⊎_elim (λ e. subst (Cost m) (sym e) laws.worst_cost) (λ z. let z1 = z.1 in subst (Cost m) z.3 (priced (s * 64 + z.0) (omega arith))) r.attained

    -- found one after the other
    pub row_none : PlaceLeast m l costs s 0 m.worst
    row_none = record { attained = inl refl; bounds = λ q h. absurd (omega arith) }

    pub row_keep : (n x : ℕ) → (get_or l.index (s * 64 + n) None ≡ None → NoDearer m x (get_or costs (s * 64 + n) 0)) → PlaceLeast m l costs s n x → PlaceLeast m l costs s (n + 1) x
    row_keep n x w r = record {
      attained = ⊎_elim (λ e. inl e) (λ z. let z1 = z.1 in inr (z.0, omega arith, z.2, z.3)) r.attained;
      bounds = λ q h e. ⊎_elim (λ (z : q ≡ n). subst (λ (k : ℕ). get_or l.index (s * 64 + k) None ≡ None → NoDearer m x (get_or costs (s * 64 + k) 0)) (sym z) w e) (λ (z : q ≡ n → ⊥). r.bounds q (omega arith) e) (cases_eq q n);
    }

    pub row_take : (n x : ℕ) → n < 64 → get_or l.index (s * 64 + n) None ≡ None → m.no_dearer x (get_or costs (s * 64 + n) 0) ≡ false → PlaceLeast m l costs s n x → PlaceLeast m l costs s (n + 1) (get_or costs (s * 64 + n) 0)
    row_take n x h e cheaper r = record {
      attained = inr (n, omega arith, e, refl);
      bounds = λ q hq f. ⊎_elim
          (λ (z : q ≡ n). subst (λ (k : ℕ). NoDearer m (get_or costs (s * 64 + n) 0) (get_or costs (s * 64 + k) 0)) (sym z) (no_dearer_same laws _ here))
          (λ (z : q ≡ n → ⊥). laws.trans _ _ _ here hx (priced (s * 64 + q) (omega arith)) (cheaper_no_dearer laws _ _ here hx cheaper) (r.bounds q (omega arith) f))
          (cases_eq q n);
    }
      where
        here : Cost m (get_or costs (s * 64 + n) 0)
        here = priced (s * 64 + n) (omega arith)

        hx : Cost m x
        hx = place_cost n x (omega arith) r

  -- the costs of unsettled pairs are as before
  pub place_same : (costs costs' : List ℕ) (s x : ℕ) → ((q : ℕ) → q < 64 → get_or l.index (s * 64 + q) None ≡ None → get_or costs' (s * 64 + q) 0 ≡ get_or costs (s * 64 + q) 0) → PlaceLeast m l costs s 64 x → PlaceLeast m l costs' s 64 x
  place_same costs costs' s x same r = record {
    attained = ⊎_elim (λ e. inl e) (λ z. inr (z.0, z.1, z.2, same z.0 z.1 z.2 ∙ z.3)) r.attained;
    bounds = λ q h e. subst (NoDearer m x) (sym (same q h e)) (r.bounds q h e);
  }

  module _ (w : Waiting) (long : length w.costs ≡ 4096) (priced : (p : ℕ) → p < 4096 → Cost m (get_or w.costs p 0)) (s q k : ℕ) (hs : s < 64) (hq : q < 64) (places : PlacesLeast m l w) where
    slot_in : s * 64 + q < length w.costs
    slot_in = omega (arith, long)

    -- the cost stayed
    pub places_kept : (costs' : List ℕ) → costs' ≡ lowered m w.costs (s * 64 + q) k → m.no_dearer (get_or w.costs (s * 64 + q) 0) k ≡ true → PlacesLeast m l (record { costs = costs'; least = w.least })
    places_kept costs' e h = subst (λ (zs : List ℕ). PlacesLeast m l (record { costs = zs; least = w.least })) (sym (e ∙ cond-true _ _ _ h)) places

    module _ (costs' : List ℕ) (e : costs' ≡ lowered m w.costs (s * 64 + q) k) (cheaper : m.no_dearer (get_or w.costs (s * 64 + q) 0) k ≡ false) where
      costs_is : costs' ≡ set w.costs (s * 64 + q) k
      costs_is = e ∙ cond-false _ _ _ cheaper

      at_slot : get_or costs' (s * 64 + q) 0 ≡ k
      at_slot = ap (λ (zs : List ℕ). get_or zs (s * 64 + q) 0) costs_is ∙ get_or-set_same w.costs (s * 64 + q) k 0 slot_in

      elsewhere : (t u : ℕ) → (t * 64 + u ≡ s * 64 + q → ⊥) → get_or costs' (t * 64 + u) 0 ≡ get_or w.costs (t * 64 + u) 0
      elsewhere t u n = ap (λ (zs : List ℕ). get_or zs (t * 64 + u) 0) costs_is ∙ get_or-set_other w.costs (s * 64 + q) (t * 64 + u) k 0 n

      -- the pair is settled
      pub places_settled : (get_or l.index (s * 64 + q) None ≡ None → ⊥) → PlacesLeast m l (record { costs = costs'; least = w.least })
      places_settled some = record { long = places.long; places = λ t ht. place_same w.costs costs' t (get_or w.least t 0) (λ u hu none. elsewhere t u (λ z. some (ap (λ (p : ℕ). get_or l.index p None) (sym z) ∙ none))) (places.places t ht) }

      module _ (none : get_or l.index (s * 64 + q) None ≡ None) (hk : Cost m k) (least' : List ℕ) (f : least' ≡ lowered m w.least s k) where
        other_place : (t : ℕ) → t < 64 → (t ≡ s → ⊥) → PlaceLeast m l costs' t 64 (get_or w.least t 0)
        other_place t ht far = place_same w.costs costs' t (get_or w.least t 0) (λ u hu e. elsewhere t u (λ z. far (omega arith))) (places.places t ht)

        least_cost : Cost m (get_or w.least s 0)
        least_cost = place_cost w.costs priced s hs 64 _ (omega arith) (places.places s hs)

        this_place : (b : Bool) → m.no_dearer (get_or w.least s 0) k ≡ b → PlaceLeast m l costs' s 64 (cond b (get_or w.least s 0) k)
        this_place true h = record {
          attained = ⊎_elim (λ z. inl z) (λ z. ⊎_elim
              (λ (i : z.0 ≡ q). absurd (both_ways _ cheaper (ap (λ (n : ℕ). m.no_dearer n k) (ap (λ (u : ℕ). get_or w.costs (s * 64 + u) 0) (sym i) ∙ z.3) ∙ h)))
              (λ (i : z.0 ≡ q → ⊥). inr (z.0, z.1, z.2, elsewhere s z.0 (λ j. i (omega arith)) ∙ z.3))
              (cases_eq z.0 q)) (places.places s hs).attained;
          bounds = λ u hu v. ⊎_elim
              (λ (i : u ≡ q). subst (NoDearer m (get_or w.least s 0)) (sym (ap (λ (j : ℕ). get_or costs' (s * 64 + j) 0) i ∙ at_slot)) h)
              (λ (i : u ≡ q → ⊥). subst (NoDearer m (get_or w.least s 0)) (sym (elsewhere s u (λ j. i (omega arith)))) ((places.places s hs).bounds u hu v))
              (cases_eq u q);
        }
        this_place false h = record {
          attained = inr (q, hq, none, at_slot);
          bounds = λ u hu v. ⊎_elim
              (λ (i : u ≡ q). subst (NoDearer m k) (sym (ap (λ (j : ℕ). get_or costs' (s * 64 + j) 0) i ∙ at_slot)) (no_dearer_same laws _ hk))
              (λ (i : u ≡ q → ⊥). subst (NoDearer m k) (sym (elsewhere s u (λ j. i (omega arith)))) (laws.trans _ _ _ hk least_cost (priced (s * 64 + u) (omega arith)) (cheaper_no_dearer laws _ _ hk least_cost h) ((places.places s hs).bounds u hu v)))
              (cases_eq u q);
        }

        least_in : s < length w.least
        least_in = omega (arith, places.long)

        at_least : (b : Bool) → m.no_dearer (get_or w.least s 0) k ≡ b → get_or (cond b w.least (set w.least s k)) s 0 ≡ cond b (get_or w.least s 0) k
        at_least true h = refl
        at_least false h = get_or-set_same w.least s k 0 least_in

        far_least : (b : Bool) (t : ℕ) → (t ≡ s → ⊥) → get_or (cond b w.least (set w.least s k)) t 0 ≡ get_or w.least t 0
        far_least true t n = refl
        far_least false t n = get_or-set_other w.least s t k 0 n

        least_long : (b : Bool) → length (cond b w.least (set w.least s k)) ≡ length w.least
        least_long true = refl
        least_long false = length-set w.least s k

        pub places_lowered : PlacesLeast m l (record { costs = costs'; least = least' })
        places_lowered = subst (λ (zs : List ℕ). PlacesLeast m l (record { costs = costs'; least = zs })) (sym f) (record {
          long = least_long (m.no_dearer (get_or w.least s 0) k) ∙ places.long;
          places = λ t ht. ⊎_elim
              (λ (i : t ≡ s). subst (λ (j : ℕ). PlaceLeast m l costs' j 64 (get_or (lowered m w.least s k) j 0)) (sym i) (subst (PlaceLeast m l costs' s 64) (sym (at_least (m.no_dearer (get_or w.least s 0) k) refl)) (this_place (m.no_dearer (get_or w.least s 0) k) refl)))
              (λ (i : t ≡ s → ⊥). subst (PlaceLeast m l costs' t 64) (sym (far_least (m.no_dearer (get_or w.least s 0) k) t i)) (other_place t ht i))
              (cases_eq t s);
        })

  -- the least from one place found anew
  pub places_renewed : (w : Waiting) (s x : ℕ) → s < 64 → length w.least ≡ 64 → ((t : ℕ) → t < 64 → t ≢ s → PlaceLeast m l w.costs t 64 (get_or w.least t 0)) → PlaceLeast m l w.costs s 64 x → PlacesLeast m l (record { costs = w.costs; least = set w.least s x })
  places_renewed w s x hs long others this = record {
    long = length-set w.least s x ∙ long;
    places = λ t ht. ⊎_elim
        (λ (i : t ≡ s). subst (λ (j : ℕ). PlaceLeast m l w.costs j 64 (get_or (set w.least s x) j 0)) (sym i) (subst (PlaceLeast m l w.costs s 64) (sym (get_or-set_same w.least s x 0 (omega (arith, long)))) this))
        (λ (i : t ≡ s → ⊥). subst (PlaceLeast m l w.costs t 64) (sym (get_or-set_other w.least s t x 0 i)) (others t ht (let n : t ≢ s = omega arith in n)))
        (cases_eq t s);
  }

  -- the pair that is taken
  module _ (w : Waiting) (priced : (p : ℕ) → p < 4096 → Cost m (get_or w.costs p 0)) (places : PlacesLeast m l w) where
    pub place_costs : (s : ℕ) → s < 64 → Cost m (get_or w.least s 0)
    place_costs s h = place_cost w.costs priced s h 64 _ (omega arith) (places.places s h)

    -- the first n from the place have no unsettled pair at the least cost
    abbrev pub NotYet : ℕ → ℕ → Type 0
    NotYet s n = (q : ℕ) → q < n → get_or l.index (s * 64 + q) None ≡ None → NoDearer m (get_or w.costs (s * 64 + q) 0) (get_or w.least s 0) → ⊥

    pub not_yet_more : (s n : ℕ) → NotYet s n → (get_or l.index (s * 64 + n) None ≡ None → NoDearer m (get_or w.costs (s * 64 + n) 0) (get_or w.least s 0) → ⊥) → NotYet s (n + 1)
    not_yet_more s n old new q h = ⊎_elim (λ (z : q ≡ n). subst (λ (j : ℕ). get_or l.index (s * 64 + j) None ≡ None → NoDearer m (get_or w.costs (s * 64 + j) 0) (get_or w.least s 0) → ⊥) (sym z) new) (λ (z : q ≡ n → ⊥). old q (omega arith)) (cases_eq q n)

    pub not_never : (s n : ℕ) → LeastFirst m w.least 64 s → 64 ≤ n → NotYet s n → ⊥
    not_never s n k h none = ⊎_elim
        (λ e. both_ways _ k.below (subst (NoDearer m m.worst) (sym e) (no_dearer_same laws _ laws.worst_cost)))
        (λ z. let z1 = z.1 in none z.0 (omega arith) z.2 (subst (NoDearer m (get_or w.costs (s * 64 + z.0) 0)) z.3 (no_dearer_same laws _ (let hs = k.within in priced (s * 64 + z.0) (omega arith)))))
        (places.places s k.within).attained

    pub none_below : LeastFrom m w.least 64 None → LeastOf m l w.costs 4096 None
    none_below k p h e =
        let t = p / 64 in
        let u = p % 64 in
        let split : t * 64 + u ≡ p = div-add-mod' p 64 in
        let hu : u < 64 = omega arith in
        let ht : t < 64 = omega (arith, split) in
        let low = (places.places t ht).bounds u hu (ap (λ (i : ℕ). get_or l.index i None) split ∙ e) in
        subst (λ (i : ℕ). NoDearer m m.worst (get_or w.costs i 0)) split (laws.trans _ _ _ laws.worst_cost (place_costs t ht) (priced (t * 64 + u) (omega (arith, split))) (k t ht) low)

    pub pair_least : (s q : ℕ) → LeastFirst m w.least 64 s → q < 64 → get_or l.index (s * 64 + q) None ≡ None → NoDearer m (get_or w.costs (s * 64 + q) 0) (get_or w.least s 0) → NotYet s q → LeastPair m l w.costs 4096 (s * 64 + q)
    pair_least s q k hq none cheap before =
        let hs = k.within in
        let here = priced (s * 64 + q) (omega arith) in
        let least-cost = place_costs s hs in
        record {
          within = omega arith;
          unrecorded = none;
          below = cheaper_down laws _ _ _ here least-cost laws.worst_cost cheap k.below;
          first = λ p hp e.
              let t = p / 64 in
              let u = p % 64 in
              let split : t * 64 + u ≡ p = div-add-mod' p 64 in
              let hu : u < 64 = omega arith in
              let ht : t < 64 = omega (arith, split) in
              let there = priced (t * 64 + u) (omega (arith, split)) in
              let open-there : get_or l.index (t * 64 + u) None ≡ None = ap (λ (i : ℕ). get_or l.index i None) split ∙ e in
              let bound = (places.places t ht).bounds u hu open-there in
              let low = k.first t ht in
              let least = laws.trans _ _ _ here least-cost there cheap (laws.trans _ _ _ least-cost (place_costs t ht) there low.0 bound) in
              let tie : (get_or w.costs (s * 64 + q) 0 ≡ get_or w.costs (t * 64 + u) 0) → s * 64 + q ≤ t * 64 + u = λ z.
              let back = laws.trans _ _ _ (place_costs t ht) here least-cost (subst (NoDearer m (get_or w.least t 0)) (sym z) bound) cheap in
              let st : s ≤ t = low.1 (laws.antisym _ _ least-cost (place_costs t ht) low.0 back) in
              ⊎_elim
              (λ (i : u < q). ⊎_elim
              (λ (j : t ≡ s). absurd (before u i (ap (λ (v : ℕ). get_or l.index (v * 64 + u) None) (sym j) ∙ open-there) (subst (λ (v : ℕ). NoDearer m (get_or w.costs (v * 64 + u) 0) (get_or w.least s 0)) j (subst (λ (v : ℕ). NoDearer m v (get_or w.least s 0)) z cheap))))
              (λ (j : t ≡ s → ⊥). omega arith)
              (cases_eq t s))
              (λ (i : q ≤ u). omega arith)
              (cases_lt u q) in
              (subst (λ (i : ℕ). NoDearer m (get_or w.costs (s * 64 + q) 0) (get_or w.costs i 0)) split least, λ z. subst (λ (i : ℕ). s * 64 + q ≤ i) split (tie (z ∙ ap (λ (i : ℕ). get_or w.costs i 0) (sym split))));
        }
