-- The function `run` goes on by rounds, and where `next` gives nothing the log is settled.
use Rattle.std.proofs.Common.{◌≡◌, ℕ, zero, suc, Bool, true, false, cond, not, ◌&&◌, ◌⊎◌, List, [], ◌∷◌, Some, None, Option, sym, refl, ap, ◌∙◌, subst, inl, inr}
use Rattle.std.specs.List.{filter}
use Rattle.std.proofs.lemmas.Bool.{both_ways, and_parts, and_from, not-true, eq-eqb}
use Rattle.costs.specs.Meaning.{Meaning, Lawful, Cost, NoDearer}
use Rattle.board.specs.Content.{Content, Sound}
use Rattle.board.specs.Moves.{Place, mode, moment}
use Rattle.board.specs.Settling.{Cheaper, In, Record, Unrecorded, Precedes, Round, Rounds, round, SettledLog}
use Rattle.board.specs.Computing.{same_place, unrecorded?, candidates, precedes?, first_by, next_of, next, run_on, run}
use Rattle.board.specs.Logs.{Reached}
use Rattle.board.proofs.Basics.Laws.{no_dearer_eq, cheaper_no_dearer}
use Rattle.board.proofs.Rounds.Candidates.{listed, unlisted, same_place_eq}
use Rattle.board.proofs.Rounds.Minimal.{priced, candidate_cost}
use Rattle.board.proofs.Rounds.Precedence.{first_candidate}

pub place_same : (p q : Place) → p ≡ q → same_place p q ≡ true
place_same p q e = and_from _ _ (eq-eqb (mode p) (mode q) (ap (λ (x : Place). mode x) e)) (eq-eqb (moment p) (moment q) (ap (λ (x : Place). moment x) e))

unsettled_true : (log : List Record) (x : Record) → unrecorded? log x ≡ true → Unrecorded log x.from x.to
unsettled_true [] x e a i f g = i
unsettled_true (b ∷ log) x e a (inl i) f g =
    let z = and_parts _ _ e in
    let same = and_from _ _ (place_same b.from x.from (ap (λ (w : Record). w.from) (sym i) ∙ f)) (place_same b.to x.to (ap (λ (w : Record). w.to) (sym i) ∙ g)) in
    both_ways _ (not-true _ z.0) same
unsettled_true (b ∷ log) x e a (inr i) f g = unsettled_true log x (and_parts _ _ e).1 a i f g

pub unsettled_from : (log : List Record) (x : Record) → Unrecorded log x.from x.to → unrecorded? log x ≡ true
unsettled_from [] x u = refl
unsettled_from (b ∷ log) x u = and_from _ _ (apart (same_place b.from x.from && same_place b.to x.to) refl) (unsettled_from log x (λ a i. u a (inr i)))
  where
    apart : (t : Bool) → (same_place b.from x.from && same_place b.to x.to) ≡ t → not t ≡ true
    apart true e = let z = and_parts _ _ e in absurd (u b (inl refl) (same_place_eq _ _ z.0) (same_place_eq _ _ z.1))
    apart false e = refl

in_unsettled : (log xs : List Record) (x : Record) → In x xs → unrecorded? log x ≡ true → In x (filter (unrecorded? log) xs)
in_unsettled log [] x i e = absurd i
in_unsettled log (y ∷ xs) x i e = kept (unrecorded? log y) refl i (λ g. in_unsettled log xs x g e)
  where
    kept : (t : Bool) → unrecorded? log y ≡ t → (x ≡ y) ⊎ In x xs → (In x xs → In x (filter (unrecorded? log) xs)) → In x (cond t (y ∷ filter (unrecorded? log) xs) (filter (unrecorded? log) xs))
    kept true f (inl g) rest = inl g
    kept true f (inr g) rest = inr (rest g)
    kept false f (inl g) rest = absurd (both_ways _ f (ap (unrecorded? log) (sym g) ∙ e))
    kept false f (inr g) rest = rest g

unsettled_in : (log xs : List Record) (x : Record) → In x (filter (unrecorded? log) xs) → In x xs × (unrecorded? log x ≡ true)
unsettled_in log [] x i = absurd i
unsettled_in log (y ∷ xs) x i = kept (unrecorded? log y) refl i (unsettled_in log xs x)
  where
    kept : (t : Bool) → unrecorded? log y ≡ t → In x (cond t (y ∷ filter (unrecorded? log) xs) (filter (unrecorded? log) xs)) → (In x (filter (unrecorded? log) xs) → In x xs × (unrecorded? log x ≡ true)) → In x (y ∷ xs) × (unrecorded? log x ≡ true)
    kept true f (inl g) rest = (inl g, ap (unrecorded? log) g ∙ f)
    kept true f (inr g) rest = let r = rest g in (inr r.0, r.1)
    kept false f g rest = let r = rest g in (inr r.0, r.1)

module _ {m : Meaning} {c : Content} (laws : Lawful m) (sound : Sound m c) where
  kept_cost : {n : ℕ} {log : List Record} → Rounds m c n log → (a : Record) → In a (filter (unrecorded? log) (candidates m c log)) → Cost m a.cost
  kept_cost {log = log} s a i = candidate_cost laws sound (priced laws sound s) (unlisted m c log a (unsettled_in log _ a i).0)

  -- what is left has a first candidate
  first_left : {n : ℕ} {log : List Record} → Rounds m c n log → (y : Record) (ys : List Record) → filter (unrecorded? log) (candidates m c log) ≡ y ∷ ys → In (first_by (precedes? m c) y ys) (y ∷ ys) × ((z : Record) → In z (y ∷ ys) → Precedes m c (first_by (precedes? m c) y ys) z)
  first_left s y ys e = first_candidate laws c y ys (λ a i. kept_cost s a (subst (λ l. In a l) (sym e) i))

  -- what `next` gives is the round's record
  next_some : {n : ℕ} {log : List Record} → Rounds m c n log → (x : Record) (xs : List Record) → filter (unrecorded? log) (candidates m c log) ≡ xs → next_of m c xs ≡ Some x → Round m c log x
  next_some s x [] e f = absurd cc
  next_some {log = log} s x (y ∷ ys) e f = stop? (m.no_dearer m.worst (first_by (precedes? m c) y ys).cost) refl f
    where
      made : (b : Record) → In b (y ∷ ys) → ((z : Record) → In z (y ∷ ys) → Precedes m c b z) → Cheaper m b.cost m.worst → Round m c log b
      made b i first below =
          let k = unsettled_in log _ b (subst (λ l. In b l) (sym e) i) in
          record {
            candidate = unlisted m c log b k.0;
            unrecorded = unsettled_true log b k.1;
            below = below;
            first = λ z h u. first z (subst (λ l. In z l) e (in_unsettled log _ z (listed m c log z h) (unsettled_from log z u)));
          }

      stop? : (t : Bool) → m.no_dearer m.worst (first_by (precedes? m c) y ys).cost ≡ t → cond t None (Some (first_by (precedes? m c) y ys)) ≡ Some x → Round m c log x
      stop? true g h = absurd cc
      stop? false g h =
          let b : first_by (precedes? m c) y ys ≡ x = cc in
          let first = first_left s y ys e in
          subst (Round m c log) b (made _ first.0 first.1 g)

  pub next_round : {n : ℕ} {log : List Record} {x : Record} → Rounds m c n log → next m c log ≡ Some x → Round m c log x
  next_round s e = next_some s _ _ refl e

  -- where `next` gives nothing, nothing below the worst is left
  next_none : {n : ℕ} {log : List Record} → Rounds m c n log → (xs : List Record) → filter (unrecorded? log) (candidates m c log) ≡ xs → next_of m c xs ≡ None → (x : Record) → In x xs → NoDearer m m.worst x.cost
  next_none s [] e f x i = absurd i
  next_none {log = log} s (y ∷ ys) e f x i = stop? (m.no_dearer m.worst (first_by (precedes? m c) y ys).cost) refl f
    where
      costs : (a : Record) → In a (y ∷ ys) → Cost m a.cost
      costs a j = kept_cost s a (subst (λ l. In a l) (sym e) j)

      within : (b : Record) → Cost m b.cost → Precedes m c b x → NoDearer m b.cost x.cost
      within b hb (inl h) = cheaper_no_dearer laws _ _ hb (costs x i) h
      within b hb (inr h) = no_dearer_eq laws _ _ hb h.0

      stop? : (t : Bool) → m.no_dearer m.worst (first_by (precedes? m c) y ys).cost ≡ t → cond t None (Some (first_by (precedes? m c) y ys)) ≡ None → NoDearer m m.worst x.cost
      stop? true g h =
          let first = first_left s y ys e in
          let b = first_by (precedes? m c) y ys in
          let hb = costs b first.0 in
          laws.trans _ _ _ laws.worst_cost hb (costs x i) g (within b hb (first.1 x i))
      stop? false g h = absurd cc

  pub next_done : {n : ℕ} {log : List Record} → Rounds m c n log → next m c log ≡ None → SettledLog m c log
  next_done {n} {log} s e = record {
    rounds = n;
    reached = s;
    done = λ x h u. next_none s _ refl e x (in_unsettled log _ x (listed m c log x h) (unsettled_from log x u));
  }

  pub run_reached : (k : ℕ) {n : ℕ} {log : List Record} → Rounds m c n log → Reached m c (run m c k log)
  run_reached zero {n} s = (n, s)
  run_reached (suc k) {n} {log} s = further (next m c log) refl (λ x r. run_reached k (round s r))
    where
      further : (o : Option Record) → next m c log ≡ o → ((x : Record) → Round m c log x → Reached m c (run m c k (x ∷ log))) → Reached m c (run_on log (λ x. run m c k (x ∷ log)) o)
      further None e f = (n, s)
      further (Some x) e f = f x (next_round s e)
