-- The empty log, and the diagonal.
use Rattle.std.proofs.Common.{◌≡◌, ℕ, zero, suc, ◌<◌, List, [], ◌++◌, get_or, replicate, Some, None, Option, sym, refl, ap, ◌∙◌, subst, ⊎_elim, arith}
use lib.ListN.{length-replicate}
use Rattle.costs.specs.Meaning.{Meaning}
use Rattle.board.specs.Moves.{Place, moment, mode}
use Rattle.board.specs.Content.{Content}
use Rattle.board.specs.Settling.{In, Record, starts, places, moments_of, Candidate, step, call}
use Rattle.board.proofs.Rounds.Diagonal.{started_in, moments_on, places_on}
use Rattle.board.proofs.Basics.Membership.{in_split, none_some}
use Rattle.board.proofs.Rounds.Uniqueness.{number_eq}
use Rattle.board.specs.declared.log.Log.{Log}
use Rattle.board.specs.Logged.{blank, records}
use Rattle.board.specs.Logs.{numbered, nth_record, settled_count, Book, Ready, empty, pair_of}
use Rattle.board.proofs.Rounds.Logging.{logged_none, in_logged}
use Rattle.board.proofs.Basics.Numbers.{pair_parts}

none_at : (A : Type 0) (n p : ℕ) → ◌≡◌ {A = Option A} (get_or (replicate n None) p None) None
none_at A zero p = refl
none_at A (suc n) zero = refl
none_at A (suc n) (suc p) = none_at A n p

settled_count_none : (n : ℕ) → settled_count (replicate n None) ≡ 0
settled_count_none zero = refl
settled_count_none (suc n) = settled_count_none n

no_candidate : {m : Meaning} {c : Content} {log : List Record} {y : Record} → log ≡ [] → Candidate m c log y → ⊥
no_candidate e (step a i g) = subst (In a) e i
no_candidate e (call a b i g j h) = subst (In a) e i

pub empty_records : records empty ≡ []
empty_records = logged_none (replicate 4096 blank)

pub empty_book : (m : Meaning) (c : Content) → Book m c empty
empty_book m c = record {
  long = length-replicate 4096 blank;
  index_long = length-replicate {A = Option ℕ} 4096 None;
  kept = λ i h. absurd (omega arith);
  found = λ i h. absurd (omega arith);
  finds = λ p i e. absurd (none_some _ _ (none_at ℕ 4096 p) e);
  full = settled_count_none 4096;
  lengths_long = length-replicate {A = ℕ} 4096 0;
  spells = record { room = omega arith; earlier = λ i h. absurd (omega arith); lengths_are = λ i h. absurd (omega arith) };
}

-- a place of the diagonal that has not come yet
pub start_fresh : {m : Meaning} {c : Content} {l : Log} (n u : ℕ) → Ready m c l → n < c.modes → u < c.moments → records l ≡ starts m (moments_of n u ++ places n c.moments) → get_or l.index (pair_of c (n, u) (n, u)) None ≡ None
start_fresh {m} {c} {l} n u ready hm ht e = by _ refl
  where
    by : (o : Option ℕ) → get_or l.index (pair_of c (n, u) (n, u)) None ≡ o → get_or l.index (pair_of c (n, u) (n, u)) None ≡ None
    by None f = f
    by (Some i) f =
        let g = ready.book.finds _ i f in
        let kept = ready.book.kept i g.0 in
        let z = pair_parts c (numbered l i).from (numbered l i).to (n, u) (n, u) ready.sound.few_places kept.to_on (hm, ht) g.1 in
        let same : (numbered l i).from ≡ (n, u) = number_eq c _ _ kept.from_on (hm, ht) z.0 in
        let s = started_in m (nth_record l i) _ (subst (In (nth_record l i)) e (in_logged l.records l.count i g.0)) in
        let x : (n, u) ≡ s.0 = sym same ∙ ap (λ (y : Record). y.from) s.1 in
        let xm : n ≡ mode s.0 = ap (λ (p : Place). mode p) x in
        let xt : u ≡ moment s.0 = ap (λ (p : Place). moment p) x in
        absurd (⊎_elim (λ j. let q = moments_on s.0 n u j in let q1 = q.1 in omega arith) (λ j. let q = places_on s.0 n c.moments j in let q0 = q.0 in omega arith) (in_split s.0 (moments_of n u) (places n c.moments) s.2))
