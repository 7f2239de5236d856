-- The check refuses exactly at the first fault.
use Rattle.std.proofs.Common.{◌≡◌, ℕ, ◌+◌, ◌↔◌, List, length, take, Err, Result, sym, refl, ap, ◌∙◌, subst, ⊎_elim, arith}
use Rattle.std.proofs.Math.Seq.{take-length}
use Rattle.costs.specs.Meaning.{Meaning}
use Rattle.board.specs.declared.check.Fault.{Fault}
use Rattle.board.specs.declared.refusal.Refusal.{Refusal}
use Rattle.board.specs.declared.refusal.Refusal.TheVariants.{NoEnd}
use Rattle.board.specs.Content.{Content, Sound}
use Rattle.board.specs.Checks.{Progress, before_moves, check_answer}
use Rattle.board.specs.Faults.{FirstFault, at_move, no_end, RefusesFaults}
use Rattle.board.proofs.Checking.Walking.{Walk, fault, Halts, halted, stops_at, stops_after}
use Rattle.board.proofs.Checking.Refusing.{underway, walk_under, refused, refusing}

from_zero : (n : ℕ) (e : Refusal) → ◌≡◌ {A = Result ℕ Fault} (Err (fault (0 + n) e)) (Err (fault n e))
from_zero n e = let z : 0 + n ≡ n = omega arith in ap (λ k. Err (fault k e)) z

module _ {m : Meaning} {c : Content} (sound : Sound m c) (xs : List ℕ) where
  -- where a check halts, the list is at fault
  at_fault : (n : ℕ) (e : Refusal) (u : Progress) → Walk m c (before_moves m) (take n xs) u → Halts m c xs n u e → FirstFault m c xs n e
  at_fault n e u walk h = ⊎_elim
      (λ z. at_move z.0 z.1 (refused (take n xs) sound z.0 e u walk z.2))
      (λ z. subst (FirstFault m c xs n) (sym z.2) (no_end z.0 (underway xs (subst (λ l. Walk m c (before_moves m) l u) (ap (λ k. take k xs) z.0 ∙ take-length xs) walk) z.1)))
      h

  -- and back
  halts_at : (n : ℕ) (e : Refusal) → FirstFault m c xs n e → check_answer m c xs ≡ Err (fault n e)
  halts_at n e (at_move x get why) = let z = refusing (take n xs) sound x e why in stops_at n xs 0 x e z.1 get z.2 ∙ from_zero n e
  halts_at n e (no_end i w) = stops_after 0 (walk_under xs w).1 refl ∙ from_zero (length xs) NoEnd ∙ ap (λ k. Err (fault k NoEnd)) (sym i)

  pub refuses : (f : Fault) → (check_answer m c xs ≡ Err f) ↔ FirstFault m c xs f.index f.refusal
  refuses f = (there, halts_at f.index f.refusal)
    where
      there : check_answer m c xs ≡ Err f → FirstFault m c xs f.index f.refusal
      there e =
          let h = halted xs (before_moves m) 0 f e in
          let i : h.after ≡ f.index = omega (arith, h.index) in
          subst (λ n. FirstFault m c xs n f.refusal) i (at_fault h.after f.refusal h.reached h.walk h.halts)

-- what an answer of the check says of the faults
pub answer_refuses : {m : Meaning} {c : Content} → Sound m c → (xs : List ℕ) (r : Result ℕ Fault) → r ≡ check_answer m c xs → RefusesFaults m c xs r
answer_refuses {m} {c} sound xs r e = subst (RefusesFaults m c xs) (sym e) (refuses sound xs)
