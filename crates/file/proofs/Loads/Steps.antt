-- One record more.
use Rattle.std.proofs.Common.{◌≡◌, ℕ, zero, suc, ◌+◌, List, drop, Ok, Err, Result, refl, ◌∙◌, arith}
use Rattle.board.specs.Content.{Content}
use Rattle.file.specs.declared.refusal.FileRefusal.{FileRefusal}
use Rattle.file.specs.declared.refusal.LoadFault.{LoadFault}
use Rattle.file.specs.Records.{go_on, at_place, record_next, records_added}
use Rattle.file.specs.Fillings.{told}

module _ (add : Content → ℕ → Result Content FileRefusal) (bs : List ℕ) (place : ℕ) (c : Content) where
  pub records_none : records_added add 0 bs place c ≡ Ok c
  unfolding records_added
  records_none = refl

  records_next : (n k : ℕ) → n ≡ k + 1 → records_added add n bs place c ≡ go_on (at_place (record_next add bs c) place) (records_added add k (drop 8 bs) (place + 8))
  unfolding records_added
  records_next zero k h = absurd (omega arith)
  records_next (suc n) k h = let e : n ≡ k = omega arith in rw e

  pub records_more : (n k : ℕ) (d : Content) → n ≡ k + 1 → Ok d ≡ record_next add bs c → records_added add n bs place c ≡ records_added add k (drop 8 bs) (place + 8) d
  records_more n k d h r = records_next n k h ∙ rw (← r)

  pub records_refused : {X : Type 0} (o : Result X FileRefusal) (d : Content) (f : LoadFault) (n k : ℕ) → n ≡ k + 1 → told o d ≡ record_next add bs c → at_place o place ≡ Err f → records_added add n bs place c ≡ Err f
  records_refused (Ok x) d f n k h t e = absurd cc
  records_refused (Err r) d f n k h t e = records_next n k h ∙ rw (← t) cc
