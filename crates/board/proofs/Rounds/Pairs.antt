-- Records lie on the board, and a pair has one record at most.
use Rattle.std.proofs.Common.{◌≡◌, ℕ, List, sym, ap, ◌∙◌, subst, inl, inr}
use Rattle.costs.specs.Meaning.{Meaning, Lawful}
use Rattle.board.specs.Content.{Content, Sound}
use Rattle.board.specs.Moves.{On}
use Rattle.board.specs.Settling.{In, Record, start_record, Candidate, step, call, Rounds, begin, round}
use Rattle.board.proofs.Paths.Standing.{transition_to}
use Rattle.board.proofs.Rounds.Diagonal.{started, diagonal_on}

abbrev pub Distinct : List Record → Type 0
Distinct log = (a b : Record) → In a log → In b log → a.from ≡ b.from → a.to ≡ b.to → a ≡ b

pub distinct : {m : Meaning} {c : Content} {n : ℕ} {log : List Record} → Rounds m c n log → Distinct log
distinct {m} {c} begin a b i j e f =
    let x = started m c a i in
    let y = started m c b j in
    x.1 ∙ ap (start_record m) (ap (λ (z : Record). z.from) (sym x.1) ∙ e ∙ ap (λ (z : Record). z.from) y.1) ∙ sym y.1
distinct (round s r) a b (inl i) (inl j) e f = i ∙ sym j
distinct (round s r) a b (inl i) (inr j) e f = absurd (r.unrecorded b j (sym e ∙ ap (λ (z : Record). z.from) i) (sym f ∙ ap (λ (z : Record). z.to) i))
distinct (round s r) a b (inr i) (inl j) e f = absurd (r.unrecorded a i (e ∙ ap (λ (z : Record). z.from) j) (f ∙ ap (λ (z : Record). z.to) j))
distinct (round s r) a b (inr i) (inr j) e f = distinct s a b i j e f

-- each record of the log starts at a place of the board
abbrev pub Based : Content → List Record → Type 0
Based c log = (a : Record) → In a log → On c a.from

pub candidate_from : {m : Meaning} {c : Content} {log : List Record} {x : Record} → Based c log → Candidate m c log x → On c x.from
candidate_from on (step a i g) = on a i
candidate_from on (call a b i g j h) = on a i

from_on : {m : Meaning} {c : Content} {n : ℕ} {log : List Record} → Rounds m c n log → (a : Record) → In a log → On c a.from
from_on {m} {c} begin a i = diagonal_on m c a i
from_on {c = c} (round s r) a (inl e) = subst (λ (x : Record). On c x.from) (sym e) (candidate_from (from_on s) r.candidate)
from_on (round s r) a (inr i) = from_on s a i

module _ {m : Meaning} {c : Content} (laws : Lawful m) (sound : Sound m c) where
  pub candidate_to : {log : List Record} {x : Record} → Candidate m c log x → On c x.to
  candidate_to (step a i g) = transition_to sound g
  candidate_to (call a b i g j h) = transition_to sound h

  -- a candidate's pair
  pub candidate_on : {n : ℕ} {log : List Record} {x : Record} → Rounds m c n log → Candidate m c log x → On c x.from × On c x.to
  candidate_on s k = (candidate_from (from_on s) k, candidate_to k)

  to_on : {n : ℕ} {log : List Record} → Rounds m c n log → (a : Record) → In a log → On c a.to
  to_on begin a i = let x = started m c a i in subst (λ (z : Record). On c z.to) (sym x.1) (subst (λ (z : Record). On c z.from) x.1 (diagonal_on m c a i))
  to_on (round s r) a (inl e) = subst (λ (x : Record). On c x.to) (sym e) (candidate_to r.candidate)
  to_on (round s r) a (inr i) = to_on s a i

  -- a record's pair
  pub record_on : {n : ℕ} {log : List Record} → Rounds m c n log → (a : Record) → In a log → On c a.from × On c a.to
  record_on s a i = (from_on s a i, to_on s a i)
