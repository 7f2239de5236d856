-- What one call more after a history gives, from what it makes of the board.
use Rattle.std.proofs.Common.{◌≡◌, ℕ, List, [], ◌∷◌, ◌++◌, sym, refl, ap, ◌∙◌, subst}
use Rattle.costs.specs.declared.kind.Kind.{Ghosts}
use Rattle.costs.specs.Meaning.{Meaning, Lawful}
use Rattle.board.specs.declared.draft.Draft.{Draft}
use Rattle.board.specs.declared.settled.Settled.{Settled}
use Rattle.board.specs.Content.{Content, new}
use Rattle.board.specs.Held.{draft_content}
use Rattle.board.specs.Boards.{settled_content, settled_records}
use Rattle.board.specs.Settling.{Record}
use Rattle.board.specs.Promises.{CallsKeepEaseAndSettle}
use Rattle.file.specs.declared.call.Call.{Call}
use Rattle.file.specs.declared.call.Call.TheVariants as call
use Rattle.file.specs.declared.boards.Board.{Board}
use Rattle.file.specs.declared.boards.Board.TheVariants as board
use Rattle.file.specs.States.{State, draft, settled, edited, on_draft, on_settled, stepped, state_after}
use Rattle.file.specs.declared.call.Answer.{Answer}
use Rattle.file.specs.declared.call.Answer.TheVariants as gives
use Rattle.file.specs.Answers.{draft_answer, settled_answer, settled_buffer, step_answer_draft, step_answer_settled, step_answer, step_buffer, NoteStands, GivesItsNumbers}
use Rattle.file.specs.Histories.{state_of, records_of, defined_records, records_defined, MadeBy, OneCallMore}
use Rattle.file.proofs.Loads.Standing.{asked_stands}
use Rattle.file.proofs.Calls.Numbers.{gives_its_numbers}
use Rattle.file.proofs.Promising.{state_split, answers_cheapest_when_settled}

-- what `step` ensures
abbrev pub Step : {K : Type 0} {k : Ghosts K} → Meaning → Board K k → Call → List ℕ → Board K k → Answer → List ℕ → Type 0
Step m b x buffer next told left =
    record {
      state : state_of next ≡ stepped m (state_of b) x;
      answer : told ≡ step_answer m (state_of b) (records_of b) x buffer;
      after : left ≡ step_buffer m (state_of b) (records_of b) x buffer;
      note : NoteStands m x told;
      numbers : GivesItsNumbers;
      history : (calls : List Call) → MadeBy m calls b → OneCallMore m calls x buffer next told left;
    }

-- a draft that is not settled keeps being one
draft_rest : (m : Meaning) (c : Content) (x : Call) → (x ≡ call.Settle → ⊥) → on_draft m c x ≡ draft (edited m c x)
draft_rest m c call.Settle other = absurd (other refl)
draft_rest m c x other = refl

draft_told : (m : Meaning) (c : Content) (x : Call) → (x ≡ call.Settle → ⊥) → step_answer_draft m c x ≡ draft_answer m c x
draft_told m c call.Settle other = absurd (other refl)
draft_told m c x other = refl

-- a settled board that is not reopened stays as it is
settled_rest : (c : Content) (x : Call) → (x ≡ call.Reopen → ⊥) → on_settled c x ≡ settled c
settled_rest c call.Reopen other = absurd (other refl)
settled_rest c x other = refl

settled_told : (m : Meaning) (c : Content) (log : List Record) (x : Call) (buffer : List ℕ) → (x ≡ call.Reopen → ⊥) → step_answer_settled m c log x buffer ≡ settled_answer m c log x buffer
settled_told m c log call.Reopen buffer other = absurd (other refl)
settled_told m c log x buffer other = refl

module _ {K : Type 0} {k : Ghosts K} (laws : Lawful k.meaning) (promises : CallsKeepEaseAndSettle) where
  follows : (b : Board K k) (x : Call) (buffer : List ℕ) (after : Board K k) (told : Answer) (left : List ℕ) → state_of after ≡ stepped k.meaning (state_of b) x → told ≡ step_answer k.meaning (state_of b) (records_of b) x buffer → left ≡ step_buffer k.meaning (state_of b) (records_of b) x buffer → NoteStands k.meaning x told → Step k.meaning b x buffer after told left
  follows b x buffer after told left state answer written note = record {
    state = state;
    answer = answer;
    after = written;
    note = note;
    numbers = gives_its_numbers;
    history = λ calls h.
        let reached : state_of after ≡ state_after k.meaning (calls ++ (x ∷ [])) = state ∙ ap (λ (s : State). stepped k.meaning s x) h ∙ sym (state_split k.meaning (draft new) calls (x ∷ [])) in
        let log : records_of b ≡ defined_records k.meaning (state_after k.meaning calls) = records_defined b ∙ ap (defined_records k.meaning) h in
        record {
          holds = reached;
          records = records_defined after ∙ ap (defined_records k.meaning) reached;
          answered = answer ∙ (λ i. step_answer k.meaning (h i) (log i) x buffer);
          written = written ∙ (λ i. step_buffer k.meaning (h i) (log i) x buffer);
          cheapest = answers_cheapest_when_settled laws promises (calls ++ (x ∷ []));
        };
  }

  pub edits : (b : Board K k) (d e : Draft K k) (x : Call) (buffer : List ℕ) (told : Answer) → b ≡ board.Drafted d → (x ≡ call.Settle → ⊥) → draft_content e ≡ edited k.meaning (draft_content d) x → told ≡ draft_answer k.meaning (draft_content d) x → NoteStands k.meaning x told → Step k.meaning b x buffer (board.Drafted e) told buffer
  edits b d e x buffer told is other after answer note =
      subst (λ (b : Board K k). Step k.meaning b x buffer (board.Drafted e) told buffer) (sym is)
      (follows (board.Drafted d) x buffer (board.Drafted e) told buffer (ap draft after ∙ sym (draft_rest k.meaning (draft_content d) x other)) (answer ∙ sym (draft_told k.meaning (draft_content d) x other)) refl note)

  pub settles_it : (b : Board K k) (d : Draft K k) (s : Settled K k) (x : Call) (buffer : List ℕ) → b ≡ board.Drafted d → x ≡ call.Settle → settled_content s ≡ draft_content d → Step k.meaning b x buffer (board.Settled s) gives.Settled buffer
  settles_it b d s x buffer is at same =
      subst (λ (b : Board K k). Step k.meaning b x buffer (board.Settled s) gives.Settled buffer) (sym is)
      (subst (λ (y : Call). Step k.meaning (board.Drafted d) y buffer (board.Settled s) gives.Settled buffer) (sym at)
      (follows (board.Drafted d) call.Settle buffer (board.Settled s) gives.Settled buffer (ap settled same) refl refl tt))

  pub asks_it : (b : Board K k) (s : Settled K k) (x : Call) (buffer : List ℕ) (told : Answer) (left : List ℕ) → b ≡ board.Settled s → (x ≡ call.Reopen → ⊥) → told ≡ settled_answer k.meaning (settled_content s) (settled_records s) x buffer → left ≡ settled_buffer k.meaning (settled_content s) (settled_records s) x buffer → Step k.meaning b x buffer (board.Settled s) told left
  asks_it b s x buffer told left is other answer written =
      subst (λ (b : Board K k). Step k.meaning b x buffer (board.Settled s) told left) (sym is)
      (follows (board.Settled s) x buffer (board.Settled s) told left (sym (settled_rest (settled_content s) x other)) (answer ∙ sym (settled_told k.meaning (settled_content s) (settled_records s) x buffer other)) written (asked_stands k.meaning (settled_content s) (settled_records s) x buffer told answer))

  pub reopens_it : (b : Board K k) (s : Settled K k) (d : Draft K k) (x : Call) (buffer : List ℕ) → b ≡ board.Settled s → x ≡ call.Reopen → draft_content d ≡ settled_content s → Step k.meaning b x buffer (board.Drafted d) gives.Reopened buffer
  reopens_it b s d x buffer is at same =
      subst (λ (b : Board K k). Step k.meaning b x buffer (board.Drafted d) gives.Reopened buffer) (sym is)
      (subst (λ (y : Call). Step k.meaning (board.Settled s) y buffer (board.Drafted d) gives.Reopened buffer) (sym at)
      (follows (board.Settled s) call.Reopen buffer (board.Drafted d) gives.Reopened buffer (ap draft same) refl refl tt))
