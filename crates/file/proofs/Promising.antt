-- The main promise, from what the board promises.
use Rattle.std.proofs.Common.{◌≡◌, ℕ, min, Bool, true, false, cond, ◌&&◌, leb, ◌↔◌, List, [], ◌∷◌, ◌++◌, map, length, drop, Some, None, Ok, Err, Option, sym, refl, ap, ◌∙◌, subst, inl, inr}
use Rattle.std.proofs.lemmas.Bool.{leb-true, leb-false}
use Rattle.costs.specs.Meaning.{Meaning, Lawful}
use Rattle.board.specs.declared.refusal.Refusal.{Refusal}
use Rattle.board.specs.declared.refusal.Refusal.TheVariants.{NoReading, TooLong}
use Rattle.board.specs.Content.{Content, new, Sound}
use Rattle.board.specs.Calls.{with_row, with_line, with_row_cost, with_line_cost, size_refusal, row_refusal, line_refusal, reprice_refusal}
use Rattle.board.specs.Refusals.{number, unless}
use Rattle.board.specs.Refusals.{answer as refused_or}
use Rattle.board.specs.Ease.{Eased, CallsEase}
use Rattle.board.specs.Packing.{packed}
use Rattle.board.specs.Settling.{RecordedReading, HasNoReading, AnswersCost}
use Rattle.board.specs.Computing.{Reading, recorded_reading, settled_log}
use Rattle.board.specs.Questions.{cost_told, written_told, moves_written}
use Rattle.board.specs.Promises.{CallsKeepEaseAndSettle, RecordedIsCheapest, Computed, NoReadingBelowWorst}
use Rattle.file.specs.declared.call.Call.{Call}
use Rattle.file.specs.declared.call.Call.TheVariants as call
use Rattle.file.specs.States.{State, draft, settled, on_draft, stepped, state_from, state_after}
use Rattle.file.specs.Answers.{draft_answer, error_number, refused_with}
use Rattle.file.specs.Easing.{is_load, Question, cost, Eases, adds_row, adds_line, reprices_row, reprices_line, settles, reopens, asks, declined, AllEase, none, next}
use Rattle.file.specs.Promise.{settled_cost, cost_or_worst, answered_cost, Writes, written, AnsweredReading, AnswersCheapest, AnswersCheapestWhenSettled}
use Rattle.file.specs.Promise as promise
use Rattle.file.proofs.Calls.Sounding.{content, stepped_sound, state_sound}

-- a list of calls in two parts
pub state_split : (m : Meaning) (s : State) (xs ys : List Call) → state_from m s (xs ++ ys) ≡ state_from m (state_from m s xs) ys
state_split m s [] ys = refl
state_split m s (x ∷ xs) ys = state_split m (stepped m s x) xs ys

module _ {m : Meaning} (laws : Lawful m) (promises : CallsKeepEaseAndSettle) where
  -- what is known of a sound content's records
  module _ (c : Content) (sound : Sound m c) where
    computed : Computed m c
    computed = promises.computed m c laws sound

    cheapest : RecordedIsCheapest m c (settled_log m c)
    cheapest = ((promises.settling m c laws sound).1 (settled_log m c) computed.settled).1

    recorded : (f : Reading) → recorded_reading m c (settled_log m c) ≡ Some f → RecordedReading m c (settled_log m c) f.cost f.moves
    recorded f e = (computed.some (settled_log m c) computed.settled f.cost f.moves).1 (f.row, e)

    unread : recorded_reading m c (settled_log m c) ≡ None → HasNoReading m c (settled_log m c)
    unread e = (computed.none (settled_log m c) computed.settled).1 e

    -- path by whether the reading fits
    writes : (f : Reading) (buffer : List ℕ) (short few : Bool) → leb (length f.moves) (length buffer) ≡ short → leb (length f.moves) 65535 ≡ few → Writes f.moves buffer (cond (short && few) (Ok (length f.moves)) (Err TooLong)) (cond (short && few) (map packed f.moves ++ drop (length f.moves) buffer) buffer)
    writes f buffer true true h k = written (leb-true _ _ h) (leb-true _ _ k)
    writes f buffer true false h k = promise.declined (inr (leb-false _ _ k))
    writes f buffer false true h k = promise.declined (inl (leb-false _ _ h))
    writes f buffer false false h k = promise.declined (inl (leb-false _ _ h))

    written_so : (f : Reading) (buffer : List ℕ) → recorded_reading m c (settled_log m c) ≡ Some f → Writes f.moves buffer (written_told (recorded_reading m c (settled_log m c)) buffer) (moves_written packed (recorded_reading m c (settled_log m c)) buffer)
    written_so f buffer e = subst (λ (o : Option Reading). Writes f.moves buffer (written_told o buffer) (moves_written packed o buffer)) (sym e) (writes f buffer _ _ refl refl)

    reading_of : (f : Reading) → recorded_reading m c (settled_log m c) ≡ Some f → AnsweredReading m c f.cost (min (length f.moves) 65536)
    reading_of f e =
        let r = recorded f e in
        record {
          reading = f.moves;
          recorded = r;
          complete = cheapest.complete f.cost f.moves r;
          number = refl;
          written = λ buffer. written_so f buffer e;
          checked = cheapest.checked f.cost f.moves r;
          cheapest = λ other x h. cheapest.cheapest f.cost x f.moves other r h;
        }

    reading : (o : Option Reading) → recorded_reading m c (settled_log m c) ≡ o → (k n : ℕ) → cost_told o ≡ Ok (k, n) → AnsweredReading m c k n
    reading None e k n h = absurd cc
    reading (Some f) e k n h =
        let same : (f.cost, min (length f.moves) 65536) ≡ (k, n) = cc in
        subst (λ (p : ℕ × ℕ). AnsweredReading m c p.0 p.1) same (reading_of f e)

    none_found : (o : Option Reading) → recorded_reading m c (settled_log m c) ≡ o → cost_told o ≡ Err NoReading → recorded_reading m c (settled_log m c) ≡ None
    none_found None e h = e
    none_found (Some f) e h = absurd cc

    none_below : (settled_cost m c ≡ Err NoReading) ↔ NoReadingBelowWorst m c
    none_below = (
      (λ h. cheapest.none.0 (unread (none_found _ refl h))),
      λ h. ap cost_told ((computed.none (settled_log m c) computed.settled).0 (cheapest.none.1 h)),
    )

    answer : (o : Option Reading) → recorded_reading m c (settled_log m c) ≡ o → AnswersCost m c (settled_log m c) (cost_or_worst m (cost_told o))
    answer None e = inr (unread e, refl)
    answer (Some f) e = inl (f.moves, recorded f e)

  ease : CallsEase m
  ease = promises.eased m laws

  unless_eased : (c done : Content) (o : Option Refusal) → Sound m c → Eased m c done → Eased m c (unless o done c)
  unless_eased c done None h e = e
  unless_eased c done (Some r) h e = ease.same c h

  unless_same : {X : Type 0} (o : Option Refusal) (x : X) (done c : Content) (n : ℕ) → error_number number (refused_or o x) ≡ Some n → unless o done c ≡ c
  unless_same None x done c n e = absurd cc
  unless_same (Some r) x done c n e = refl

  declined_same : (c : Content) (x : Call) (n : ℕ) → is_load x ≡ false → refused_with (draft_answer m c x) ≡ Some n → content (on_draft m c x) ≡ c
  declined_same c (call.Size a b) n other e = unless_same (size_refusal c a b) tt _ c n e
  declined_same c (call.AddRow r) n other e = unless_same (row_refusal m c r) (length c.rows) _ c n e
  declined_same c (call.AddLine l) n other e = unless_same (line_refusal m c l) (length c.lines) _ c n e
  declined_same c (call.RepriceRow i k) n other e = unless_same (reprice_refusal m c.rows i k) tt _ c n e
  declined_same c (call.RepriceLine i k) n other e = unless_same (reprice_refusal m c.lines i k) tt _ c n e
  declined_same c x n other e = absurd cc

  asked_same : (c : Content) {x : Call} → Question x → content (stepped m (settled c) x) ≡ c
  asked_same c cost = refl
  asked_same c q = refl

  step_eased : {s : State} {x : Call} → Sound m (content s) → Eases m s x → Eased m (content s) (content (stepped m s x))
  step_eased h (adds_row {c} {r}) = unless_eased c (with_row c r) (row_refusal m c r) h (ease.row_added c r h)
  step_eased h (adds_line {c} {l}) = unless_eased c (with_line c l) (line_refusal m c l) h (ease.line_added c l h)
  step_eased h (reprices_row {c} {i} {k} r e w) = unless_eased c (with_row_cost c i k) (reprice_refusal m c.rows i k) h (ease.row_repriced c i k r h e w)
  step_eased h (reprices_line {c} {i} {k} l e w) = unless_eased c (with_line_cost c i k) (reprice_refusal m c.lines i k) h (ease.line_repriced c i k l h e w)
  step_eased h (settles {c}) = ease.same c h
  step_eased h (reopens {c}) = ease.same c h
  step_eased h (asks {c} q) = subst (Eased m c) (sym (asked_same c q)) (ease.same c h)
  step_eased h (declined {c} {x} n other e) = subst (Eased m c) (sym (declined_same c x n other e)) (ease.same c h)

  all_eased : {s : State} {xs : List Call} → Sound m (content s) → AllEase m s xs → Eased m (content s) (content (state_from m s xs))
  all_eased {s} h none = ease.same (content s) h
  all_eased {s} h (next {x = x} {xs = xs} e rest) =
      let h' = stepped_sound m (promises.kept m) s x h in
      ease.twice (content s) (content (stepped m s x)) (content (state_from m (stepped m s x) xs)) h h' (state_sound m (promises.kept m) (stepped m s x) xs h') (step_eased h e) (all_eased h' rest)

  reached_sound : (calls : List Call) (c : Content) → state_after m calls ≡ settled c → Sound m c
  reached_sound calls c e = subst (λ (s : State). Sound m (content s)) e (state_sound m (promises.kept m) (draft new) calls (promises.kept m).begun)

  since : (calls before after : List Call) (c c₀ : Content) → state_after m calls ≡ settled c → calls ≡ before ++ after → state_after m before ≡ settled c₀ → state_from m (settled c₀) after ≡ settled c
  since calls before after c c₀ e s f =
      ap (λ (t : State). state_from m t after) (sym f) ∙ sym (state_split m (draft new) before after) ∙ ap (state_after m) (sym s) ∙ e

  pub answers_cheapest_when_settled : (calls : List Call) → AnswersCheapestWhenSettled m calls
  answers_cheapest_when_settled calls c e =
      let sound = reached_sound calls c e in
      record {
        answered = λ k n h. reading c sound _ refl k n h;
        none_below_worst = none_below c sound;
        no_dearer_since = λ before after c₀ split stood all.
            let sound₀ = reached_sound before c₀ stood in
            let eased : Eased m c₀ c = subst (λ (s : State). Eased m c₀ (content s)) (since calls before after c c₀ e split stood) (all_eased sound₀ all) in
            (cheapest c₀ sound₀).eased c (settled_log m c) _ _ sound eased (computed c sound).settled (answer c₀ sound₀ _ refl) (answer c sound _ refl);
      }
