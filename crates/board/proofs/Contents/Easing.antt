-- Adding rows and lines, and making costs no dearer, makes the answer no dearer.
use Rattle.std.proofs.Common.{◌≡◌, ℕ, List, [], ◌∷◌, Option, sym, refl, ap, ◌∙◌, subst, inl, inr, ⊎_elim, arith}
use Rattle.costs.specs.Meaning.{Meaning, Lawful, Cost, NoDearer}
use Rattle.costs.specs.Lists.{joined, joined_onto}
use Rattle.board.specs.declared.row.Row.{Row}
use Rattle.board.specs.declared.moves.Move.{Move}
use Rattle.board.specs.declared.moves.Effect.{Effect}
use Rattle.board.specs.Content.{Content, Sound}
use Rattle.board.specs.Moves.{Place, moment, effect_of, effect, EndMoment, Untimed, Timed, Transition}
use Rattle.board.specs.Paths.{Path, stop, go, Complete}
use Rattle.board.specs.Settling.{Record, SettledLog, AnswersCost}
use Rattle.board.specs.Ease.{Eased, EasedRow}
use Rattle.board.proofs.Basics.Laws.{no_dearer_same, join_no_dearer}
use Rattle.board.proofs.Paths.Decomposing.{transition_cost}
use Rattle.board.proofs.Questions.Readings.{complete_cost, answer_least, answer_cost, recorded_complete}

module _ {m : Meaning} {c c' : Content} (laws : Lawful m) (sound : Sound m c) (sound' : Sound m c') (eased : Eased m c c') where
  untimed' : {r r' : Row} {w : Option ℕ} {t u k : ℕ} → EasedRow m r r' → Untimed c r w t u k → Untimed c' r' w t u r'.cost
  untimed' {t = t} e s = record {
    alone = s.alone;
    no_event = λ h. e.label_same ∙ s.no_event (sym e.kind_same ∙ h);
    at_end = λ h. subst (λ (n : ℕ). EndMoment n t) (sym eased.moments_same) (s.at_end (sym e.kind_same ∙ h));
    there = omega (arith, eased.moments_same);
    keeps = s.keeps;
    price = refl;
  }

  -- the same move on the other content, no dearer
  transition' : {v : Move} {p q : Place} {k : ℕ} {e : Effect} → Transition m c v p q k e → (n : ℕ) × Transition m c' v p q n e × NoDearer m n k
  transition' {v} {p} {q} {k} {e} g =
      let row = eased.rows_eased _ _ g.found in
      let r' = row.0 in
      let ease = row.2 in
      let does' : e ≡ effect r' = g.does ∙ ap (λ z. effect_of z g.by.label) (sym ease.kind_same) ∙ ap (effect_of r'.kind) (sym ease.label_same) in
      let by_row : Untimed c g.by v.line (moment p) (moment q) k → (n : ℕ) × Transition m c' v p q n e × NoDearer m n k = λ s.
      (r'.cost, record { by = r'; found = row.1; leaves = g.leaves ∙ sym ease.from_same; enters = g.enters ∙ sym ease.to_same; does = does'; time = inl (untimed' ease s) }, subst (λ z. NoDearer m r'.cost z) (sym s.price) ease.cost_eased) in
      let by_line : Timed m c g.by v.line (moment p) (moment q) k → (n : ℕ) × Transition m c' v p q n e × NoDearer m n k = λ s.
      let line = eased.lines_eased _ _ s.found in
      let l' = line.0 in
      let el = line.2 in
      let timed : Timed m c' r' v.line (moment p) (moment q) (m.join r'.cost l'.cost) = record {
        number = s.number;
        taken = l';
        along = s.along;
        found = line.1;
        is_plain = ease.kind_same ∙ s.is_plain;
        some_event = λ h. s.some_event (sym ease.label_same ∙ h);
        same_event = el.event_same ∙ s.same_event ∙ sym ease.label_same;
        depart = s.depart ∙ sym el.from_same;
        arrive = s.arrive ∙ sym el.to_same;
        price = refl;
      } in (
        m.join r'.cost l'.cost,
        record { by = r'; found = row.1; leaves = g.leaves ∙ sym ease.from_same; enters = g.enters ∙ sym ease.to_same; does = does'; time = inr timed },
        subst (λ z. NoDearer m (m.join r'.cost l'.cost) z) (sym s.price) (join_no_dearer laws _ _ _ _ (sound'.sound_rows _ _ row.1).price (sound.sound_rows _ _ g.found).price (sound'.sound_lines _ _ line.1).price (sound.sound_lines _ _ s.found).price ease.cost_eased el.cost_eased),
      ) in
      ⊎_elim by_row by_line g.time

  -- the same path, no dearer onto what is no dearer
  path' : {vs : List Move} {p q : Place} {ks : List ℕ} {es : List Effect} (a b : ℕ) → Cost m a → Cost m b → NoDearer m b a → Path m c vs p q ks es → (ls : List ℕ) × Path m c' vs p q ls es × NoDearer m (joined_onto m b ls) (joined_onto m a ks)
  path' a b ha hb h stop = ([], stop, h)
  path' a b ha hb h (go {k = k} g p) =
      let g' = transition' g in
      let hk = transition_cost laws sound g in
      let hn = transition_cost laws sound' g'.1 in
      let rest = path' (m.join a k) (m.join b g'.0) (laws.join_cost _ _ ha hk) (laws.join_cost _ _ hb hn) (join_no_dearer laws _ _ _ _ hb ha hn hk h g'.2) p in
      (g'.0 ∷ rest.0, go g'.1 rest.1, rest.2)

  complete' : {vs : List Move} {k : ℕ} → Complete m c vs k → (n : ℕ) × Complete m c' vs n × NoDearer m n k
  complete' h =
      let p = path' m.free m.free laws.free_cost laws.free_cost (no_dearer_same laws _ laws.free_cost) h.path in
      (joined m p.0, record { costs = p.0; body = h.body; stops = h.stops; path = p.1; balanced = h.balanced; running = h.running; price = refl }, subst (λ z. NoDearer m (joined m p.0) z) (sym h.price) p.2)

  pub answer_eased : {log log' : List Record} {k k' : ℕ} → SettledLog m c log → SettledLog m c' log' → AnswersCost m c log k → AnswersCost m c' log' k' → NoDearer m k' k
  answer_eased {k = k} {k' = k'} d d' (inl r) a' =
      let h = complete' (recorded_complete laws sound d r.1) in
      laws.trans k' h.0 k (answer_cost laws sound' d' a') (complete_cost laws sound' h.1) (answer_cost laws sound d (inl r)) (answer_least laws sound' d' a' h.1) h.2
  answer_eased {k = k} {k' = k'} d d' (inr u) a' = subst (λ z. NoDearer m k' z) (sym u.1) (laws.worst_most k' (answer_cost laws sound' d' a'))
