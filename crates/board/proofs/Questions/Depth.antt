-- A record has no more brackets open at once than there were rounds, and so the check accepts the recorded reading.
use Rattle.std.proofs.Common.{◌≡◌, ℕ, suc, ◌+◌, ◌≤◌, Bool, true, false, cond, eqb, ◌⊎◌, List, [], ◌∷◌, ◌++◌, map, length, Some, None, sym, refl, ap, ◌∙◌, subst, inl, inr, ⊎_elim, append_assoc, mul-le-mul, arith}
use Rattle.std.proofs.lemmas.Option.{none-some, same_Some}
use Rattle.costs.specs.Meaning.{Meaning, Lawful}
use Rattle.board.specs.declared.moves.Move.{Move}
use Rattle.board.specs.declared.moves.Effect.{Effect}
use Rattle.board.specs.declared.moves.Effect.TheVariants.{Quiet, Opens, Closes, Ends}
use Rattle.board.specs.Content.{Content, Sound}
use Rattle.board.specs.Moves.{Place, origin, effect}
use Rattle.board.specs.Paths.{Path, stop, go, brackets, Balanced, stack, Complete}
use Rattle.board.specs.Packing.{packed}
use Rattle.board.specs.Accepted.{ShallowFrom}
use Rattle.board.specs.Settling.{In, Record, start_record, diagonal, Candidate, step, call, Rounds, begin, round, SettledLog, ReadingBy}
use Rattle.board.specs.Computing.{pair_count}
use Rattle.board.specs.Promises.{RecordedIsChecked}
use Rattle.board.proofs.Basics.Membership.{some_eq}
use Rattle.board.proofs.Paths.Balance.{over_dyck, stack_brackets, brackets-++}
use Rattle.board.proofs.Rounds.Diagonal.{started}
use Rattle.board.proofs.Paths.Decomposing.{same_head, same_tail, no_cons}
use Rattle.board.proofs.Rounds.Spelling.{spelled, path-++}
use Rattle.board.proofs.Questions.Readings.{reading_complete}
use Rattle.board.proofs.Rounds.Existence.{board_pairs, length_board_pairs, open_in, open_length, round_fewer}
use Rattle.board.proofs.Questions.Packs.{path_small}
use Rattle.board.proofs.Questions.Packs.{all_unpacked}
use Rattle.board.proofs.Checking.Accepting.{accepts}

-- never more than n brackets are open above those that were open before
abbrev DepthWithin : ℕ → List Effect → Type 0
DepthWithin n es = (front rest : List Effect) (st now-open : List ℕ) → es ≡ front ++ rest → stack front st ≡ Some now-open → length now-open ≤ n + length st

-- a front of two lists one after the other is a front of the first, or the first and a front of the second
front_of : (a b front rest : List Effect) → a ++ b ≡ front ++ rest → ((more : List Effect) × (a ≡ front ++ more)) ⊎ ((more : List Effect) × (front ≡ a ++ more) × (b ≡ more ++ rest))
front_of [] b front rest e = inr (front, refl, e)
front_of (x ∷ a) b [] rest e = inl (x ∷ a, refl)
front_of (x ∷ a) b (y ∷ front) rest e =
    let h = same_head _ _ _ _ e in
    ⊎_elim
    (λ z. inl (z.0, λ i. h i ∷ z.1 i))
    (λ z. inr (z.0, (λ i. sym h i ∷ z.1 i), z.2))
    (front_of a b front rest (same_tail _ _ _ _ e))

-- balanced effects leave open what was open
over_balanced : (a es : List Effect) (st : List ℕ) → Balanced a → stack (a ++ es) st ≡ stack es st
over_balanced a es st d = stack_brackets (a ++ es) st ∙ ap (λ z. stack z st) (brackets-++ a es) ∙ over_dyck d (brackets es) st ∙ sym (stack_brackets es st)

-- the depth of effects, from their parts
module _ (n : ℕ) where
  within_none : DepthWithin n []
  within_none [] rest st o e s = let l = ap length (same_Some st o s) in omega arith
  within_none (x ∷ front) rest st o e s = absurd (no_cons _ _ e)

  within_still : (x : Effect) (es : List Effect) → ((fs : List Effect) (st : List ℕ) → stack (x ∷ fs) st ≡ stack fs st) → DepthWithin n es → DepthWithin n (x ∷ es)
  within_still x es still h [] rest st o e s = let l = ap length (same_Some st o s) in omega arith
  within_still x es still h (y ∷ front) rest st o e s =
      h front rest st o (same_tail _ _ _ _ e) (sym (still front st) ∙ ap (λ z. stack (z ∷ front) st) (same_head _ _ _ _ e) ∙ s)

  within_open : (b : ℕ) (es : List Effect) → DepthWithin n es → DepthWithin (suc n) (Opens b ∷ es)
  within_open b es h [] rest st o e s = let l = ap length (same_Some st o s) in omega arith
  within_open b es h (y ∷ front) rest st o e s =
      let k = h front rest (b ∷ st) o (same_tail _ _ _ _ e) (ap (λ z. stack (z ∷ front) st) (same_head _ _ _ _ e) ∙ s) in
      omega arith

  within_close : (b : ℕ) (es : List Effect) → DepthWithin n es → DepthWithin n (Closes b ∷ es)
  within_close b es h [] rest st o e s = let l = ap length (same_Some st o s) in omega arith
  within_close b es h (y ∷ front) rest st o e s = closed st (ap (λ z. stack (z ∷ front) st) (same_head _ _ _ _ e) ∙ s)
    where
      matched : (t : Bool) (st : List ℕ) → cond t (stack front st) None ≡ Some o → length o ≤ n + length st
      matched true st s = h front rest st o (same_tail _ _ _ _ e) s
      matched false st s = absurd (none-some o s)

      closed : (st : List ℕ) → stack (Closes b ∷ front) st ≡ Some o → length o ≤ n + length st
      closed [] s = absurd (none-some o s)
      closed (x ∷ st) s = let k = matched (eqb x b) st s in omega arith

  within_both : (a b : List Effect) → Balanced a → DepthWithin n a → DepthWithin n b → DepthWithin n (a ++ b)
  within_both a b d h g front rest st o e s =
      ⊎_elim
      (λ z. h front z.0 st o z.1 s)
      (λ z. g z.0 rest st o z.2 (sym (over_balanced a z.0 st d) ∙ ap (λ l. stack l st) (sym z.1) ∙ s))
      (front_of a b front rest e)

  within_more : (k : ℕ) (es : List Effect) → k ≤ n → DepthWithin k es → DepthWithin n es
  within_more k es l h front rest st o e s = let z = h front rest st o e s in omega arith

-- a list of moves has one list of effects
same_effects : {m : Meaning} {c : Content} {vs : List Move} {p q p' q' : Place} {ks ls : List ℕ} {es fs : List Effect} → Path m c vs p q ks es → Path m c vs p' q' ls fs → es ≡ fs
same_effects stop stop = refl
same_effects (go {e = d} g p) (go {e = d'} g' p') =
    let head : d ≡ d' = g.does ∙ ap effect (some_eq _ _ _ g.found g'.found) ∙ sym g'.does in
    let rest = same_effects p p' in
    λ i. head i ∷ rest i

-- every path of the record's moves has at most n brackets open at once
abbrev MovesWithin : Meaning → Content → ℕ → Record → Type 0
MovesWithin m c n a = (p q : Place) (ks : List ℕ) (es : List Effect) → Path m c a.moves p q ks es → DepthWithin n es

module _ {m : Meaning} {c : Content} (laws : Lawful m) (sound : Sound m c) where
  start_within : (s : Place) → MovesWithin m c 0 (start_record m s)
  start_within s p q ks es path = subst (DepthWithin 0) (same_effects (stop {p = p}) path) (within_none 0)

  candidate_within : {n : ℕ} {log : List Record} {x : Record} → Rounds m c n log → ((a : Record) → In a log → MovesWithin m c n a) → Candidate m c log x → MovesWithin m c (suc n) x
  candidate_within {n} s all (step a i g) p q ks es path =
      let sa = spelled laws sound s a i in
      let da = within_more (suc n) n sa.effects (omega arith) (all a i _ _ _ _ sa.path) in
      subst (DepthWithin (suc n)) (same_effects (path-++ sa.path (go g stop)) path) (within_both (suc n) sa.effects (Quiet ∷ []) sa.balanced da (within_still (suc n) Quiet [] (λ fs st. refl) (within_none (suc n))))
  candidate_within {n} s all (call a b {n = x} i g j h) p q ks es path =
      let sa = spelled laws sound s a i in
      let sb = spelled laws sound s b j in
      let da = within_more (suc n) n sa.effects (omega arith) (all a i _ _ _ _ sa.path) in
      let db = within_both n sb.effects (Closes x ∷ []) sb.balanced (all b j _ _ _ _ sb.path) (within_close n x [] (within_none n)) in
      subst (DepthWithin (suc n)) (same_effects (path-++ sa.path (go g (path-++ sb.path (go h stop)))) path) (within_both (suc n) sa.effects (Opens x ∷ (sb.effects ++ (Closes x ∷ []))) sa.balanced da (within_open n x (sb.effects ++ (Closes x ∷ [])) db))

  -- each record that n rounds have settled never has more than n brackets open
  moves_within : {n : ℕ} {log : List Record} → Rounds m c n log → (a : Record) → In a log → MovesWithin m c n a
  moves_within begin a i = let e = started m c a i in subst (MovesWithin m c 0) (sym e.1) (start_within e.0)
  moves_within {n} (round s r) a (inl e) = subst (MovesWithin m c n) (sym e) (candidate_within s (moves_within s) r.candidate)
  moves_within {n} (round {n = k} s r) a (inr i) = λ p q ks es path. within_more n k es (omega arith) (moves_within s a i p q ks es path)

  -- a reading of a log of at most 4,096 rounds never has more than 4,096 brackets open
  reading_shallow : {n : ℕ} {log : List Record} {i k : ℕ} {vs : List Move} → Rounds m c n log → n ≤ 4096 → ReadingBy m c log i k vs → (h : Complete m c vs k) → ShallowFrom [] h.body
  reading_shallow {n} s few r h front rest o e st =
      let b = spelled laws sound s r.held r.logged in
      let path = subst (λ ws. Path m c ws origin h.stops h.costs (h.body ++ (Ends ∷ []))) r.moves_are h.path in
      let ending = within_still n Ends [] (λ fs st. refl) (within_none n) in
      let whole = within_both n b.effects (Ends ∷ []) b.balanced (moves_within s r.held r.logged _ _ _ _ b.path) ending in
      let same : b.effects ++ (Ends ∷ []) ≡ front ++ (rest ++ (Ends ∷ [])) = same_effects (path-++ b.path (go r.over stop)) path ∙ ap (λ l. l ++ (Ends ∷ [])) e ∙ append_assoc front rest (Ends ∷ []) in
      omega (arith, whole front (rest ++ (Ends ∷ [])) [] o same st)

  -- the check accepts the recorded reading of a log of at most 4,096 rounds
  pub recorded_checked : {n : ℕ} {log : List Record} → Rounds m c n log → n ≤ 4096 → RecordedIsChecked m c log
  recorded_checked s few k vs r =
      let h = reading_complete laws sound s r.reads in
      (accepts (map packed vs) k).1 (record { moves = vs; packs = all_unpacked vs (path_small sound h.path); complete = h; shallow = reading_shallow s few r.reads h })

  -- each round settles a pair
  rounds_open : {n : ℕ} {log : List Record} → Rounds m c n log → n + open_in log (board_pairs c) ≤ pair_count c
  rounds_open begin = omega (arith, open_length (diagonal m c) (board_pairs c), length_board_pairs c)
  rounds_open (round s r) = let h = rounds_open s in let k = round_fewer laws sound s r in omega arith

  -- and so there are at most 4,096
  pub rounds_few : {n : ℕ} {log : List Record} → Rounds m c n log → n ≤ 4096
  rounds_few s = let h = rounds_open s in let k = mul-le-mul sound.few_places sound.few_places in omega arith

  pub settled_checked : {log : List Record} → SettledLog m c log → RecordedIsChecked m c log
  settled_checked d = recorded_checked d.reached (rounds_few d.reached)
