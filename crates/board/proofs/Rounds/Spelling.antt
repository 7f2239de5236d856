-- A record spelled out is a balanced path at the recorded cost.
use Rattle.std.proofs.Common.{◌≡◌, ℕ, List, [], ◌∷◌, ◌++◌, sym, refl, ap, ◌∙◌, subst, inl, inr}
use Rattle.costs.specs.Meaning.{Meaning, Lawful, Cost}
use Rattle.costs.specs.Lists.{Costs, joined, joined_onto}
use Rattle.board.specs.declared.moves.Move.{Move}
use Rattle.board.specs.declared.moves.Effect.{Effect}
use Rattle.board.specs.declared.moves.Effect.TheVariants.{Quiet, Opens, Closes, Ends}
use Rattle.board.specs.Content.{Content, Sound}
use Rattle.board.specs.Moves.{Place}
use Rattle.board.specs.Paths.{Path, stop, go, Dyck, empty, both, pair, Balanced, Running, BalancedPath}
use Rattle.board.specs.Settling.{In, Record, start_record, Candidate, step, call, Rounds, begin, round}
use Rattle.board.proofs.Basics.Joining.{joined_append, joined_cost, onto_total}
use Rattle.board.proofs.Paths.Balance.{brackets-++}
use Rattle.board.proofs.Paths.Decomposing.{transition_cost, path_costs}
use Rattle.board.proofs.Rounds.Diagonal.{started}

running-++ : (a b : List Effect) → Running a → Running b → Running (a ++ b)
running-++ [] b h g = g
running-++ (Quiet ∷ a) b h g = running-++ a b h g
running-++ (Opens n ∷ a) b h g = running-++ a b h g
running-++ (Closes n ∷ a) b h g = running-++ a b h g
running-++ (Ends ∷ a) b h g = absurd h

pub balanced-++ : (a b : List Effect) → Balanced a → Balanced b → Balanced (a ++ b)
balanced-++ a b h g = subst Dyck (sym (brackets-++ a b)) (both h g)

balanced_in : (n : ℕ) (a : List Effect) → Balanced a → Balanced (Opens n ∷ (a ++ (Closes n ∷ [])))
balanced_in n a h = subst Dyck (ap (λ z. Opens n ∷ z) (sym (brackets-++ a (Closes n ∷ [])))) (pair n h)

pub path-++ : {m : Meaning} {c : Content} {vs ws : List Move} {s r q : Place} {ks ls : List ℕ} {es fs : List Effect} → Path m c vs s r ks es → Path m c ws r q ls fs → Path m c (vs ++ ws) s q (ks ++ ls) (es ++ fs)
path-++ stop p = p
path-++ (go g p) p' = go g (path-++ p p')

module _ {m : Meaning} {c : Content} (laws : Lawful m) (sound : Sound m c) where
  pub balanced_cost : {vs : List Move} {s q : Place} {k : ℕ} → BalancedPath m c vs s q k → Cost m k
  balanced_cost b = subst (λ x. Cost m x) (sym b.price) (joined_cost laws _ (path_costs laws sound b.path))

  Spelled : Record → Type 0
  Spelled a = BalancedPath m c a.moves a.from a.to a.cost

  -- the costs of a step
  step_joined : (a k : ℕ) (ks : List ℕ) → a ≡ joined m ks → m.join a k ≡ joined m (ks ++ (k ∷ []))
  step_joined a k ks e = ap (λ z. m.join z k) e ∙ sym (joined_append m m.free ks (k ∷ []))

  -- the costs of a call
  call_joined : (a k b l : ℕ) (ks ls : List ℕ) → Cost m a → Cost m k → Costs m ls → a ≡ joined m ks → b ≡ joined m ls → m.join (m.join (m.join a k) b) l ≡ joined m (ks ++ (k ∷ (ls ++ (l ∷ []))))
  call_joined a k b l ks ls ha hk hls ea eb =
      ap (λ z. m.join (m.join (m.join a k) z) l) eb
      ∙ ap (λ z. m.join z l) (sym (onto_total laws (m.join a k) ls (laws.join_cost a k ha hk) hls))
      ∙ sym (joined_append m (m.join a k) ls (l ∷ []))
      ∙ ap (λ z. joined_onto m (m.join z k) (ls ++ (l ∷ []))) ea
      ∙ sym (joined_append m m.free ks (k ∷ (ls ++ (l ∷ []))))

  candidate_spelled : {log : List Record} {x : Record} → ((a : Record) → In a log → Spelled a) → Candidate m c log x → Spelled x
  unfolding Spelled
  candidate_spelled all (step a {k = k} i g) =
      let s = all a i in
      record {
        costs = s.costs ++ (k ∷ []);
        effects = s.effects ++ (Quiet ∷ []);
        path = path-++ s.path (go g stop);
        balanced = balanced-++ s.effects (Quiet ∷ []) s.balanced empty;
        running = running-++ s.effects (Quiet ∷ []) s.running tt;
        price = step_joined a.cost k s.costs s.price;
      }
  candidate_spelled all (call a b {k = k} {l = l} {n = n} i g j h) =
      let s = all a i in
      let t = all b j in
      let inner = t.effects ++ (Closes n ∷ []) in
      record {
        costs = s.costs ++ (k ∷ (t.costs ++ (l ∷ [])));
        effects = s.effects ++ (Opens n ∷ inner);
        path = path-++ s.path (go g (path-++ t.path (go h stop)));
        balanced = balanced-++ s.effects (Opens n ∷ inner) s.balanced (balanced_in n t.effects t.balanced);
        running = running-++ s.effects (Opens n ∷ inner) s.running (running-++ t.effects (Closes n ∷ []) t.running tt);
        price = call_joined a.cost k b.cost l s.costs t.costs (balanced_cost s) (transition_cost laws sound g) (path_costs laws sound t.path) s.price t.price;
      }

  start_spelled : (p : Place) → Spelled (start_record m p)
  unfolding Spelled
  start_spelled p = record { costs = []; effects = []; path = stop; balanced = empty; running = tt; price = refl }

  all_spelled : {n : ℕ} {log : List Record} → Rounds m c n log → (a : Record) → In a log → Spelled a
  all_spelled begin a i =
      let e = started m c a i in
      subst Spelled (sym e.1) (start_spelled e.0)
  all_spelled (round s r) a (inl e) = subst Spelled (sym e) (candidate_spelled (all_spelled s) r.candidate)
  all_spelled (round s r) a (inr i) = all_spelled s a i

  pub spelled : {n : ℕ} {log : List Record} → Rounds m c n log → (a : Record) → In a log → BalancedPath m c a.moves a.from a.to a.cost
  unfolding Spelled
  spelled s a i = all_spelled s a i
