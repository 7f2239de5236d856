-- The Dyck language by a stack.
use Rattle.board.specs.declared.moves.Effect.{Effect}
use Rattle.board.specs.declared.moves.Effect.TheVariants.{Quiet, Opens, Closes, Ends}
use Rattle.std.proofs.Common.{◌≡◌, ℕ, Bool, true, false, cond, eqb, List, [], ◌∷◌, ◌++◌, Some, None, sym, refl, ap, ◌∙◌, subst, append_assoc, append-nil}
use Rattle.std.proofs.lemmas.Bool.{eqb-true, eq-eqb}
use Rattle.board.specs.Paths.{brackets, Balanced, Dyck, empty, both, pair, stack, GrammarIsStack}

pub over_dyck : {w : List Effect} → Dyck w → (rest : List Effect) (st : List ℕ) → stack (w ++ rest) st ≡ stack rest st
over_dyck empty rest st = refl
over_dyck (both {a} {b} d e) rest st = ap (λ z. stack z st) (append_assoc a b rest) ∙ over_dyck d (b ++ rest) st ∙ over_dyck e rest st
over_dyck (pair {a} n d) rest st = ap (λ z. stack z (n ∷ st)) (append_assoc a (Closes n ∷ []) rest) ∙ over_dyck d (Closes n ∷ rest) (n ∷ st) ∙ ap (λ t. cond t (stack rest st) None) (eq-eqb n n refl)

pub stack_brackets : (es : List Effect) (st : List ℕ) → stack es st ≡ stack (brackets es) st
stack_brackets [] st = refl
stack_brackets (Quiet ∷ es) st = stack_brackets es st
stack_brackets (Opens n ∷ es) st = stack_brackets es (n ∷ st)
stack_brackets (Closes n ∷ es) [] = refl
stack_brackets (Closes n ∷ es) (x ∷ st) = ap (λ z. cond (eqb x n) z None) (stack_brackets es st)
stack_brackets (Ends ∷ es) st = stack_brackets es st

-- a word that closes what is open
abbrev Closing : List ℕ → List Effect → Type 0
Closing [] w = Dyck w
Closing (n ∷ st) w = (a b : List Effect) × (w ≡ a ++ (Closes n ∷ b)) × Dyck a × Closing st b

closing_eq : (st : List ℕ) (v w : List Effect) → v ≡ w → Closing st v → Closing st w
closing_eq st v w e h = subst (Closing st) e h

closing_after : (st : List ℕ) (d b : List Effect) → Dyck d → Closing st b → Closing st (d ++ b)
closing_after [] d b h c = both h c
closing_after (n ∷ st) d b h c = (d ++ c.0, c.1, ap (λ z. d ++ z) c.2 ∙ sym (append_assoc d c.0 (Closes n ∷ c.1)), both h c.3, c.4)

closing : (es : List Effect) (st : List ℕ) → stack es st ≡ Some [] → Closing st (brackets es)
closing [] [] e = empty
closing [] (x ∷ st) e = absurd cc
closing (Quiet ∷ es) st e = closing es st e
closing (Opens n ∷ es) st e =
    let c = closing es (n ∷ st) e in
    let word : (Opens n ∷ (c.0 ++ (Closes n ∷ []))) ++ c.1 ≡ Opens n ∷ brackets es = ap (λ z. Opens n ∷ z) (append_assoc c.0 (Closes n ∷ []) c.1 ∙ sym c.2) in
    closing_eq st _ _ word (closing_after st (Opens n ∷ (c.0 ++ (Closes n ∷ []))) c.1 (pair n c.3) c.4)
closing (Closes n ∷ es) [] e = absurd cc
closing (Closes n ∷ es) (x ∷ st) e = same (eqb x n) refl e (closing es st)
  where
    same : (t : Bool) → eqb x n ≡ t → cond t (stack es st) None ≡ Some [] → (stack es st ≡ Some [] → Closing st (brackets es)) → Closing (x ∷ st) (Closes n ∷ brackets es)
    same true f g rest = ([], brackets es, ap (λ z. Closes z ∷ brackets es) (sym (eqb-true x n f)), empty, rest g)
    same false f g rest = absurd cc
closing (Ends ∷ es) st e = closing es st e

pub balanced_stack : GrammarIsStack
balanced_stack es = (λ d. stack_brackets es [] ∙ ap (λ z. stack z []) (sym (append-nil (brackets es))) ∙ over_dyck d [] [], closing es [])

pub brackets-++ : (a b : List Effect) → brackets (a ++ b) ≡ brackets a ++ brackets b
brackets-++ [] b = refl
brackets-++ (Quiet ∷ a) b = brackets-++ a b
brackets-++ (Opens n ∷ a) b = ap (λ z. Opens n ∷ z) (brackets-++ a b)
brackets-++ (Closes n ∷ a) b = ap (λ z. Closes n ∷ z) (brackets-++ a b)
brackets-++ (Ends ∷ a) b = brackets-++ a b

-- an end row adds no bracket
pub body_stack : (body : List Effect) → Balanced (body ++ (Ends ∷ [])) → stack body [] ≡ Some []
body_stack body b = (balanced_stack body).0 (subst Dyck (brackets-++ body (Ends ∷ []) ∙ append-nil _) b)

pub stack_body : (body : List Effect) → stack body [] ≡ Some [] → Balanced (body ++ (Ends ∷ []))
stack_body body s = subst Dyck (sym (brackets-++ body (Ends ∷ []) ∙ append-nil _)) ((balanced_stack body).1 s)
