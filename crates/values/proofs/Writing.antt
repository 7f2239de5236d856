-- What a text in a fixed buffer holds after it took a value's plain text.
use Rattle.std.proofs.Common.{◌≡◌, ap, sym, ◌∙◌, ℕ, List, [], ◌∷◌, ◌++◌, Option, Some, None, IfSome}
use Rattle.std.proofs.lemmas.List.{append-nil, append_assoc}
use Rattle.std.specs.List.{FoldsTo, concat}
use Rattle.std.specs.Fmt.{WritesText}
use Rattle.std.specs.Fmt.InlineText.{inline_text, IsIntact, AppendsIfIntact}
use Rattle.std.specs.declared.fmt.InlineText.{InlineText}

module _ {n : ℕ} where
  -- the parts that it took stand behind what it held
  parts_stand_behind : (s : InlineText n) (parts : List (List ℕ)) (t : InlineText n) → IsIntact s → FoldsTo AppendsIfIntact s parts t
      → inline_text t ≡ inline_text s ++ concat parts
  parts_stand_behind s [] t whole taken = ap inline_text (sym taken) ∙ sym (append-nil (inline_text s))
  parts_stand_behind s (part ∷ parts) t whole taken =
      let first = taken.1 whole in
      parts_stand_behind taken.0 parts t first.0 taken.2 ∙ ap (λ front. front ++ concat parts) first.1
      ∙ append_assoc (inline_text s) part (concat parts)

  -- an empty one holds the value's text
  pub holds_the_text : (s : InlineText n) (o : Option (List ℕ)) (t : InlineText n) → IsIntact s → inline_text s ≡ [] → WritesText AppendsIfIntact s o t
      → IfSome o (λ text. inline_text t ≡ text)
  holds_the_text s None t whole empty taken = tt
  holds_the_text s (Some text) t whole empty taken =
      parts_stand_behind s taken.parts t whole taken.calls ∙ ap (λ front. front ++ concat taken.parts) empty ∙ taken.whole
