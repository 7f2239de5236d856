-- Trimming changes none of the pieces.
use Rattle.std.proofs.Common.{◌≡◌, ℕ, Bool, List, [], ◌∷◌, reverse, sym, refl, ap, ◌∙◌, ⊎_elim}
use Rattle.std.proofs.lemmas.List.{append-nil, reverse-append, reverse-reverse}
use Rattle.std.proofs.lemmas.Bool.{cond-true, cond-false, cases_Bool}
use Rattle.words.specs.Pieces.{pieces_of}
use Rattle.words.specs.Trims.{without_front, trimmed_of, TrimKeepsPieces}
use Rattle.words.proofs.Cutting.{cuts_apart}

module _ (sep : ℕ → Bool) where
  front_pieces : (bs : List ℕ) → pieces_of sep (without_front sep bs) ≡ pieces_of sep bs
  front_pieces [] = refl
  front_pieces (b ∷ bs) =
      ⊎_elim
      (λ goes. ap (pieces_of sep) (cond-true _ _ _ goes) ∙ front_pieces bs ∙ sym ((cuts_apart sep).apart [] b bs goes))
      (λ stays. ap (pieces_of sep) (cond-false _ _ _ stays))
      (cases_Bool (sep b))

  turned_pieces : (rs : List ℕ) → pieces_of sep (reverse (without_front sep rs)) ≡ pieces_of sep (reverse rs)
  turned_pieces [] = refl
  turned_pieces (r ∷ rs) =
      ⊎_elim
      (λ goes. ap (λ l. pieces_of sep (reverse l)) (cond-true _ _ _ goes) ∙ turned_pieces rs ∙ sym (ap (pieces_of sep) (reverse-append (r ∷ []) rs) ∙ (cuts_apart sep).apart (reverse rs) r [] goes ∙ append-nil (pieces_of sep (reverse rs))))
      (λ stays. ap (λ l. pieces_of sep (reverse l)) (cond-false _ _ _ stays))
      (cases_Bool (sep r))

  pub same_pieces : TrimKeepsPieces sep
  unfolding trimmed_of
  same_pieces bs =
      let kept = without_front sep bs in
      turned_pieces (reverse kept) ∙ ap (pieces_of sep) (reverse-reverse kept) ∙ front_pieces bs
