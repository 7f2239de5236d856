-- Adding, and repricing no dearer, eases a content.
use Rattle.std.proofs.Common.{◌≡◌, ℕ, zero, suc, ◌⊎◌, List, [], ◌∷◌, ◌++◌, Some, refl, ◌∙◌, subst, inl, inr, ⊎_elim}
use Rattle.board.proofs.Basics.Membership.{some_eq}
use Rattle.std.proofs.lemmas.Option.{none-some}
use Rattle.std.specs.List.{slice_get}
use Rattle.costs.specs.Meaning.{Meaning, Lawful, NoDearer}
use Rattle.board.specs.declared.row.Row.{Row}
use Rattle.board.specs.declared.row.Line.{Line}
use Rattle.board.specs.Content.{Content, Sound}
use Rattle.board.specs.Calls.{changed, row_at_cost, line_at_cost, with_row, with_line, with_row_cost, with_line_cost}
use Rattle.board.specs.Ease.{Eased, EasedRow, EasedLine, CallsEase}
use Rattle.board.proofs.Basics.Laws.{no_dearer_same}

nth_stays : {A : Type 0} (xs : List A) (x : A) (i : ℕ) (y : A) → slice_get xs i ≡ Some y → slice_get (xs ++ (x ∷ [])) i ≡ Some y
nth_stays [] x i y e = absurd (none-some y e)
nth_stays (z ∷ xs) x zero y e = e
nth_stays (z ∷ xs) x (suc i) y e = nth_stays xs x i y e

-- an element is as it was, or is the changed one
changed_nth : {A : Type 0} (f : A → A) (xs : List A) (j i : ℕ) (x : A) → slice_get xs i ≡ Some x → (slice_get (changed f xs j) i ≡ Some x) ⊎ ((slice_get xs j ≡ Some x) × (slice_get (changed f xs j) i ≡ Some (f x)))
changed_nth f [] j i x e = inl e
changed_nth f (z ∷ xs) zero zero x e = inr (e, cc)
changed_nth f (z ∷ xs) zero (suc i) x e = inl e
changed_nth f (z ∷ xs) (suc j) zero x e = inl e
changed_nth f (z ∷ xs) (suc j) (suc i) x e = changed_nth f xs j i x e

module _ {m : Meaning} (laws : Lawful m) where
  same_row : (c : Content) → Sound m c → (i : ℕ) (r : Row) → slice_get c.rows i ≡ Some r → EasedRow m r r
  same_row c h i r e = record { kind_same = refl; from_same = refl; to_same = refl; label_same = refl; cost_eased = no_dearer_same laws _ (h.sound_rows i r e).price }

  same_line : (c : Content) → Sound m c → (i : ℕ) (l : Line) → slice_get c.lines i ≡ Some l → EasedLine m l l
  same_line c h i l e = record { from_same = refl; to_same = refl; event_same = refl; cost_eased = no_dearer_same laws _ (h.sound_lines i l e).price }

  eased_same : (c : Content) → Sound m c → Eased m c c
  eased_same c h = record { modes_same = refl; moments_same = refl; rows_eased = λ i r e. (r, e, same_row c h i r e); lines_eased = λ i l e. (l, e, same_line c h i l e) }

  eased_both : (a b c : Content) → Sound m a → Sound m b → Sound m c → Eased m a b → Eased m b c → Eased m a c
  eased_both a b c ha hb hc e f = record {
    modes_same = f.modes_same ∙ e.modes_same;
    moments_same = f.moments_same ∙ e.moments_same;
    rows_eased = λ i r g.
        let x = e.rows_eased i r g in
        let y = f.rows_eased i x.0 x.1 in (
          y.0,
          y.1,
          record {
            kind_same = y.2.kind_same ∙ x.2.kind_same;
            from_same = y.2.from_same ∙ x.2.from_same;
            to_same = y.2.to_same ∙ x.2.to_same;
            label_same = y.2.label_same ∙ x.2.label_same;
            cost_eased = laws.trans _ _ _ (hc.sound_rows i _ y.1).price (hb.sound_rows i _ x.1).price (ha.sound_rows i r g).price y.2.cost_eased x.2.cost_eased;
          },
        );
    lines_eased = λ i l g.
        let x = e.lines_eased i l g in
        let y = f.lines_eased i x.0 x.1 in (
          y.0,
          y.1,
          record {
            from_same = y.2.from_same ∙ x.2.from_same;
            to_same = y.2.to_same ∙ x.2.to_same;
            event_same = y.2.event_same ∙ x.2.event_same;
            cost_eased = laws.trans _ _ _ (hc.sound_lines i _ y.1).price (hb.sound_lines i _ x.1).price (ha.sound_lines i l g).price y.2.cost_eased x.2.cost_eased;
          },
        );
  }

  row_added : (c : Content) (r : Row) → Sound m c → Eased m c (with_row c r)
  row_added c r h = record { modes_same = refl; moments_same = refl; rows_eased = λ i x e. (x, nth_stays c.rows r i x e, same_row c h i x e); lines_eased = λ i l e. (l, e, same_line c h i l e) }

  line_added : (c : Content) (l : Line) → Sound m c → Eased m c (with_line c l)
  line_added c l h = record { modes_same = refl; moments_same = refl; rows_eased = λ i r e. (r, e, same_row c h i r e); lines_eased = λ i x e. (x, nth_stays c.lines l i x e, same_line c h i x e) }

  row_eased : (c : Content) (j k : ℕ) (r : Row) → Sound m c → slice_get c.rows j ≡ Some r → NoDearer m k r.cost → Eased m c (with_row_cost c j k)
  row_eased c j k r h e w = record {
    modes_same = refl;
    moments_same = refl;
    rows_eased = λ i x g. ⊎_elim
        (λ f. (x, f, same_row c h i x g))
        (λ f. (row_at_cost k x, f.1, record { kind_same = refl; from_same = refl; to_same = refl; label_same = refl; cost_eased = subst (λ (z : Row). NoDearer m k z.cost) (some_eq _ _ _ e f.0) w }))
        (changed_nth (row_at_cost k) c.rows j i x g);
    lines_eased = λ i l g. (l, g, same_line c h i l g);
  }

  line_eased : (c : Content) (j k : ℕ) (l : Line) → Sound m c → slice_get c.lines j ≡ Some l → NoDearer m k l.cost → Eased m c (with_line_cost c j k)
  line_eased c j k l h e w = record {
    modes_same = refl;
    moments_same = refl;
    rows_eased = λ i r g. (r, g, same_row c h i r g);
    lines_eased = λ i x g. ⊎_elim
        (λ f. (x, f, same_line c h i x g))
        (λ f. (line_at_cost k x, f.1, record { from_same = refl; to_same = refl; event_same = refl; cost_eased = subst (λ (z : Line). NoDearer m k z.cost) (some_eq _ _ _ e f.0) w }))
        (changed_nth (line_at_cost k) c.lines j i x g);
  }

  pub calls_ease : CallsEase m
  calls_ease = record {
    same = eased_same;
    twice = eased_both;
    row_added = row_added;
    line_added = line_added;
    row_repriced = row_eased;
    line_repriced = line_eased;
  }
