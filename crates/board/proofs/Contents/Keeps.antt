-- Every call on a draft keeps its content sound.
use Rattle.std.proofs.Common.{◌≡◌, ℕ, ◌*◌, ◌<◌, ◌≤◌, Bool, true, false, cond, List, length, Some, None, Option, sym, refl, ◌∙◌, subst, ⊎_elim, arith, length-append}
use Rattle.std.proofs.lemmas.Option.{none-some}
use Rattle.std.proofs.lemmas.Bool.{or_parts, not-false, eqb-true, eqb-false, ltb-false, leb-false}
use Rattle.costs.specs.Meaning.{Meaning, Cost}
use Rattle.board.specs.declared.row.RowKind.{RowKind}
use Rattle.board.specs.declared.row.RowKind.TheVariants.{Plain, Open, Close, End}
use Rattle.board.specs.declared.row.Row.{Row}
use Rattle.board.specs.declared.row.Line.{Line}
use Rattle.board.specs.declared.refusal.Refusal.{Refusal}
use Rattle.board.specs.Refusals.{first_refusal, unless}
use Rattle.board.specs.Rows.{formed}
use Rattle.board.specs.Content.{Content, new, Sound, SoundRow, SoundLine}
use Rattle.board.specs.Calls.{size_refusal, with_size, size_after, row_refusal, with_row, row_after, line_refusals, line_refusal, with_line, line_after, reprice_refusal, row_at_cost, line_at_cost, with_row_cost, with_line_cost, reprice_row_after, reprice_line_after, without_lines, CallsKeepSound}
use Rattle.board.proofs.Basics.Elements.{nth_push, nth_changed, nth_empty, length_changed, factors}

-- where none of the reasons applies, the first does not, nor do the others
pub none_first : {A : Type 0} (b : Bool) (e : A) (o : Option A) → cond b (Some e) o ≡ None → (b ≡ false) × (o ≡ None)
none_first true e o h = absurd (none-some e (sym h))
none_first false e o h = (refl, h)

pub unless_keeps : {X : Type 0} (P : X → Type 0) (o : Option Refusal) (done old : X) → (o ≡ None → P done) → P old → P (unless o done old)
unless_keeps P None done old f h = f refl
unless_keeps P (Some e) done old f h = h

-- a row's cost has no part in how it is formed
pub formed_at_cost : (kind : RowKind) (r : Row) (k : ℕ) → formed kind (row_at_cost k r) ≡ formed kind r
formed_at_cost Plain r k = refl
formed_at_cost Open r k = refl
formed_at_cost Close r k = refl
formed_at_cost End r k = refl

module _ (m : Meaning) where
  -- sound rows and lines depend on the size alone
  row_on : (c c' : Content) (r : Row) → c.modes ≡ c'.modes → SoundRow m c r → SoundRow m c' r
  row_on c c' r e h = record { from_in = omega (arith, e, h.from_in); to_in = omega (arith, e, h.to_in); well_formed = h.well_formed; price = h.price }

  line_on : (c c' : Content) (l : Line) → c.moments ≡ c'.moments → SoundLine m c l → SoundLine m c' l
  line_on c c' l e h = record { from_in = omega (arith, e, h.from_in); to_in = omega (arith, e, h.to_in); some_event = h.some_event; price = h.price }

  pub new_sound : Sound m new
  new_sound = record {
    some_mode = omega arith;
    some_moment = omega arith;
    few_places = omega arith;
    few_rows = omega arith;
    few_lines = omega arith;
    sound_rows = λ i r e. absurd (none-some r e);
    sound_lines = λ i l e. absurd (none-some l e);
  }

  -- what a size that is not refused says
  pub size_fits : (c : Content) (a b : ℕ) → size_refusal c a b ≡ None → (length c.rows ≡ 0) × (length c.lines ≡ 0) × (0 < a * b) × (a * b ≤ 64)
  size_fits c a b e =
      let z = none_first _ _ _ e in
      let y = none_first _ _ _ z.1 in
      let h = or_parts _ _ z.0 in
      let k = or_parts _ _ y.0 in
      let some = eqb-false (a * b) 0 k.0 in
      let few = ltb-false 64 (a * b) k.1 in
      (eqb-true _ _ (not-false _ h.0), eqb-true _ _ (not-false _ h.1), omega (arith, some), few)

  size_sound : (c : Content) (a b : ℕ) → size_refusal c a b ≡ None → Sound m (with_size c a b)
  size_sound c a b e =
      let h = size_fits c a b e in
      let f = factors a b h.2 h.3 in
      record {
        some_mode = f.0;
        some_moment = f.1;
        few_places = h.3;
        few_rows = omega (arith, h.0);
        few_lines = omega (arith, h.1);
        sound_rows = λ i r k. absurd (nth_empty c.rows i r h.0 k);
        sound_lines = λ i l k. absurd (nth_empty c.lines i l h.1 k);
      }

  pub size_keeps : (c : Content) (a b : ℕ) → Sound m c → Sound m (size_after c a b)
  size_keeps c a b h = unless_keeps (Sound m) (size_refusal c a b) (with_size c a b) c (size_sound c a b) h

  -- a row or line that is not refused is sound, and there is room for it
  row_sound : (c : Content) (r : Row) → row_refusal m c r ≡ None → (length c.rows < 128) × SoundRow m c r
  row_sound c r e =
      let full = none_first _ _ _ e in
      let out = none_first _ _ _ full.1 in
      let bad = none_first _ _ _ out.1 in
      let dear = none_first _ _ _ bad.1 in
      let h = or_parts _ _ out.0 in (
        leb-false _ _ full.0,
        record {
          from_in = leb-false _ _ h.0;
          to_in = leb-false _ _ h.1;
          well_formed = not-false _ bad.0;
          price = not-false _ dear.0;
        },
      )

  pub line_sound_on : (c : Content) (l : Line) → first_refusal (line_refusals m c.moments l) ≡ None → SoundLine m c l
  line_sound_on c l e =
      let out = none_first _ _ _ e in
      let no_event = none_first _ _ _ out.1 in
      let dear = none_first _ _ _ no_event.1 in
      let h = or_parts _ _ out.0 in
      let some = eqb-false l.event 0 no_event.0 in
      record {
        from_in = leb-false _ _ h.0;
        to_in = leb-false _ _ h.1;
        some_event = omega (arith, some);
        price = not-false _ dear.0;
      }

  line_sound : (c : Content) (l : Line) → line_refusal m c l ≡ None → (length c.lines < 128) × SoundLine m c l
  line_sound c l e =
      let full = none_first _ _ _ e in
      (leb-false _ _ full.0, line_sound_on c l full.1)

  pub with_row_sound : (c : Content) (r : Row) → Sound m c → length c.rows < 128 → SoundRow m c r → Sound m (with_row c r)
  with_row_sound c r h n k = record {
    some_mode = h.some_mode;
    some_moment = h.some_moment;
    few_places = h.few_places;
    few_rows = simp length-append (omega arith);
    few_lines = h.few_lines;
    sound_rows = λ i x e. row_on c (with_row c r) x refl (⊎_elim (h.sound_rows i x) (λ f. subst (SoundRow m c) f k) (nth_push c.rows r i x e));
    sound_lines = λ i l e. line_on c (with_row c r) l refl (h.sound_lines i l e);
  }

  row_keeps : (c : Content) (r : Row) → Sound m c → Sound m (row_after m c r)
  row_keeps c r h = unless_keeps (Sound m) (row_refusal m c r) (with_row c r) c (λ e. let s = row_sound c r e in with_row_sound c r h s.0 s.1) h

  pub with_line_sound : (c : Content) (l : Line) → Sound m c → length c.lines < 128 → SoundLine m c l → Sound m (with_line c l)
  with_line_sound c l h n k = record {
    some_mode = h.some_mode;
    some_moment = h.some_moment;
    few_places = h.few_places;
    few_rows = h.few_rows;
    few_lines = simp length-append (omega arith);
    sound_rows = λ i x e. row_on c (with_line c l) x refl (h.sound_rows i x e);
    sound_lines = λ i x e. line_on c (with_line c l) x refl (⊎_elim (h.sound_lines i x) (λ f. subst (SoundLine m c) f k) (nth_push c.lines l i x e));
  }

  line_keeps : (c : Content) (l : Line) → Sound m c → Sound m (line_after m c l)
  line_keeps c l h = unless_keeps (Sound m) (line_refusal m c l) (with_line c l) c (λ e. let s = line_sound c l e in with_line_sound c l h s.0 s.1) h

  row_priced : (c : Content) (r : Row) (k : ℕ) → SoundRow m c r → Cost m k → SoundRow m c (row_at_cost k r)
  row_priced c r k h p = record { from_in = h.from_in; to_in = h.to_in; well_formed = formed_at_cost r.kind r k ∙ h.well_formed; price = p }

  line_priced : (c : Content) (l : Line) (k : ℕ) → SoundLine m c l → Cost m k → SoundLine m c (line_at_cost k l)
  line_priced c l k h p = record { from_in = h.from_in; to_in = h.to_in; some_event = h.some_event; price = p }

  -- a cost that is not refused
  priced : {A : Type 0} (xs : List A) (i k : ℕ) → reprice_refusal m xs i k ≡ None → Cost m k
  priced xs i k e = not-false _ (none_first _ _ _ (none_first _ _ _ e).1).0

  pub with_row_cost_sound : (c : Content) (j k : ℕ) → Sound m c → Cost m k → Sound m (with_row_cost c j k)
  with_row_cost_sound c j k h p = record {
    some_mode = h.some_mode;
    some_moment = h.some_moment;
    few_places = h.few_places;
    few_rows = simp length_changed h.few_rows;
    few_lines = h.few_lines;
    sound_rows = λ i x e. row_on c (with_row_cost c j k) x refl (⊎_elim (h.sound_rows i x) (λ f. subst (SoundRow m c) (sym f.2) (row_priced c f.0 k (h.sound_rows i f.0 f.1) p)) (nth_changed _ c.rows j i x e));
    sound_lines = λ i l e. line_on c (with_row_cost c j k) l refl (h.sound_lines i l e);
  }

  reprice_row_keeps : (c : Content) (j k : ℕ) → Sound m c → Sound m (reprice_row_after m c j k)
  reprice_row_keeps c j k h = unless_keeps (Sound m) (reprice_refusal m c.rows j k) (with_row_cost c j k) c (λ e. with_row_cost_sound c j k h (priced c.rows j k e)) h

  pub with_line_cost_sound : (c : Content) (j k : ℕ) → Sound m c → Cost m k → Sound m (with_line_cost c j k)
  with_line_cost_sound c j k h p = record {
    some_mode = h.some_mode;
    some_moment = h.some_moment;
    few_places = h.few_places;
    few_rows = h.few_rows;
    few_lines = simp length_changed h.few_lines;
    sound_rows = λ i x e. row_on c (with_line_cost c j k) x refl (h.sound_rows i x e);
    sound_lines = λ i x e. line_on c (with_line_cost c j k) x refl (⊎_elim (h.sound_lines i x) (λ f. subst (SoundLine m c) (sym f.2) (line_priced c f.0 k (h.sound_lines i f.0 f.1) p)) (nth_changed _ c.lines j i x e));
  }

  reprice_line_keeps : (c : Content) (j k : ℕ) → Sound m c → Sound m (reprice_line_after m c j k)
  reprice_line_keeps c j k h = unless_keeps (Sound m) (reprice_refusal m c.lines j k) (with_line_cost c j k) c (λ e. with_line_cost_sound c j k h (priced c.lines j k e)) h

  pub clear_keeps : (c : Content) → Sound m c → Sound m (without_lines c)
  clear_keeps c h = record {
    some_mode = h.some_mode;
    some_moment = h.some_moment;
    few_places = h.few_places;
    few_rows = h.few_rows;
    few_lines = omega arith;
    sound_rows = λ i x e. row_on c (without_lines c) x refl (h.sound_rows i x e);
    sound_lines = λ i l e. absurd (none-some l e);
  }

pub calls_keep : (m : Meaning) → CallsKeepSound m
calls_keep m = record {
  begun = new_sound m;
  sized = size_keeps m;
  row_added = row_keeps m;
  line_added = line_keeps m;
  row_repriced = reprice_row_keeps m;
  line_repriced = reprice_line_keeps m;
  cleared = clear_keeps m;
}
