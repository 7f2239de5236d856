-- Which rows to look at for costs.
use Rattle.std.proofs.Common.{◌≡◌, ℕ, ◌+◌, ◌<◌, ◌≤◌, Bool, true, false, List, length, get_or, set, Some, None, sym, refl, ap, ◌∙◌, subst, ⊎_elim, arith, get_or-set_other, get_or-set_same}
use Rattle.std.proofs.lemmas.Bool.{cases_eq, and_parts, eqb-true}
use Rattle.std.proofs.lemmas.Option.{slice_get_within}
use Rattle.std.specs.List.{slice_get}
use Rattle.costs.specs.Meaning.{Meaning, Lawful}
use Rattle.board.specs.declared.row.Row.{Row}
use Rattle.board.specs.declared.row.RowKind.{RowKind}
use Rattle.board.specs.declared.row.RowKind.TheVariants.{Plain, Open, Close, End}
use Rattle.board.specs.Rows.{kind_number, kind_of_number}
use Rattle.board.specs.Content.{Content, Sound}
use Rattle.board.specs.Minima.{sort_like, StandsFor, LedAt}
use Rattle.board.proofs.Basics.Membership.{some_eq, none_some}
use Rattle.board.proofs.Basics.Laws.{no_dearer_same}

pub kind_back : (k : RowKind) → kind_of_number (kind_number k) ≡ Some k
kind_back Plain = refl
kind_back Open = refl
kind_back Close = refl
kind_back End = refl

-- kinds of one number are one
kind_eq : (a b : RowKind) → kind_number a ≡ kind_number b → a ≡ b
kind_eq a b e = some_eq (kind_of_number (kind_number a)) a b (kind_back a) (ap kind_of_number e ∙ kind_back b)

-- the row of this number, at this cost, stands for the row r
abbrev pub Stands : Meaning → Content → Row → ℕ → ℕ → Type 0
Stands m c r found cost = (s : StandsFor m c r found) × (s.by.cost ≡ cost)

module _ {m : Meaning} {c : Content} (laws : Lawful m) (sound : Sound m c) (n : ℕ) (r : Row) (row_is : slice_get c.rows n ≡ Some r) where
  -- a row stands for itself
  pub stands_self : Stands m c r n r.cost
  stands_self = (record { by = r; found = row_is; kind = refl; leaves = refl; enters = refl; label = refl; no_dearer = no_dearer_same laws _ (sound.sound_rows n r row_is).price }, refl)

  -- a cheaper one like it
  pub stands_more : (found cost i : ℕ) (other : Row) → slice_get c.rows i ≡ Some other → sort_like other r ≡ true → m.no_dearer other.cost cost ≡ true → Stands m c r found cost → Stands m c r i other.cost
  stands_more found cost i other read like cheaper s =
      let p1 = and_parts _ _ like in
      let p2 = and_parts _ _ p1.1 in
      let p3 = and_parts _ _ p2.1 in
      let price = (sound.sound_rows i other read).price in
      let price-by = (sound.sound_rows found _ s.0.found).price in
      let price-r = (sound.sound_rows n r row_is).price in (
        record {
          by = other;
          found = read;
          kind = kind_eq _ _ (eqb-true _ _ p1.0);
          leaves = eqb-true _ _ p2.0;
          enters = eqb-true _ _ p3.0;
          label = eqb-true _ _ p3.1;
          no_dearer = laws.trans _ _ _ price price-by price-r (subst (λ (k : ℕ). m.no_dearer other.cost k ≡ true) (sym s.1) cheaper) s.0.no_dearer;
        },
        refl,
      )

-- marking a row more
module _ {m : Meaning} {c : Content} (leads : List Bool) (n : ℕ) (old : (i : ℕ) → i < n → LedAt m c leads i) where
  -- by what is said of the row n
  pub led_next : (leads' : List Bool) → ((i : ℕ) → get_or leads i false ≡ true → get_or leads' i false ≡ true) → LedAt m c leads' n → (i : ℕ) → i < n + 1 → LedAt m c leads' i
  led_next leads' stays new i h r e = ⊎_elim
      (λ (z : i ≡ n). new r (ap (slice_get c.rows) (sym z) ∙ e))
      (λ (w : i ≡ n → ⊥). let s = old i (omega arith) r e in (s.0, stays s.0 s.1, s.2))
      (cases_eq i n)

  -- a mark more keeps marks
  stays_marked : (found : ℕ) → found < length leads → (i : ℕ) → get_or leads i false ≡ true → get_or (set leads found true) i false ≡ true
  stays_marked found h i marked = ⊎_elim
      (λ (z : i ≡ found). ap (λ (j : ℕ). get_or (set leads found true) j false) z ∙ get_or-set_same leads found true false h)
      (λ (w : i ≡ found → ⊥). get_or-set_other leads found i true false w ∙ marked)
      (cases_eq i found)

  pub led_some : (r : Row) (found : ℕ) → slice_get c.rows n ≡ Some r → found < length leads → StandsFor m c r found → (i : ℕ) → i < n + 1 → LedAt m c (set leads found true) i
  led_some r found e h s = led_next (set leads found true) (stays_marked found h) (λ x f. (found, get_or-set_same leads found true false h, subst (λ (y : Row). StandsFor m c y found) (some_eq _ _ _ e f) s))

  pub led_none : slice_get c.rows n ≡ None → (i : ℕ) → i < n + 1 → LedAt m c leads i
  led_none none = led_next leads (λ i e. e) (λ r e. absurd (none_some _ r none e))

pub led_all : {m : Meaning} {c : Content} (leads : List Bool) (n : ℕ) → length c.rows ≤ n → ((i : ℕ) → i < n → LedAt m c leads i) → (i : ℕ) → LedAt m c leads i
led_all {m} {c} leads n e all i r f = let h = slice_get_within c.rows i r f in all i (omega arith) r f

-- a row that stands is below 128
pub stands_within : {m : Meaning} {c : Content} {r : Row} {found : ℕ} → Sound m c → StandsFor m c r found → found < 128
stands_within {c = c} {found = found} sound s = let h = slice_get_within c.rows found s.by s.found in omega (arith, sound.few_rows)
