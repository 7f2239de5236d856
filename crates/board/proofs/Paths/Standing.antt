-- The places that rows and moves name are places of the board.
use Rattle.std.proofs.Common.{◌≡◌, ℕ, ◌<◌, Some, ⊎_elim, arith}
use Rattle.std.specs.List.{slice_get}
use Rattle.costs.specs.Meaning.{Meaning}
use Rattle.board.specs.declared.row.Row.{Row}
use Rattle.board.specs.declared.moves.Move.{Move}
use Rattle.board.specs.declared.moves.Effect.{Effect}
use Rattle.board.specs.Content.{Content, Sound}
use Rattle.board.specs.Moves.{Place, mode, moment, On, Transition}

module _ {m : Meaning} {c : Content} (sound : Sound m c) where
  -- a row's modes, at a moment of the board
  module _ (row : ℕ) (r : Row) (found : slice_get c.rows row ≡ Some r) (t : ℕ) (within : t < c.moments) where
    pub leaves_on : On c (r.from, t)
    leaves_on = ((sound.sound_rows row r found).from_in, within)

    pub enters_on : On c (r.to, t)
    enters_on = ((sound.sound_rows row r found).to_in, within)

  module _ {v : Move} {p q : Place} {k : ℕ} {e : Effect} (g : Transition m c v p q k e) where
    -- a move starts at a place of the board
    pub transition_from : On c p
    transition_from =
        let h = (sound.sound_rows _ _ g.found).from_in in
        let mode-in : mode p < c.modes = omega (arith, g.leaves) in
        let moment-in : moment p < c.moments = ⊎_elim (λ s. s.there) (λ s. omega (arith, s.depart, (sound.sound_lines s.number s.taken s.found).from_in)) g.time in
        (mode-in, moment-in)

    -- and leads to one
    pub transition_to : On c q
    transition_to =
        let h = (sound.sound_rows _ _ g.found).to_in in
        let mode-in : mode q < c.modes = omega (arith, g.enters) in
        let moment-in : moment q < c.moments = ⊎_elim (λ s. omega arith) (λ s. omega (arith, (sound.sound_lines s.number s.taken s.found).to_in)) g.time in
        (mode-in, moment-in)
