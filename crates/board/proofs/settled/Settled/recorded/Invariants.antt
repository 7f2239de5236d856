use Rattle.std.proofs.Common.{◌≡◌, length}
use Rattle.board.specs.Held.{held}
use Rattle.board.specs.Logged.{records}
use Rattle.board.specs.Computing.{best_moments}
use Rattle.board.specs.ByNumber.{ReadingIn, reading_of}
use Rattle.board.proofs.Questions.Scanning.{best_below}
use Rattle.board.proofs.settled.Settled.recorded.Given as goal

abbrev pub invariant-loop-n : goal.invariant-loop-n
invariant-loop-n g l =
    let s = l.self in
    (reading_of s.log l.best ≡ best_below g.K.Kind.meaning (held s.tables) (records s.log) l.n)
    × ReadingIn s.log.count (length s.tables.rows.items) l.best

abbrev pub invariant-loop-moment : goal.invariant-loop-moment
invariant-loop-moment g l =
    let s = l.self in
    let m = g.K.Kind.meaning in
    let c = held s.tables in
    (reading_of s.log l.best ≡ best_moments m c (records s.log) l.n l.row.from l.moment (best_below m c (records s.log) l.n))
    × ReadingIn s.log.count (length s.tables.rows.items) l.best
