use Rattle.board.specs.Held.{held}
use Rattle.board.proofs.Contents.Keeps.{with_row_sound}
use Rattle.board.proofs.tables.Tables.push_row.Goals as goal

pub invariant_of-self : goal.invariant_of-self
invariant_of-self g c =
    let t = c.args.self.now in
    record { sound = rw c.push.ensures.items (with_row_sound g.K.Kind.meaning (held t) c.args.row t.sound c.requires.room c.requires.sound) }
