use Rattle.board.specs.Held.{held}
use Rattle.board.proofs.Contents.Keeps.{clear_keeps}
use Rattle.board.proofs.tables.Tables.clear_lines.Goals as goal

pub invariant_of-self : goal.invariant_of-self
invariant_of-self g c = let t = c.args.self.now in record { sound = rw c.clear.ensures (clear_keeps g.K.Kind.meaning (held t) t.sound) }
