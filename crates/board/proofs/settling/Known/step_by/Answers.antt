use Rattle.std.proofs.Common.{sym, ◌∙◌}
use Rattle.board.proofs.Paths.Standing.{leaves_on}
use Rattle.board.proofs.settling.Known.step_by.Goals as goal

pub step_from-requires-clause-place : goal.step_from-requires-clause-place
step_from-requires-clause-place g c = leaves_on c.args.self.now.tables.now.sound c.args.row c.in-Some.r (sym c.row.ensures ∙ c.in-Some.is) _ c.requires.on.1.1
