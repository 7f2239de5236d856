use Rattle.std.proofs.Common.{length, arith}
use Rattle.board.specs.Held.{held}
use Rattle.board.specs.Minima.{PlainlyBy}
use Rattle.board.proofs.Least.Lowering.{lowered_start, lowered_more, lowered_for, among_all}
use Rattle.board.proofs.Least.Plain.{plain_cost, by_fits, by_rows}
use Rattle.board.proofs.tables.Tables.add_links.Goals as goal

pub loop-row-init : goal.loop-row-init
loop-row-init g c = lowered_start g.met.K.Kind.lawful (plain_cost g.met.K.Kind.lawful c.args.self.now.sound) _ _ c.requires.ok

pub loop-row-preserved : goal.loop-row-preserved
loop-row-preserved g c = lowered_more g.met.K.Kind.lawful (plain_cost g.met.K.Kind.lawful c.args.self.now.sound) _ _ _ _ c.loop-row.row c.requires.ok (by_fits g.met.K.Kind.lawful c.args.self.now.sound _ c.requires.long c.loop-row.row) c.loop-row.invariant c.links_by.ensures

pub returns : goal.returns
returns g c = lowered_for (among_all (PlainlyBy g.K.Kind.meaning (held c.args.self.now)) _ (length c.args.self.now.rows.items) (omega arith) (omega arith) c.loop-row.invariant) (by_rows g.met.K.Kind.lawful c.args.self.now.sound)
