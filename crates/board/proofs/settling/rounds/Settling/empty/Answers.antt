use Rattle.std.proofs.Common.{ap, ◌∙◌}
use lib.ListN.{length-replicate}
use Rattle.board.specs.Held.{held}
use Rattle.board.specs.Logged.{records}
use Rattle.board.specs.Minima.{PlainLink}
use Rattle.board.proofs.Least.Plain.{worst_attained}
use Rattle.board.proofs.Rounds.Starting.{empty_records}
use Rattle.board.proofs.Least.Stating.{empty_state}
use Rattle.board.proofs.settling.rounds.Settling.empty.Goals as goal

pub add_links-requires-clause-ok : goal.add_links-requires-clause-ok
add_links-requires-clause-ok g c = worst_attained g.K.Kind.meaning (PlainLink g.K.Kind.meaning (held c.args.tables.now)) 4096 c.worst.result c.worst.ensures

pub returns-clause-state : goal.returns-clause-state
returns-clause-state g c = empty_state g.met.K.Kind.lawful c.args.tables.now.sound _ _ _ _ _ c.new.ensures c.worst-2.ensures c.worst-3.ensures c.add_links.ensures.attained c.add_links.ensures.bounds (c.add_links.ensures.long ∙ length-replicate 4096 c.worst.result) c.mark_leads.ensures.led c.mark_leads.ensures.long

pub returns-clause-records : goal.returns-clause-records
returns-clause-records g c = ap records c.new.ensures ∙ empty_records
