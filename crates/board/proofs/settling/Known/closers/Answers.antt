use Rattle.std.proofs.Common.{sym, ◌∙◌, arith}
use Rattle.std.proofs.lemmas.Bool.{both_ways}
use Rattle.board.proofs.Least.Gathering.{gathered_push, closer_no_row, closer_other, closers_serve}
use Rattle.board.proofs.settling.Known.closers.Goals as goal
use Rattle.board.proofs.settling.Known.closers.Goals.{in-Some+then-leads-w+then-is_close+then-close-mode, in-Some+else-leads-w, else-leads-w-via-then-leads-w+then-is_close+else-close-mode, else-leads-w-via-then-leads-w+else-is_close, else-leads-w-via-else-leads-w, in_default}

pub loop-w-preserved : goal.loop-w-preserved
loop-w-preserved g c = elim c.match-row.branch [
  | in-Some+then-leads-w+then-is_close+then-close-mode w ↦ rw (w.found-is, w.push.ensures.items) (gathered_push c.loop-w.invariant)
  | in-Some+else-leads-w w ↦ rw w.found-is (closer_other g.met.K.Kind.lawful c.args.self.now.tables.now.sound c.args.leads.now c.args.mode c.loop-w.invariant w.in-Some.close (sym c.row.ensures ∙ w.in-Some.is) (λ marked closes to. elim w.else-leads-w.branch [
    | else-leads-w-via-then-leads-w+then-is_close+else-close-mode v ↦ v.if-close-mode.false to
    | else-leads-w-via-then-leads-w+else-is_close v ↦ both_ways _ (sym v.is_close.ensures ∙ v.if-is_close.false) closes
    | else-leads-w-via-else-leads-w v ↦ both_ways _ v.if-leads-w.false marked
  ]))
  | in_default w ↦ rw w.found-is (closer_no_row g.met.K.Kind.lawful c.args.self.now.tables.now.sound c.args.leads.now c.args.mode c.loop-w.invariant (sym c.row.ensures ∙ w.in_default.is))
]

pub returns-clause-serve : goal.returns-clause-serve
returns-clause-serve g c = closers_serve g.met.K.Kind.lawful c.args.self.now.tables.now.sound c.args.leads.now c.args.mode c.requires.led c.loop-w.w (omega arith) c.loop-w.invariant
