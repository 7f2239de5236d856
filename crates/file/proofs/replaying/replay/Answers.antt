use Rattle.std.proofs.Common.{List, take, sym, ap, ◌∙◌, subst}
use Rattle.std.proofs.lemmas.List.{take_more, take_all}
use Rattle.file.specs.declared.call.Call.{Call}
use Rattle.file.specs.declared.call.Call.TheVariants.{Size}
use Rattle.file.specs.Histories.{defined_records, records_defined, MadeBy}
use Rattle.file.proofs.Promising.{answers_cheapest_when_settled}
use Rattle.file.proofs.replaying.replay.Goals as goal

pub loop-call-preserved : goal.loop-call-preserved
loop-call-preserved g c =
    let m = g.K.Kind.meaning in
    let calls = c.args.calls.now in
    let i = c.loop-call.call-index in
    subst (λ (xs : List Call). MadeBy m xs c.step-board.result.0) (sym (take_more calls i (Size 0 0) c.loop-call-test.true)) (c.step-board.ensures.history (take i calls) c.loop-call.invariant).holds

pub returns : goal.returns
returns g c =
    let m = g.K.Kind.meaning in
    let calls = c.args.calls.now in
    let h : MadeBy m calls c.loop-call.board = subst (λ (xs : List Call). MadeBy m xs c.loop-call.board) (take_all c.loop-call.call-index calls c.loop-call-test.false) c.loop-call.invariant in
    record { holds = h; records = records_defined c.loop-call.board ∙ ap (defined_records m) h; cheapest = answers_cheapest_when_settled g.met.K.Kind.lawful c.board_theorems.ensures.calls_and_settling calls }
