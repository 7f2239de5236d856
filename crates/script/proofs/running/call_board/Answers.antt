use Rattle.std.proofs.Common.{ℕ, List, ◌++◌, length, sym, ap, ◌∙◌}
use Rattle.std.specs.Option.{option_map}
use Rattle.file.specs.Answers.{step_answer, step_buffer}
use Rattle.file.specs.Histories.{state_of, records_of, records_defined}
use Rattle.script.specs.Commands.{command_of, on_board}
use Rattle.script.specs.Sessions.{without_address}
use Rattle.script.specs.Telling.{told_text}
use Rattle.script.specs.Printing.{buffer_of}
use Rattle.script.proofs.Printing.{answered_so, written_over}
use Rattle.script.proofs.running.call_board.Goals as goal

pub returns-clause-text : goal.returns-clause-text
returns-clause-text g c =
    let m = g.K.Kind.meaning in
    let s = state_of c.args.board in
    let log = records_of c.args.board in
    let command = command_of c.args.command.now in
    let x = c.in-Some.call in
    let buffer = c.as_mut_slice.ensures.value ∙ c.in_ok-buffer.ensures in
    let left = c.as_slice.ensures.value ∙ written_over _ _ _ c.in_ok-buffer.buffer.ok.0 (c.step-next.auto.buffer ∙ ap length c.as_mut_slice.ensures.value) in
    let told = c.step-next.ensures.answer ∙ ap (step_answer m s log x) buffer in
    let after = left ∙ c.step-next.ensures.after ∙ ap (step_buffer m s log x) buffer in
    c.in_ok-push_answer.ensures
    ∙ ap (λ (t : List ℕ). c.args.out.now.items ++ t)
    ((λ i. told_text (told i) (c.file_of.ensures i) (after i))
    ∙ answered_so m s log x (on_board command) (buffer_of command) (records_defined c.args.board) (ap (option_map without_address) (sym c.in-Some.is) ∙ c.call.ensures))
