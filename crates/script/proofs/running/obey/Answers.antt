use Rattle.std.proofs.Common.{ℕ, List, ◌++◌, Some, codes, Option, sym, ap, ◌∙◌, append_assoc}
use Rattle.std.specs.Option.{option_map}
use Rattle.script.specs.Commands.{command_of}
use Rattle.script.specs.Printing.{SessionState, board_text, board_after}
use Rattle.script.specs.Sessions.{session_state}
use Rattle.script.proofs.Printing.{board_command, made_call}
use Rattle.script.proofs.running.obey.Goals as goal

pub returns-in_ok-next-in-Some : goal.returns-in_ok-next-in-Some
returns-in_ok-next-in-Some c =
    let x = command_of c.args.command.now in
    let out = c.args.out.now.items in
    let here = Some (session_state c.in-Some.session) in
    let there = sym (ap (option_map session_state) c.in-Some.is) in
    let made = made_call c.args.command.now c.in_default.not-Kind in
    let other = board_command (option_map session_state c.args.session) x made.0 made.1 in
    let next = c.in_ok-next-in-Some.ensures in
    record {
      text =
          next.text
          ∙ ap (λ (t : List ℕ). t ++ board_text here x) c.in_ok-extend_from_slice.ensures.items
          ∙ append_assoc out (codes " -> ") (board_text here x)
          ∙ ap (λ (s : Option SessionState). out ++ (codes " -> " ++ board_text s x)) there
          ∙ ap (λ (t : List ℕ). out ++ t) (sym other.0);
      after = next.after ∙ ap (λ (s : Option SessionState). board_after s x) there ∙ sym other.1;
    }
