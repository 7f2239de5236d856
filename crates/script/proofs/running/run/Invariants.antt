use Rattle.std.proofs.Common.{◌≡◌, ◌++◌, map, drop}
use Rattle.std.specs.Option.{option_map}
use Rattle.script.specs.Printing.{printed, printed_from}
use Rattle.script.specs.Sessions.{session_state}
use Rattle.script.proofs.running.run.Given as goal

abbrev pub invariant-loop-line : goal.invariant-loop-line
invariant-loop-line l =
    l.out.items ++ printed_from (option_map session_state l.session) (map (λ x. x.now) (drop l.line-index l.line-items)) ≡ printed l.input
