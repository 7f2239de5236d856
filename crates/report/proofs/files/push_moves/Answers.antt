use Rattle.std.proofs.Common.{sym, rules}
use Rattle.std.proofs.lemmas.List.{append-nil}
use Rattle.board.specs.Boards.{settled_content}
use Rattle.report.specs.Least.{none}
use Rattle.report.proofs.Showing.{added_more}
use Rattle.report.proofs.files.push_moves.Goals as goal

pub loop-v-init : goal.loop-v-init
loop-v-init g c = record { text = _; each = none; added = sym (append-nil _) }

pub loop-v-preserved : goal.loop-v-preserved
loop-v-preserved g c =
    let i = c.loop-v.v-index in
    let c' = settled_content c.args.settled.now in
    added_more c' c.args.moves.now i (search rules) c.unwrap-by.result (search rules) _ _ _ c.loop-v.invariant c.in_ok-push_move.ensures
