use Rattle.board.proofs.Promised.{board_promises}
use Rattle.board.proofs.draft.Draft.new.Goals as goal

pub returns-clause-calls_and_settling : goal.returns-clause-calls_and_settling
returns-clause-calls_and_settling g c = board_promises
