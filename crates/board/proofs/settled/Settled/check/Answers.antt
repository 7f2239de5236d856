use Rattle.board.proofs.Paths.Balance.{balanced_stack}
use Rattle.board.proofs.Questions.Single.{one_cost}
use Rattle.board.proofs.settled.Settled.check.Goals as goal

pub returns-clause-single : goal.returns-clause-single
returns-clause-single g c = one_cost

pub returns-clause-balance : goal.returns-clause-balance
returns-clause-balance g c = balanced_stack
