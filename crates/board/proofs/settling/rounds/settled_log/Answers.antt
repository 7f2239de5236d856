use Rattle.board.proofs.Least.Rounding.{waiting_costs, none_left}
use Rattle.board.proofs.settling.rounds.settled_log.Goals as goal

pub least_pair-requires-clause-costs : goal.least_pair-requires-clause-costs
least_pair-requires-clause-costs g c = waiting_costs g.met.K.Kind.lawful c.rounds.invariant.0

pub returns-clause-settled : goal.returns-clause-settled
returns-clause-settled g c = record {
  rounds = c.rounds.invariant.1.0;
  reached = c.rounds.invariant.1.1;
  done = none_left g.met.K.Kind.lawful c.rounds.invariant.0 c.in_default.ensures;
}
