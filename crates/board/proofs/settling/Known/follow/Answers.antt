use Rattle.std.proofs.Common.{rules, arith}
use Rattle.board.proofs.Least.Knowing.{ready_of}
use Rattle.board.proofs.Least.Lowering.{lowered_start, lowered_more}
use Rattle.board.proofs.Least.Links.{candidate_cost_at, follow_fits, follow_waits, follow_only}
use Rattle.board.proofs.settling.Known.follow.Goals as goal

pub loop-q-init : goal.loop-q-init
loop-q-init g c = record { costs = lowered_start g.met.K.Kind.lawful (candidate_cost_at g.met.K.Kind.lawful (ready_of c.args.self.now)) _ _ c.requires.ok.attained; least = c.requires.ok.least }

pub wait-requires-clause-some : goal.wait-requires-clause-some
wait-requires-clause-some g c =
    let laws = g.met.K.Kind.lawful in
    let ready = ready_of c.args.self.now in
    follow_waits laws ready c.args.links.now c.requires.links.long c.requires.links.attained c.args.i c.requires.within c.loop-q.q _ _ c.loop-q-test.true (search rules) (search rules)

pub loop-q-preserved : goal.loop-q-preserved
loop-q-preserved g c =
    let laws = g.met.K.Kind.lawful in
    let ready = ready_of c.args.self.now in
    let more = follow_only laws ready c.args.links.now c.requires.links.long c.requires.links.attained c.args.i c.requires.within c.loop-q.q _ _ (search rules) (search rules) c.wait.ensures.costs in
    record {
      costs = lowered_more laws (candidate_cost_at laws ready) _ _ _ _ c.loop-q.q c.requires.ok.attained (λ p k x. follow_fits laws ready c.args.links.now c.requires.links.long c.requires.links.attained c.args.i c.requires.within _ c.requires.ok.long c.loop-q.q p k (omega arith) x) c.loop-q.invariant.costs more;
      least = c.wait.ensures.least;
    }
