use Rattle.std.proofs.Common.{refl, sym, ◌∙◌, arith}
use Rattle.board.proofs.Least.Knowing.{ready_of}
use Rattle.board.proofs.Least.Lowering.{lowered_start, lowered_more}
use Rattle.board.proofs.Least.Links.{candidate_cost_at, front_found, follow_to_fits, follow_to_waits, follow_to_only, follow_to_none}
use Rattle.board.proofs.settling.Known.follow_to.Goals as goal
use Rattle.board.proofs.settling.Known.follow_to.Goals.{in-Some, in_default}

pub loop-s-init : goal.loop-s-init
loop-s-init g c = record { costs = lowered_start g.met.K.Kind.lawful (candidate_cost_at g.met.K.Kind.lawful (ready_of c.args.self.now)) _ _ c.requires.ok.attained; least = c.requires.ok.least }

pub offset_bounds-self-i : goal.offset_bounds-self-i
offset_bounds-self-i g c =
    let a = c.args.self.now in
    let h = (front_found g.met.K.Kind.lawful (ready_of a) c.args.r c.args.q c.args.cost c.requires.from c.requires.to c.requires.link c.loop-s.s c.in-Some.i (sym c.at.ensures ∙ c.in-Some.is)).0 in
    omega (arith, h, a.book.spells.room)

pub bounds-self-i : goal.bounds-self-i
bounds-self-i g c =
    let a = c.args.self.now in
    let h = (front_found g.met.K.Kind.lawful (ready_of a) c.args.r c.args.q c.args.cost c.requires.from c.requires.to c.requires.link c.loop-s.s c.in-Some.i (sym c.at.ensures ∙ c.in-Some.is)).0 in
    omega (arith, h, a.book.spells.room)

pub wait-requires-clause-some : goal.wait-requires-clause-some
wait-requires-clause-some g c =
    let laws = g.met.K.Kind.lawful in
    let ready = ready_of c.args.self.now in
    follow_to_waits laws ready c.args.r c.args.q c.args.cost c.requires.from c.requires.to c.requires.link c.loop-s.s c.in-Some.i _ _ (sym c.at.ensures ∙ c.in-Some.is) refl c.join-total.ensures

pub loop-s-preserved : goal.loop-s-preserved
loop-s-preserved g c =
    let laws = g.met.K.Kind.lawful in
    let ready = ready_of c.args.self.now in
    elim c.match-at.branch [
      | in-Some w ↦ rw w.waiting-is (record {
        costs = lowered_more laws (candidate_cost_at laws ready) _ _ _ _ c.loop-s.s c.requires.ok.attained (λ p k x. follow_to_fits laws ready c.args.r c.args.q c.args.cost c.requires.from c.requires.to c.requires.link _ c.requires.ok.long c.loop-s.s p k (omega arith) x) c.loop-s.invariant.costs (follow_to_only laws ready c.args.r c.args.q c.args.cost c.requires.from c.requires.to c.requires.link c.loop-s.s w.in-Some.i _ _ (sym c.at.ensures ∙ w.in-Some.is) refl w.join-total.ensures w.wait.ensures.costs);
        least = w.wait.ensures.least;
      })
      | in_default w ↦ rw w.waiting-is (record {
        costs = lowered_more laws (candidate_cost_at laws ready) _ _ _ _ c.loop-s.s c.requires.ok.attained (λ p k x. follow_to_fits laws ready c.args.r c.args.q c.args.cost c.requires.from c.requires.to c.requires.link _ c.requires.ok.long c.loop-s.s p k (omega arith) x) c.loop-s.invariant.costs (follow_to_none laws ready c.args.r c.args.q c.args.cost c.requires.from c.requires.to c.requires.link _ c.loop-s.s c.loop-s.invariant.costs.attained (sym c.at.ensures ∙ w.in_default.is));
        least = c.loop-s.invariant.least;
      })
    ]
