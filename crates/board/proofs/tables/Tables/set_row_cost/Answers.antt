use Rattle.std.proofs.Common.{List, ap}
use Rattle.board.specs.declared.row.Row.{Row}
use Rattle.board.specs.Calls.{row_at_cost}
use Rattle.board.specs.Content.{content}
use Rattle.board.specs.Held.{held}
use Rattle.board.proofs.Basics.Elements.{changed_set, nth_other}
use Rattle.board.proofs.Contents.Keeps.{with_row_cost_sound}
use Rattle.board.proofs.tables.Tables.set_row_cost.Goals as goal

pub invariant_of-self : goal.invariant_of-self
invariant_of-self g c =
    let t = c.args.self.now in
    let e = changed_set (row_at_cost c.args.cost) t.rows.items _ c.args.n _ _ c.requires.there c.deref_mut.ensures.value c.set_cost.ensures in
    record { sound = rw e (with_row_cost_sound g.K.Kind.meaning (held t) c.args.n c.args.cost t.sound c.requires.price) }

pub returns : goal.returns
returns g c =
    let t = c.args.self.now in
    let f = row_at_cost c.args.cost in
    let e = changed_set f t.rows.items _ c.args.n _ _ c.requires.there c.deref_mut.ensures.value c.set_cost.ensures in
    record {
      set = ap (λ (xs : List Row). content t.modes t.moments xs t.lines.items) e;
      others = λ i far. rw e (nth_other f t.rows.items c.args.n i far);
    }
