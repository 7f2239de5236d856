use Rattle.std.proofs.Common.{List, ap}
use Rattle.board.specs.declared.row.Line.{Line}
use Rattle.board.specs.Calls.{line_at_cost}
use Rattle.board.specs.Content.{content}
use Rattle.board.specs.Held.{held}
use Rattle.board.proofs.Basics.Elements.{changed_set, nth_other}
use Rattle.board.proofs.Contents.Keeps.{with_line_cost_sound}
use Rattle.board.proofs.tables.Tables.set_line_cost.Goals as goal

pub invariant_of-self : goal.invariant_of-self
invariant_of-self g c =
    let t = c.args.self.now in
    let e = changed_set (line_at_cost c.args.cost) t.lines.items _ c.args.n _ _ c.requires.there c.deref_mut.ensures.value c.set_cost.ensures in
    record { sound = rw e (with_line_cost_sound g.K.Kind.meaning (held t) c.args.n c.args.cost t.sound c.requires.price) }

pub returns : goal.returns
returns g c =
    let t = c.args.self.now in
    let f = line_at_cost c.args.cost in
    let e = changed_set f t.lines.items _ c.args.n _ _ c.requires.there c.deref_mut.ensures.value c.set_cost.ensures in
    record {
      set = ap (λ (xs : List Line). content t.modes t.moments t.rows.items xs) e;
      others = λ i far. rw e (nth_other f t.lines.items c.args.n i far);
    }
