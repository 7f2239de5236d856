use Rattle.std.proofs.Common.{◌-◌, length, take, sym, ap, ◌∙◌, arith}
use Rattle.std.proofs.lemmas.List.{take_all}
use Rattle.board.specs.Spelled.{moves_at}
use Rattle.board.proofs.Questions.Unwinding.{counted, last_of, write_none, write_more}
use Rattle.board.proofs.writing.write_moves.Goals as goal

pub loop-k-init : goal.loop-k-init
loop-k-init g c =
    let l = c.args.log.now in
    let ms = moves_at l c.args.i in
    let n = counted c.requires.spells c.args.i c.requires.within c.requires.short in
    (c.past-cursor.ensures.walks l c.requires.within, c.past-cursor.ensures.all l ∙ sym (take_all (length ms) ms (omega arith)) ∙ ap (λ k. take k ms) (sym n), write_none g.F.MoveForm.form ms c.args.out.now _ n)

pub from_move-requires : goal.from_move-requires
from_move-requires g c =
    let ms = moves_at c.args.log.now c.args.i in
    let n = counted c.requires.spells c.args.i c.requires.within c.requires.short in
    let e = last_of ms _ c.loop-k.k c.previous.result c.loop-k-test.true (omega arith) (sym c.loop-k.invariant.1 ∙ c.previous.ensures.last) in
    rw e.1 (c.requires.small (c.loop-k.k - 1) (omega arith))

pub loop-k-preserved : goal.loop-k-preserved
loop-k-preserved g c =
    let ms = moves_at c.args.log.now c.args.i in
    let n = counted c.requires.spells c.args.i c.requires.within c.requires.short in
    let e = last_of ms _ c.loop-k.k c.previous.result c.loop-k-test.true (omega arith) (sym c.loop-k.invariant.1 ∙ c.previous.ensures.last) in
    let r = c.requires.room in
    (c.previous.ensures.walks, e.0, write_more g.F.MoveForm.form ms c.args.out.now _ c.loop-k.k c.from_move.result c.loop-k.out c.loop-k-test.true (omega arith) (omega arith) c.loop-k.invariant.2 (c.from_move.ensures ∙ ap g.F.MoveForm.form e.1))
