use Rattle.std.proofs.Common.{take, Some, sym, ap, ◌∙◌}
use native.Mathlib.Nat.{sub-zero}
use Rattle.std.proofs.lemmas.List.{take_rest}
use Rattle.words.specs.Splits.{after_mark}
use Rattle.words.proofs.Splitting.{mark_later, mark_here}
use Rattle.words.proofs.split.split_once.Goals as goal

pub returns-in-Some-clause-value : goal.returns-in-Some-clause-value
returns-in-Some-clause-value c =
    let bs = c.args.bytes.now in
    let mark = c.args.mark.now in
    let i = c.loop-i.i in
    let back = c.in-Some.back.now in
    let found = ap (after_mark mark) (sym (take_rest bs i)) ∙ sym c.in-Some.ensures in
    ap (λ n. Some (take n bs, back)) (sub-zero i) ∙ sym (mark_here mark bs i c.loop-i-test.true back found) ∙ c.loop-i.invariant

pub loop-i-preserved : goal.loop-i-preserved
loop-i-preserved c =
    let bs = c.args.bytes.now in
    let mark = c.args.mark.now in
    let i = c.loop-i.i in
    mark_later mark bs i c.loop-i-test.true (ap (after_mark mark) (sym (take_rest bs i)) ∙ sym c.in_default.ensures) ∙ c.loop-i.invariant
