use Rattle.std.proofs.Common.{◌+◌, map, drop, vec_items, vec_len, sym, ap, ◌∙◌, arith, rules}
use Rattle.script.specs.Repeats.{repeats_of, not_too_long}
use Rattle.script.proofs.Repeating.{after, filled, repeat_next, repeat_stop, repeat_too_long}
use Rattle.script.proofs.check.moves.Goals as goal

pub returns-in_err-repeat : goal.returns-in_err-repeat
returns-in_err-repeat c =
    let stop = repeat_stop c.args.words.now c.loop-word.word-index c.loop-word-test.true _ (vec_items c.loop-word.list) (sym c.read_repeat.ensures ∙ c.in_err-repeat.ensures.ok_part) in
    search (rules, sym c.loop-word.invariant.1 ∙ stop)

pub returns-then-len-gt-LONGEST_LIST : goal.returns-then-len-gt-LONGEST_LIST
returns-then-len-gt-LONGEST_LIST c =
    let repeat = c.in_ok-repeat.repeat in
    sym (repeat_too_long c.args.words.now c.loop-word.word-index c.loop-word-test.true _ (vec_items c.loop-word.list) repeat (sym c.read_repeat.ensures ∙ c.in_ok-repeat.ensures.ok_part) (omega (arith, c.loop-word.list.ok.0)))
    ∙ c.loop-word.invariant.1

pub loop-word-preserved : goal.loop-word-preserved
loop-word-preserved c =
    let list = vec_items c.loop-word.list in
    let repeat = c.in_ok-repeat.repeat in
    let full = c.loop-word.list.ok.0 in
    let added = filled list (c.len.result + repeat.times) (vec_len c.loop-word.list) repeat.times repeat.number (omega (arith, c.len.ensures, full)) (omega (arith, full)) in
    let left = repeats_of (drop (c.loop-word.word-index + 1) (map (λ x. x.now) c.args.words.now)) in (
      omega (arith, c.in_ok-resize.ensures.len, c.if-len-gt-LONGEST_LIST.false),
      ap (λ l. not_too_long (after l left)) (c.in_ok-resize.ensures.items ∙ added)
          ∙ repeat_next c.args.words.now c.loop-word.word-index c.loop-word-test.true _ list repeat (sym c.read_repeat.ensures ∙ c.in_ok-repeat.ensures.ok_part)
          ∙ c.loop-word.invariant.1,
    )
