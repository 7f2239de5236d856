use Rattle.std.proofs.Common.{◌+◌, ◌≡◌, [], map, drop, None, Err, vec_items, get_or, sym, ap, ◌∙◌, arith, rules}
use Rattle.std.proofs.lemmas.List.{get_or-map, length-map}
use Rattle.words.specs.Numbers.{u32_max, number_of}
use Rattle.price.specs.Lines.{read_costs}
use Rattle.price.proofs.Reading.{after, number_next, number_stop, unread}
use Rattle.price.proofs.line.numbers.Goals as goal

pub returns-in_err-n-clause-read : goal.returns-in_err-n-clause-read
returns-in_err-n-clause-read c =
    let words = c.args.words.now in
    let i = c.loop-word.word-index in
    let here = get_or-map (λ x. x.now) words i _ [] c.loop-word-test.true in
    let none : number_of u32_max (get_or (map (λ x. x.now) words) i []) ≡ None = ap (number_of u32_max) here ∙ sym c.number.ensures.value ∙ c.in_err-n.ensures.ok_part in
    let stop : read_costs (map (λ x. x.now) words) ≡ Err (get_or words i _).now = sym c.loop-word.invariant.1 ∙ number_stop (map (λ x. x.now) words) i (omega (arith, length-map words (λ x. x.now))) (vec_items c.loop-word.numbers) none ∙ ap Err here in
    let fault = unread (map (λ x. x.now) words) (get_or words i _) c.number.result c.in_err-n.field-0.0 c.in_err-n.ensures.ok_part stop c.in_err-n.ensures.value in
    search rules

pub loop-word-preserved : goal.loop-word-preserved
loop-word-preserved c =
    let words = c.args.words.now in
    let i = c.loop-word.word-index in
    let here = get_or-map (λ x. x.now) words i _ [] c.loop-word-test.true in (
      search rules,
      ap (λ ns. after ns (read_costs (drop (i + 1) (map (λ x. x.now) words)))) c.in_ok-push.ensures.items
          ∙ number_next (map (λ x. x.now) words) i (omega (arith, length-map words (λ x. x.now))) (vec_items c.loop-word.numbers) c.in_ok-n.n (ap (number_of u32_max) here ∙ sym c.number.ensures.value ∙ c.in_ok-n.ensures.ok_part)
          ∙ c.loop-word.invariant.1,
    )
