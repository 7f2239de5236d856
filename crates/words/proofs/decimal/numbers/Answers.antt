use Rattle.std.proofs.Common.{[], map, get_or, sym, ap, ◌∙◌, arith}
use Rattle.std.proofs.lemmas.List.{get_or-map, length-map}
use Rattle.words.specs.Numbers.{number_of}
use Rattle.words.proofs.Listing.{number_stop, other_count, numbers_read, numbers_within}
use Rattle.words.proofs.decimal.numbers.Goals as goal

pub returns-then-words-clause-value : goal.returns-then-words-clause-value
returns-then-words-clause-value g c =
    let ws = c.args.words.now in
    sym (other_count c.args.most (map (λ x. x.now) ws) (λ e. c.if-words.true (omega (arith, length-map ws (λ x. x.now)))))

pub returns-in_err-found-clause-value : goal.returns-in_err-found-clause-value
returns-in_err-found-clause-value g c =
    let ws = c.args.words.now in
    let most = c.args.most in
    let i = c.loop-i.i in
    let here = get_or-map (λ x. x.now) ws i _ [] (omega arith) in
    let none = ap (number_of (get_or most i 0)) here ∙ sym c.in_err-found.ensures.value in
    c.from_residual.ensures ∙ sym (number_stop most (map (λ x. x.now) ws) i (omega (arith, length-map ws (λ x. x.now))) (omega arith) none)

pub returns-clause-value : goal.returns-clause-value
returns-clause-value g c =
    let ws = c.args.words.now in
    sym (numbers_read c.args.most (map (λ x. x.now) ws) c.loop-i.found (omega (arith, length-map ws (λ x. x.now))) c.loop-i.invariant.0 (λ k h. c.loop-i.invariant.1 k (omega arith)))

pub returns-clause-bound : goal.returns-clause-bound
returns-clause-bound g c = numbers_within c.args.most (map (λ x. x.now) c.args.words.now) c.loop-i.found (λ k h. c.loop-i.invariant.1 k (omega arith))
