use Rattle.std.proofs.Common.{◌<◌, length, sym, ◌∙◌, arith, false-eqb}
use Rattle.words.proofs.Digits.{whole_word, digit_stop}
use Rattle.words.proofs.decimal.number.Goals as goal

pub returns-in_err-n-clause-value : goal.returns-in_err-n-clause-value
returns-in_err-n-clause-value c =
    let w = c.args.word.now in
    let most = c.args.most in
    let some : 0 < length w = omega (arith, false-eqb _ 0 c.if-is_empty.ensures) in
    let stop = digit_stop most w c.loop-byte.byte-index c.loop-byte-test.true c.loop-byte.n (sym c.in_err-n.ensures) in
    c.from_residual.ensures ∙ sym stop ∙ c.loop-byte.invariant.1 ∙ whole_word most w some
