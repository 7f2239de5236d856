use Rattle.std.proofs.Common.{◌≤◌, length, get_or, sym, ◌∙◌, arith, false-eqb}
use Rattle.words.proofs.HexDigits.{digit_below, fits_digit, hex_stop, hex_whole}
use Rattle.words.proofs.hexadecimal.hex_u16.Goals as goal

pub overflow_mul-n : goal.overflow_mul-n
overflow_mul-n c = omega (arith, fits_digit c.loop-byte.n c.loop-byte.byte-index c.loop-byte.invariant.0 (omega arith))

pub overflow_add-n : goal.overflow_add-n
overflow_add-n c =
    let low = digit_below (get_or c.args.word.now c.loop-byte.byte-index 0) c.in_ok-hex_digit.field-0 (sym c.in_ok-hex_digit.ensures) in
    omega (arith, fits_digit c.loop-byte.n c.loop-byte.byte-index c.loop-byte.invariant.0 (omega arith))

pub returns-in_err-hex_digit : goal.returns-in_err-hex_digit
returns-in_err-hex_digit c =
    let w = c.args.word.now in
    let i = c.loop-byte.byte-index in
    let some : 1 ≤ length w = omega (arith, false-eqb _ 0 c.if-is_empty.ensures) in
    c.from_residual.ensures
    ∙ sym (hex_stop w i c.loop-byte-test.true c.loop-byte.n (sym c.in_err-hex_digit.ensures))
    ∙ c.loop-byte.invariant.1
    ∙ hex_whole w some c.if-word-gt4.false
