use Rattle.std.proofs.Common.{◌≤◌, arith}
use Rattle.requests.proofs.Digits.{room, fits, step, digit_range}
use Rattle.requests.proofs.framing.value_of.Goals as goal

pub overflow_mul-number : goal.overflow_mul-number
overflow_mul-number c =
    let i = c.loop-digit.digit-index in
    omega (arith, room c.loop-digit.number i 0 (omega arith) c.loop-digit.invariant.1 (omega arith), fits i (omega arith))

pub overflow_add-number : goal.overflow_add-number
overflow_add-number c =
    let i = c.loop-digit.digit-index in
    let range = digit_range c.args.digits.now i c.loop-digit-test.true c.requires.digits in
    let small : c.from.result ≤ 9 = omega (arith, c.from.ensures, range.0, range.1) in
    omega (arith, room c.loop-digit.number i c.from.result (omega arith) c.loop-digit.invariant.1 small, fits i (omega arith))

pub loop-digit-preserved : goal.loop-digit-preserved
loop-digit-preserved c =
    let i = c.loop-digit.digit-index in
    let range = digit_range c.args.digits.now i c.loop-digit-test.true c.requires.digits in
    let small : c.from.result ≤ 9 = omega (arith, c.from.ensures, range.0, range.1) in (
      step c.args.digits.now i c.loop-digit.number c.from.result c.loop-digit-test.true c.requires.digits c.loop-digit.invariant.0 c.from.ensures,
      room c.loop-digit.number i c.from.result (omega arith) c.loop-digit.invariant.1 small,
    )
