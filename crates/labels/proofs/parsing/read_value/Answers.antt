use Rattle.std.proofs.Common.{arith, rules}
use Rattle.labels.proofs.Chars.{stuck_value, long_value, one_more_read, read_before_quote}
use Rattle.labels.proofs.parsing.read_value.Goals as goal

pub returns-then-length-gt-MAX_VALUE-clause-none : goal.returns-then-length-gt-MAX_VALUE-clause-none
returns-then-length-gt-MAX_VALUE-clause-none c =
    let i = c.loop-width.invariant in
    let h = c.in-Some.ensures.some in
    let m = one_more_read c.args.text.now c.loop-width.rest.now c.in-Some.next.now i.1.0 c.loop-width.length c.in-Some.width h.0 i.1.1 i.1.2 h.1 h.2 in
    long_value c.args.text.now c.in-Some.next.now m.0 m.1 (omega (arith, m.2, c.if-length-gt-MAX_VALUE.true))

pub loop-width-preserved : goal.loop-width-preserved
loop-width-preserved c =
    let i = c.loop-width.invariant in
    let h = c.in-Some.ensures.some in (
      search rules,
      one_more_read c.args.text.now c.loop-width.rest.now c.in-Some.next.now i.1.0 c.loop-width.length c.in-Some.width h.0 i.1.1 i.1.2 h.1 h.2,
      c.if-length-gt-MAX_VALUE.false,
    )

pub returns-in_err-left-clause-none : goal.returns-in_err-left-clause-none
returns-in_err-left-clause-none c =
    let i = c.loop-width.invariant in
    rw c.from_residual.ensures (stuck_value c.args.text.now c.loop-width.rest.now i.1.0 i.0 i.1.1 c.in_default.ensures.none c.in_err-left.ensures)

pub returns-clause-some : goal.returns-clause-some
returns-clause-some c =
    let i = c.loop-width.invariant in
    read_before_quote c.args.text.now c.loop-width.rest.now c.in_ok-left.left.now i.1.0 c.loop-width.length c.utf8.text i.0 i.1.1 i.1.2 c.in_ok-left.ensures
