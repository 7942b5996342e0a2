-- `job::put_refused` meets its contract: the writers one after another.
-- Assumes nothing.
use native.Mathlib.Omega.{arith}
use Rattle.numbers.specs.declared.Letters.TheVariants.{Lower}
use Rattle.numbers.proofs.Digits.{count_last, number_length}
use Rattle.output.proofs.Writes.{writes_then, writes_length}
use Rattle.job.proofs.put_refused.Goals as goal

pub put_number-end-requires : goal.put_number-end-requires
put_number-end-requires c =
    omega (arith, c.put_all-next.ensures.next, writes_length c.put_all-next.ensures, count_last 10 c.args.number c.requires.0)

pub put_all-requires : goal.put_all-requires
put_all-requires c =
    let n = c.args.number in
    omega (arith, c.put_all-next.ensures.next, writes_length c.put_all-next.ensures, c.put_number-end.ensures.next, writes_length c.put_number-end.ensures, number_length Lower 10 n, count_last 10 n c.requires.0)

pub returns : goal.returns
returns c =
    let first = c.put_all-next.ensures in
    let digit = c.put_number-end.ensures in
    let last = c.put_all.ensures in
    let n = c.args.number in record { printed = writes_then first (writes_then digit last); length = omega (arith, first.next, digit.next, last.next, number_length Lower 10 n, count_last 10 n c.requires.0) }
