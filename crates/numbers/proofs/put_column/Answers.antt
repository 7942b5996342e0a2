-- `numbers::put_column` meets its contract: the fill is stored before the number, which ends the column.
-- Assumes nothing.
use mathlib.Core.Path.{◌≡◌}
use Prim.Native.Nat.{◌+◌, ◌-◌}
use native.Mathlib.Omega.{arith}
use lib.ListN.{length, replicate, length-replicate}
use Rattle.numbers.specs.Digits.{number_text, padded}
use Rattle.numbers.proofs.Digits.{number_length}
use Rattle.numbers.proofs.Column.{writes_earlier}
use Rattle.numbers.proofs.put_column.Goals as goal

pub overflow_sub-first : goal.overflow_sub-first
overflow_sub-first c =
    let a = c.args in
    omega (arith, c.put_before-first.ensures.next, number_length a.letters a.radix.value a.value)

pub returns : goal.returns
unfolding padded
returns c =
    let a = c.args in
    let text = number_text a.letters a.radix.value a.value in
    let long = number_length a.letters a.radix.value a.value in
    let filled : c.put_before-first.result - a.at ≡ a.width - length text = omega (arith, c.put_before-first.ensures.next, long) in
    let place : c.put_before-first.result ≡ a.at + length (replicate (a.width - length text) a.fill) =
    omega (arith, c.put_before-first.ensures.next, long, length-replicate (a.width - length text) a.fill) in
    writes_earlier c.put_before-first.ensures (rw filled at c.put_fill.ensures) place
