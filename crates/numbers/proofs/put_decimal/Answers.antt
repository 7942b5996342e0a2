-- `numbers::put_decimal` meets its contract: what the three stores leave is the number.
-- Assumes nothing.
use mathlib.Core.Path.{◌≡◌, ◌∙◌}
use Prim.Native.Nat.{◌+◌, ◌-◌, ◌*◌, ◌/◌, ◌%◌, ◌≤◌}
use native.Mathlib.Omega.{arith}
use lib.ListN.{length-set}
use Rattle.numbers.specs.Digits.{digit_count}
use Rattle.numbers.proofs.Digits.{count_some, number_length}
use Rattle.numbers.proofs.Decimal.{three_stored, tens_place, ones_place, digit_small}
use Rattle.numbers.proofs.put_decimal.Goals as goal

pub bounds-out-middle : goal.bounds-out-middle
bounds-out-middle c =
    simp length-set (omega (arith, tens_place c.args.byte (omega arith), count_some 10 c.args.byte (omega arith)))

pub bounds-out-last : goal.bounds-out-last
bounds-out-last c =
    simp length-set (omega (arith, ones_place c.args.byte (omega arith), count_some 10 c.args.byte (omega arith)))

pub returns : goal.returns
returns c =
    let last : c.from.result + c.from-2.result ≡ digit_count 10 c.args.byte - 1 = rw (c.from.ensures, c.from-2.ensures) (ones_place c.args.byte (omega arith)) in
    let some : 1 ≤ digit_count 10 c.args.byte = count_some 10 c.args.byte (omega arith) in
    let middle : c.from.result ≡ digit_count 10 c.args.byte - 2 = c.from.ensures ∙ tens_place c.args.byte (omega arith) in
    let a = c.args in
    let b = a.byte in
    let place : a.at + c.from.result + c.from-2.result ≡ a.at + (digit_count 10 b - 1) = omega (arith, last) in
    let tens : b / 10 - b / 100 * 10 ≡ b / 10 % 10 = omega arith in
    let ones : b - b / 10 * 10 ≡ b % 10 = omega arith in
    record {
      next = rw number_length (omega (arith, last, some));
      stored =
          rw (place, middle, tens, ones, ← digit_small (b / 100) (omega arith), ← digit_small (b / 10 % 10) (omega arith), ← digit_small (b % 10) (omega arith))
          (three_stored a.out.now a.at b (omega arith));
    }
