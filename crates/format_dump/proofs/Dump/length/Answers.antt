-- `format_dump::Dump::length` meets its contract: all lines have one length.
-- Assumes nothing.
use mathlib.Core.Path.{◌≡◌, sym}
use mathlib.Core.List.{List, []}
use Prim.Native.Nat.{ℕ, ◌≤◌, ◌^◌}
use native.Mathlib.Nat.{mul-le-mul}
use native.Mathlib.Omega.{arith}
use lib.ListN.{length}
use Rattle.numbers.specs.Digits.{digit_count}
use Rattle.numbers.proofs.Digits.{count_last}
use Rattle.digits.specs.declared.ByteDigits.{ByteDigits}
use Rattle.digits.specs.Bytes.{digit_bits}
use Rattle.format_dump.specs.Dump.{dump_line}
use Rattle.format_dump.proofs.Lengths.{line_length, columns_small, text_length, lines_few}
use Rattle.format_dump.proofs.Dump.length.Goals as goal

-- A line is short, by what its length is promised to be.
line_small : (kind : ByteDigits) (n address r : ℕ) → n ≤ 64 → 1 ≤ address → address ≤ 22
    → ((b : List ℕ) (l first : ℕ) → digit_count 16 first ≤ address → length (dump_line b l (digit_bits kind) n address first) ≡ r)
    → r ≤ 1000
line_small kind n address r h some few f =
    let zero : digit_count 16 0 ≤ address = omega (arith, count_last 16 0 (omega arith)) in
    omega (arith, f [] 0 0 zero, line_length [] 0 kind n address 0 zero, columns_small kind n h)

pub line_length-requires : goal.line_length-requires
line_length-requires c =
    let d = c.args.self in
    let few = rw (← d.counted) at (lines_few d.good.image.len d.count d.few.0 d.few.1 d.good.few) in
    (d.few.1, omega (arith, few, d.filled), omega (arith, few, d.filled))

pub overflow_mul-result : goal.overflow_mul-result
overflow_mul-result c =
    let d = c.args.self in
    let few = rw (← d.counted) at (lines_few d.good.image.len d.count d.few.0 d.few.1 d.good.few) in
    let line = line_small d.kind d.count d.address c.line_length.result d.few.1 (omega (arith, few, d.filled)) (omega (arith, few, d.filled)) c.line_length.ensures in
    omega (arith, mul-le-mul {n₂ = 2 ^ 22} {m₂ = 1000} few.1 line)

pub returns : goal.returns
returns c =
    let d = c.args.self in
    sym (text_length d.good.image.bytes.now d.good.image.len (digit_bits d.kind) d.count _ _ _ d.counted d.filled c.line_length.ensures)
