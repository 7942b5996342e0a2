-- Options that are in their range: what the code needs of them.
-- Assumes nothing.
use mathlib.Core.Path.{◌≡◌, refl}
use mathlib.Core.Bool.{true, false, not, ◌||◌, ◌&&◌}
use mathlib.Mathlib.Data.Bool.Basic.{and-eq-true-eq-eq-true-and-eq-true}
use Prim.Native.Nat.{◌≤◌}
use lib.Dec.{eqb}
use borrow.Author.Tests.{ne_eqb, not-true}
use Rattle.std.specs.Prelude.{◌≢◌}
use Rattle.outcome.specs.Outcome.{outside}
use Rattle.outcome.proofs.Outcome.{inside}
use Rattle.digits.specs.declared.ByteDigits.{ByteDigits}
use Rattle.digits.specs.declared.ByteDigits.TheVariants.{Binary, Hex}
use Rattle.digits.specs.Bytes.{digit_bits}
use Rattle.format_dump.specs.declared.DumpOptions.{DumpOptions}
use Rattle.format_dump.specs.Dump.{in_range}

-- Digits of no kind that the code has are out of it.
pub kind_none : (o : DumpOptions) → ((kind : ByteDigits) → o.digit_bits ≢ digit_bits kind) → in_range o ≡ false
unfolding in_range
kind_none o none = rw (ne_eqb o.digit_bits 1 (none Binary), ne_eqb o.digit_bits 4 (none Hex)) refl

-- A line has 1 to 64 bytes.
pub bytes_few : (o : DumpOptions) → in_range o ≡ true → (1 ≤ o.bytes_per_line) × (o.bytes_per_line ≤ 64)
unfolding in_range
bytes_few o e =
    let w = o.digit_bits in
    let n = o.bytes_per_line in
    let b = o.byte_bits in
    let both = (and-eq-true-eq-eq-true-and-eq-true (eqb w 1 || eqb w 4) (eqb b 8 && not (outside 1 64 n))).0 e in
    let rest = (and-eq-true-eq-eq-true-and-eq-true (eqb b 8) (not (outside 1 64 n))).0 both.1 in
    inside 1 64 n (not-true (outside 1 64 n) rest.1)
