-- `listing::title_length` meets its contract: a title with a number, and one without.
-- Assumes nothing.
use mathlib.Core.Path.{ap, sym}
use Prim.Native.Nat.{◌≤◌}
use native.Mathlib.Omega.{arith}
use lib.ListN.{length}
use Rattle.listing.proofs.Columns.{two_digits, title_16, title_other_length}
use Rattle.listing.proofs.title_length.Goals as goal

pub returns-then-radix-eq16 : goal.returns-then-radix-eq16
returns-then-radix-eq16 c = (sym (ap length (title_16 _ c.if-radix-eq16.true)), omega arith)

pub overflow_add-result : goal.overflow_add-result
overflow_add-result c = omega (arith, c.digit_count.ensures, two_digits c.args.radix.value (omega (arith, c.args.radix.in_range)))

pub returns : goal.returns
returns c =
    let few : c.digit_count.result ≤ 2 = omega (arith, c.digit_count.ensures, two_digits c.args.radix.value (omega (arith, c.args.radix.in_range))) in
    (omega (arith, c.digit_count.ensures, title_other_length c.args.radix.value c.if-radix-eq16.false), omega (arith, few))
