-- `listing::put_title` meets its contract: the fill, and then the title.
-- Assumes nothing.
use mathlib.Core.Path.{ap}
use Prim.Native.Nat.{ℕ}
use native.Mathlib.Omega.{arith}
use lib.ListN.{length, length-replicate}
use Rattle.numbers.specs.declared.Letters.TheVariants.{Lower}
use Rattle.numbers.specs.Digits.{padded}
use Rattle.numbers.proofs.Digits.{number_length}
use Rattle.output.proofs.Writes.{writes_then}
use Rattle.listing.proofs.Columns.{title_16, title_other, title_other_length}
use Rattle.listing.proofs.put_title.Goals as goal

pub put_right-requires : goal.put_right-requires
put_right-requires c = omega (arith, c.requires, ap length (title_16 _ c.if-radix-eq16.true))

pub returns-then-radix-eq16 : goal.returns-then-radix-eq16
returns-then-radix-eq16 c = rw (title_16 _ c.if-radix-eq16.true) c.put_right.ensures

pub put_all-next-requires : goal.put_all-next-requires
put_all-next-requires c =
    omega (arith, length-replicate {A = ℕ} c.saturating_sub-free.result 32, title_other_length c.args.radix.value c.if-radix-eq16.false)

pub put_number-next-requires : goal.put_number-next-requires
put_number-next-requires c =
    omega (arith, length-replicate {A = ℕ} c.saturating_sub-free.result 32, title_other_length c.args.radix.value c.if-radix-eq16.false)

pub put_all-requires : goal.put_all-requires
put_all-requires c =
    let title = title_other_length c.args.radix.value c.if-radix-eq16.false in
    omega (arith, length-replicate {A = ℕ} c.saturating_sub-free.result 32, number_length Lower 10 c.args.radix.value)

pub returns : goal.returns
unfolding padded
returns c =
    let filled = rw (c.saturating_sub-free.ensures, c.title_length.ensures.0) at c.put_fill-next.ensures in
    writes_then filled
    (rw (title_other _ c.if-radix-eq16.false)
    (writes_then c.put_all-next.ensures
    (writes_then c.put_number-next.ensures
    c.put_all.ensures)))
