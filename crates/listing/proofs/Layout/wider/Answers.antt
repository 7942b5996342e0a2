-- `listing::Layout::wider` meets its contract: each width is the larger of two.
-- Assumes nothing.
use Prim.Native.Nat.{◌/◌, ◌%◌}
use native.Mathlib.Omega.{arith}
use Rattle.numbers.proofs.Digits.{count_small}
use Rattle.listing.specs.Listing.{wider}
use Rattle.listing.proofs.Layout.wider.Goals as goal

pub returns : goal.returns
unfolding wider
returns c =
    let o = c.args.self.options in
    let few = count_small o.radix.value (omega (arith, o.radix.in_range)) 63 in
    let byte = few (c.args.offset / 8) (omega arith) in
    let bit = few (c.args.offset % 8) (omega arith) in
    let address = few c.args.addr (omega arith) in
    let bytes = rw (c.byte.ensures, c.from-from.ensures) at c.digit_count-byte.ensures in
    let bits = rw (c.shift.ensures, c.from-from.ensures) at c.digit_count-bit.ensures in
    record {
      widths = rw (c.max.ensures, c.max-2.ensures, c.max-3.ensures, c.max-4.ensures, bytes, bits, c.digit_count-address.ensures, c.content_need-content.ensures.0, o.addresses);
      position = (omega (arith, c.max.ensures, bytes), omega (arith, c.max-2.ensures, bits));
      others = (omega (arith, c.max-3.ensures, c.digit_count-address.ensures), omega (arith, c.max-4.ensures, c.content_need-content.ensures.1));
    }
