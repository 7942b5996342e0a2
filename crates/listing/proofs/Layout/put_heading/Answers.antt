-- `listing::Layout::put_heading` meets its contract: one writer after another.
-- Assumes nothing.
use mathlib.Core.Path.{◌≡◌, refl}
use Prim.Native.Nat.{◌+◌, max}
use native.Mathlib.Omega.{arith}
use lib.ListN.{length}
use Rattle.output.specs.Ascii.{ascii}
use Rattle.output.proofs.Writes.{writes_then}
use Rattle.numbers.specs.declared.Letters.TheVariants.{Lower}
use Rattle.numbers.proofs.Digits.{number_length, padded_length}
use Rattle.listing.specs.declared.ListingOptions.{ListingOptions}
use Rattle.listing.specs.declared.Widths.{Widths}
use Rattle.listing.specs.Listing.{addr_title, at_right, heading}
use Rattle.listing.proofs.Columns.{heading_parts}
use Rattle.listing.proofs.Layout.put_heading.Goals as goal

-- the column of positions
outp_length : (w : Widths) → length (at_right (w.outp + w.outp_bit + 1) (ascii "outp")) ≡ max (w.outp + w.outp_bit + 1) 4
outp_length w = padded_length 32 (w.outp + w.outp_bit + 1) (ascii "outp")

-- the column of addresses
title_length : (o : ListingOptions) (w : Widths) → length (at_right w.addr (addr_title o.radix.value)) ≡ max w.addr (length (addr_title o.radix.value))
title_length o w = padded_length 32 w.addr (addr_title o.radix.value)

title_place : (o : ListingOptions) (w : Widths) → max w.addr (length (addr_title o.given.addr_base)) ≡ max w.addr (length (addr_title o.radix.value))
title_place o w = rw o.addresses refl

pub put-next-requires : goal.put-next-requires
put-next-requires c = omega (arith, heading_parts c.args.self.options.given c.args.self.widths)

pub put_right-next-requires : goal.put_right-next-requires
put_right-next-requires c = omega (arith, heading_parts c.args.self.options.given c.args.self.widths)

pub put_all-next-requires : goal.put_all-next-requires
put_all-next-requires c = omega (arith, heading_parts c.args.self.options.given c.args.self.widths, outp_length c.args.self.widths)

pub overflow_add-widths : goal.overflow_add-widths
overflow_add-widths c = omega (arith, heading_parts c.args.self.options.given c.args.self.widths)

pub overflow_add-widths-2 : goal.overflow_add-widths-2
overflow_add-widths-2 c = omega (arith, heading_parts c.args.self.options.given c.args.self.widths)

pub put_title-next-requires : goal.put_title-next-requires
put_title-next-requires c =
    let a = c.args.self in
    rw a.options.addresses (omega (arith, heading_parts a.options.given a.widths, outp_length a.widths))

pub put_all-next-requires-2 : goal.put_all-next-requires-2
put_all-next-requires-2 c =
    let a = c.args.self in
    omega (arith, heading_parts a.options.given a.widths, outp_length a.widths, title_place a.options a.widths, title_length a.options a.widths)

pub put_number-next-requires : goal.put_number-next-requires
put_number-next-requires c =
    let a = c.args.self in
    omega (arith, heading_parts a.options.given a.widths, outp_length a.widths, title_place a.options a.widths, title_length a.options a.widths)

pub put_all-requires : goal.put_all-requires
put_all-requires c =
    let a = c.args.self in
    omega (arith, heading_parts a.options.given a.widths, outp_length a.widths, title_place a.options a.widths, title_length a.options a.widths, number_length Lower 10 a.options.given.base)

pub returns : goal.returns
unfolding heading
returns c =
    writes_then c.put-next.ensures
    (writes_then c.put_right-next.ensures
    (writes_then c.put_all-next.ensures
    (writes_then (rw c.args.self.options.addresses at c.put_title-next.ensures)
    (writes_then c.put_all-next-2.ensures
    (writes_then c.put_number-next.ensures
    c.put_all.ensures)))))
