-- `listing::line::SpanLine::put_position` meets its contract: one writer after another.
-- Assumes nothing.
use mathlib.Core.Path.{◌≡◌}
use Prim.Native.Nat.{ℕ, ◌+◌, ◌/◌, ◌≤◌, max}
use native.Mathlib.Omega.{arith}
use lib.ListN.{length}
use Rattle.std.specs.Prelude.{None, Some}
use Rattle.output.proofs.Writes.{writes_then}
use Rattle.output.specs.Ascii.{ascii}
use Rattle.numbers.specs.declared.Letters.TheVariants.{Lower}
use Rattle.numbers.specs.Digits.{number_text}
use Rattle.numbers.proofs.Digits.{number_length, padded_length}
use Rattle.listing.specs.Listing.{at_right}
use Rattle.listing.specs.InnerLine.{number_of, position_of}
use Rattle.listing.specs.declared.line.SpanLine.{SpanLine}
use Rattle.listing.proofs.Lines.{fits, position_parts, position_absent, position_present, absent_length, present_length}
use Rattle.listing.proofs.line.SpanLine.put_position.Goals as goal

-- the room for dashes, and for the numbers of an offset
dashes_room : (s : SpanLine) (at room : ℕ) → s.span.offset ≡ None
    → at + length (position_of s) ≤ room
    → at + (2 + max s.layout.widths.outp 2 + max s.layout.widths.outp_bit 1) ≤ room
dashes_room s at room e h = rw (← absent_length s.layout.options.given s.layout.widths) (rw e at h)

numbers_room : (s : SpanLine) (offset at room : ℕ) → s.span.offset ≡ Some offset
    → at + length (position_of s) ≤ room
    → at + (2 + s.layout.widths.outp + s.layout.widths.outp_bit) ≤ room
numbers_room s offset at room e h =
    rw (← present_length s.layout.options.given s.layout.widths offset s.span.size s.span.addr (s.span.there offset e) ((rw e at s.fits) (s.span.there offset e))) (rw e at h)

-- the length of the first number
byte_length : (s : SpanLine) (offset byte : ℕ) → s.span.offset ≡ Some offset → byte ≡ offset / 8
    → length (at_right s.layout.widths.outp (number_text Lower s.layout.options.radix.value byte)) ≡ s.layout.widths.outp
byte_length s offset byte e f =
    let short = rw (← s.layout.options.addresses) at (fits _ _ _ _ _ ((rw e at s.fits) (s.span.there offset e))).0 in
    let text = number_text Lower s.layout.options.radix.value (offset / 8) in
    rw f (omega (arith, short, padded_length 32 s.layout.widths.outp text, number_length Lower s.layout.options.radix.value (offset / 8)))

pub put-next-requires : goal.put-next-requires
put-next-requires c = omega (arith, c.requires, position_parts c.args.self.layout.options.given c.args.self.layout.widths (number_of c.args.self))

pub put_right-next-requires : goal.put_right-next-requires
put_right-next-requires c = omega (arith, dashes_room c.args.self c.args.at _ c.in_default.is c.requires)

pub put-next-requires-in_default : goal.put-next-requires-in_default
put-next-requires-in_default c = omega (arith, padded_length 32 c.args.self.layout.widths.outp (ascii "--"), dashes_room c.args.self c.args.at _ c.in_default.is c.requires)

pub put_right-requires : goal.put_right-requires
put_right-requires c = omega (arith, padded_length 32 c.args.self.layout.widths.outp (ascii "--"), dashes_room c.args.self c.args.at _ c.in_default.is c.requires)

pub returns-in_default : goal.returns-in_default
returns-in_default c =
    let a = c.args.self in
    rw (c.in_default.is, position_absent a.layout.options.given a.layout.widths)
    (writes_then c.put-next.ensures
    (writes_then c.put_right-next.ensures
    (writes_then c.put-next-in_default.ensures
    c.put_right.ensures)))

pub put_column-next-requires : goal.put_column-next-requires
put_column-next-requires c =
    let a = c.args.self in (
      rw (c.byte-byte.ensures, c.from-from.ensures, a.layout.options.addresses) (fits _ _ _ _ _ ((rw c.in-Some.is at a.fits) (a.span.there _ c.in-Some.is))).0,
      omega (arith, numbers_room a _ c.args.at _ c.in-Some.is c.requires),
    )

pub put-next-requires-2 : goal.put-next-requires-2
put-next-requires-2 c = omega (arith, byte_length c.args.self _ _ c.in-Some.is (rw c.from-from.ensures at c.byte-byte.ensures), numbers_room c.args.self _ c.args.at _ c.in-Some.is c.requires)

pub put_column-requires : goal.put_column-requires
put_column-requires c =
    let a = c.args.self in (
      rw (c.shift-bit.ensures, c.from-from.ensures, a.layout.options.addresses) (fits _ _ _ _ _ ((rw c.in-Some.is at a.fits) (a.span.there _ c.in-Some.is))).1,
      omega (arith, byte_length a _ _ c.in-Some.is (rw c.from-from.ensures at c.byte-byte.ensures), numbers_room a _ c.args.at _ c.in-Some.is c.requires),
    )

pub returns : goal.returns
returns c =
    let a = c.args.self in
    let o = a.layout.options in
    rw (c.in-Some.is, position_present o.given a.layout.widths c.in-Some.offset (a.span.there _ c.in-Some.is))
    (writes_then c.put-next.ensures
    (writes_then (rw (c.byte-byte.ensures, c.from-from.ensures, o.addresses) at c.put_column-next.ensures)
    (writes_then c.put-next-2.ensures
    (rw (c.shift-bit.ensures, c.from-from.ensures, o.addresses) at c.put_column.ensures))))
