-- `listing::line::SpanLine::put` meets its contract: one writer after another.
-- Assumes nothing.
use mathlib.Core.Path.{◌≡◌}
use Prim.Native.Nat.{◌+◌}
use native.Mathlib.Omega.{arith}
use lib.ListN.{length}
use Rattle.output.proofs.Writes.{writes_then}
use Rattle.listing.specs.declared.line.SpanLine.{SpanLine}
use Rattle.listing.specs.InnerLine.{number_of, position_of, address_of, column_of, line_of}
use Rattle.listing.specs.Listing.{contents, span_text}
use Rattle.listing.proofs.Lines.{at_left_length, line_parts}
use Rattle.listing.proofs.line.SpanLine.put.Goals as goal

-- the length of the line is that of its parts
parts : (s : SpanLine) → length (line_of s) ≡ length (position_of s) + length (address_of s) + length (column_of s) + length s.excerpt.now + 10
parts s =
    let text = contents s.layout.options.given s.image.bytes.now s.image.len (number_of s) s.span.size in
    omega (arith, line_parts s, at_left_length s.layout.widths.content text)

pub put_position-next-requires : goal.put_position-next-requires
put_position-next-requires c = omega (arith, c.requires, parts c.args.self)

pub put_all-next-requires : goal.put_all-next-requires
put_all-next-requires c = omega (arith, c.requires, parts c.args.self)

pub put_address-next-requires : goal.put_address-next-requires
put_address-next-requires c = omega (arith, c.requires, parts c.args.self)

pub put_all-next-requires-2 : goal.put_all-next-requires-2
put_all-next-requires-2 c = omega (arith, c.requires, parts c.args.self)

pub put_content-next-requires : goal.put_content-next-requires
put_content-next-requires c = omega (arith, c.requires, parts c.args.self)

pub put_all-next-requires-3 : goal.put_all-next-requires-3
put_all-next-requires-3 c = omega (arith, c.requires, parts c.args.self)

pub put_all-next-requires-4 : goal.put_all-next-requires-4
put_all-next-requires-4 c = omega (arith, c.requires, parts c.args.self)

pub put-requires : goal.put-requires
put-requires c = omega (arith, c.requires, parts c.args.self)

pub returns : goal.returns
unfolding span_text
returns c =
    writes_then c.put_position-next.ensures
    (writes_then c.put_all-next.ensures
    (writes_then c.put_address-next.ensures
    (writes_then c.put_all-next-2.ensures
    (writes_then c.put_content-next.ensures
    (writes_then c.put_all-next-3.ensures
    (writes_then c.put_all-next-4.ensures
    c.put.ensures))))))
