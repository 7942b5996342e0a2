-- `listing::line::SpanLine::length` meets its contract: the sum of its parts.
-- Assumes nothing.
use Prim.Native.Nat.{◌≤◌, ◌<◌, ◌^◌}
use native.Mathlib.Omega.{arith}
use lib.ListN.{length}
use Rattle.numbers.proofs.Digits.{count_small}
use Rattle.listing.specs.declared.line.SpanLine.{SpanLine}
use Rattle.listing.specs.InnerLine.{number_of, address_of}
use Rattle.listing.proofs.Lines.{address_length, line_parts}
use Rattle.listing.proofs.line.SpanLine.length.Goals as goal

-- an address has few digits, in a narrow column
few : (s : SpanLine) → s.span.addr < 2 ^ 64 → length (address_of s) ≤ 516
few s h =
    let o = s.layout.options in
    omega (arith, s.layout.narrow, address_length s, count_small o.given.addr_base (omega (arith, o.addresses, o.radix.in_range)) 63 s.span.addr (omega arith))

pub overflow_add-result : goal.overflow_add-result
overflow_add-result c =
    omega (arith, few c.args.self (omega arith), c.position_length-position.ensures.1, c.address_length-address.ensures)

pub overflow_add-result-2 : goal.overflow_add-result-2
overflow_add-result-2 c =
    omega (arith, few c.args.self (omega arith), c.position_length-position.ensures.1, c.address_length-address.ensures, c.max-content.ensures, c.contents_length.ensures.1, c.args.self.layout.narrow)

pub overflow_add-result-3 : goal.overflow_add-result-3
overflow_add-result-3 c =
    omega (arith, few c.args.self (omega arith), c.position_length-position.ensures.1, c.address_length-address.ensures, c.max-content.ensures, c.contents_length.ensures.1, c.args.self.layout.narrow, c.requires)

pub overflow_add-result-4 : goal.overflow_add-result-4
overflow_add-result-4 c =
    omega (arith, few c.args.self (omega arith), c.position_length-position.ensures.1, c.address_length-address.ensures, c.max-content.ensures, c.contents_length.ensures.1, c.args.self.layout.narrow, c.requires)

pub returns : goal.returns
returns c =
    let a = c.args.self in (
      omega (arith, line_parts a, c.position_length-position.ensures.0, c.address_length-address.ensures, c.max-content.ensures, c.contents_length.ensures.0 a.image.bytes.now a.image.len (number_of a)),
      omega (arith, few a (omega arith), c.position_length-position.ensures.1, c.address_length-address.ensures, c.max-content.ensures, c.contents_length.ensures.1, c.args.self.layout.narrow, c.requires),
    )
