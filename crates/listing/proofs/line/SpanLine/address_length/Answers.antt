-- `listing::line::SpanLine::address_length` meets its contract: that of the column, or of the number where it is longer.
-- Assumes nothing.
use native.Mathlib.Omega.{arith}
use Rattle.listing.proofs.Lines.{fits, address_length}
use Rattle.listing.proofs.line.SpanLine.address_length.Goals as goal

pub returns-in-Some : goal.returns-in-Some
returns-in-Some c =
    let a = c.args.self in
    let same = (rw c.in-Some.is at a.fits) (a.span.there _ c.in-Some.is) in
    omega (arith, address_length a, fits _ _ _ _ _ same)

pub returns-in-None : goal.returns-in-None
returns-in-None c =
    let a = c.args.self in
    omega (arith, address_length a, c.max.ensures, rw a.layout.options.addresses at c.digit_count.ensures)
