-- `listing::line::SpanLine::position_length` meets its contract: the sum of its parts.
-- Assumes nothing.
use mathlib.Core.Path.{refl}
use native.Mathlib.Omega.{arith}
use Rattle.listing.proofs.Lines.{absent_length, present_length}
use Rattle.listing.proofs.line.SpanLine.position_length.Goals as goal

pub returns-in-Some : goal.returns-in-Some
returns-in-Some c =
    let a = c.args.self in
    let length = present_length a.layout.options.given a.layout.widths c.in-Some.field-0 a.span.size a.span.addr (a.span.there _ c.in-Some.is) ((rw c.in-Some.is at a.fits) (a.span.there _ c.in-Some.is)) in
    (rw (c.in-Some.is, length) refl, omega (arith, c.args.self.layout.narrow))

pub returns-in-None : goal.returns-in-None
returns-in-None c =
    let a = c.args.self in
    (rw (c.in-None.is, absent_length a.layout.options.given a.layout.widths) (omega (arith, c.max.ensures, c.max-in-None.ensures)), omega (arith, c.args.self.layout.narrow, c.max.ensures, c.max-in-None.ensures))
