-- `listing::line::SpanLine::put_address` meets its contract: the column is as wide as the number, or wider.
-- Assumes nothing.
use native.Mathlib.Omega.{arith}
use Rattle.listing.proofs.Lines.{address_length, address_wide}
use Rattle.listing.proofs.line.SpanLine.put_address.Goals as goal

pub put_column-requires : goal.put_column-requires
put_column-requires c =
    let a = c.args.self in
    (rw a.layout.options.addresses (omega (arith, address_length a, c.address_length-width.ensures)), omega (arith, c.requires, c.address_length-width.ensures))

pub returns : goal.returns
returns c =
    let a = c.args.self in
    rw (← address_wide a) (rw (c.address_length-width.ensures, a.layout.options.addresses) at c.put_column.ensures)
