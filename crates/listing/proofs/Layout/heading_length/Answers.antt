-- `listing::Layout::heading_length` meets its contract: the sum of its parts.
-- Assumes nothing.
use mathlib.Core.Path.{ap}
use native.Mathlib.Omega.{arith}
use lib.ListN.{length}
use Rattle.numbers.proofs.Digits.{count_small}
use Rattle.listing.specs.Listing.{addr_title}
use Rattle.listing.proofs.Columns.{heading_parts}
use Rattle.listing.proofs.Layout.heading_length.Goals as goal

pub overflow_add-result-3 : goal.overflow_add-result-3
overflow_add-result-3 c = omega (arith, c.max-outp.ensures, c.max-addr.ensures, c.title_length.ensures.1, c.args.self.narrow, c.digit_count-base.ensures, count_small 10 (omega arith) 63 c.args.self.options.given.base (omega arith))

pub returns : goal.returns
returns c =
    let o = c.args.self.options in
    let parts = heading_parts o.given c.args.self.widths in
    let title = ap (λ x. length (addr_title x)) o.addresses in
    let small = count_small 10 (omega arith) 63 o.given.base (omega arith) in (
      omega (arith, parts, title, c.max-outp.ensures, c.max-addr.ensures, c.title_length.ensures.0, c.digit_count-base.ensures),
      omega (arith, c.max-outp.ensures, c.max-addr.ensures, c.title_length.ensures.1, c.args.self.narrow, c.digit_count-base.ensures),
    )
