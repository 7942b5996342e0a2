-- `listing::contents::put_content_digit` meets its contract: a point or the digit.
-- Assumes nothing.
use borrow.Author.Tests.{lt-ltb, le-ltb}
use Rattle.listing.specs.Listing.{content_digit}
use Rattle.listing.proofs.contents.put_content_digit.Goals as goal

pub returns-then-image-from : goal.returns-then-image-from
unfolding content_digit
returns-then-image-from c = simp (lt-ltb _ _ c.if-image-from.true) c.put.ensures

pub returns : goal.returns
unfolding content_digit
returns c = simp (le-ltb _ _ c.if-image-from.false) c.put_digit.ensures
