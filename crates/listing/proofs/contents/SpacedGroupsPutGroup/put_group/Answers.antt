-- `put_group` of `listing::contents::SpacedGroups` meets its contract: the space, and then the digits.
-- Assumes nothing.
use Rattle.output.proofs.Writes.{writes_then}
use Rattle.listing.proofs.contents.SpacedGroupsPutGroup.put_group.Goals as goal

pub returns : goal.returns
returns c = writes_then c.put_gap-next.ensures c.put_part.ensures
