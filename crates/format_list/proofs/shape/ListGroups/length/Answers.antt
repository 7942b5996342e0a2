-- `format_list::ListGroups::length` meets its contract: the groups have one length.
-- Assumes nothing.
use Rattle.format_list.proofs.Lengths.{measured}
use Rattle.format_list.proofs.shape.ListGroups.length.Goals as goal

pub returns : goal.returns
returns c = measured c.args.self _ _ c.gaps_length-gaps.ensures.0 c.count-count.ensures.0
