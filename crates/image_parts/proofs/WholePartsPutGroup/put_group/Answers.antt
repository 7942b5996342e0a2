-- `image_parts::WholePartsPutGroup::put_group` meets its contract: the digits of a part, and what stands behind them.
-- Assumes nothing.
use Rattle.output.proofs.Writes.{writes_then}
use Rattle.image_parts.proofs.WholePartsPutGroup.put_group.Goals as goal

pub returns : goal.returns
returns g c = writes_then c.put_part-next.ensures c.put_tail.ensures
