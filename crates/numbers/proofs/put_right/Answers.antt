-- `numbers::put_right` meets its contract: the fill, and then the text.
-- Assumes nothing.
use Rattle.numbers.specs.Digits.{padded}
use Rattle.output.proofs.Writes.{writes_then}
use Rattle.numbers.proofs.put_right.Goals as goal

pub returns : goal.returns
unfolding padded
returns c = writes_then (rw c.saturating_sub.ensures at c.put_fill-next.ensures) c.put_all.ensures
