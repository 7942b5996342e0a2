-- `format_logisim::ChunkTailPartTail::put_tail` meets its contract: one writer after another.
-- Assumes nothing.
use Rattle.output.proofs.Writes.{writes_then}
use Rattle.format_logisim.proofs.ChunkTailPartTail.put_tail.Goals as goal

pub returns : goal.returns
returns c = rw (← c.byte.ensures) (writes_then c.put-next.ensures c.put_every.ensures)
