-- `format_bytes::c_array::put_comment` meets its contract: one writer after another.
-- Assumes nothing.
use Rattle.output.proofs.Writes.{writes_then}
use Rattle.format_bytes.specs.CArray.{address_comment}
use Rattle.format_bytes.proofs.c_array.put_comment.Goals as goal

pub returns : goal.returns
unfolding address_comment
returns c =
    writes_then c.put_all-next.ensures (writes_then c.put_padded-next.ensures c.put_all.ensures)
