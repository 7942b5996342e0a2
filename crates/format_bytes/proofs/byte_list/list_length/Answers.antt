-- `format_bytes::byte_list::list_length` meets its contract: the bytes and what stands between them.
-- Assumes nothing.
use mathlib.Core.Path.{◌∙◌}
use Rattle.format_bytes.specs.InnerRadix.{radix_number}
use Rattle.format_bytes.proofs.Lengths as lengths
use Rattle.format_bytes.proofs.byte_list.list_length.Goals as goal

pub returns-clause-length : goal.returns-clause-length
returns-clause-length c s line e f =
    let a = c.args in
    lengths.list_length (radix_number a.radix) s line a.good.image.bytes.now a.good.image.len a.start f
    ∙ rw (e, ← c.bytes_length.ensures.0, ← c.parts-count.ensures, ← c.between_length-between.ensures)
