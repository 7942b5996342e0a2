-- `of_spans::format_intelhex` meets its contract: the columns' export is that of the records.
-- Assumes nothing.
use Rattle.std.proofs.Common.{length}
use Rattle.spans.proofs.Few.{front}
use Rattle.of_spans.proofs.Few.{hex_few}
use Rattle.of_spans.proofs.format_intelhex.Goals as goal

pub returns : goal.returns
returns c =
    let a = c.args in
    let few = hex_few a.image.bytes.now a.image.len a.spans.now a.address_unit (length a.out.now) in
    let of = c.copy-columns.ensures in
    rw (← few, ← front _ _ of.count of.offsets, ← front _ _ of.count of.sizes) c.format_intelhex.ensures
