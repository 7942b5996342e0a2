-- `of_spans::format_annotated` meets its contract: the columns' listing is that of the records.
-- Assumes nothing.
use Rattle.std.proofs.Common.{length}
use Rattle.spans.proofs.Few.{front}
use Rattle.of_spans.proofs.Few.{listing_few}
use Rattle.of_spans.proofs.format_annotated.Goals as goal

pub returns : goal.returns
returns c =
    let a = c.args in
    let few = listing_few a.image.bytes.now a.image.len a.options a.spans.now a.sources.firmware.now a.sources.protocol.now (length a.out.now) in
    let of = c.copy-columns.ensures in
    let more = c.copy-others.ensures in
    rw (← few, ← front _ _ of.count of.offsets, ← front _ _ of.count of.sizes, ← front _ _ more.count more.addrs, ← front _ _ more.count more.files, ← front _ _ more.count more.starts, ← front _ _ more.count more.ends)
    c.format_annotated.ensures
