-- `of_spans::get_blocks` meets its contract: the columns' blocks are those of the records.
-- Assumes nothing.
use Rattle.std.proofs.Common.{length}
use Rattle.spans.proofs.Few.{front}
use Rattle.of_spans.proofs.Few.{blocks_few}
use Rattle.of_spans.proofs.get_blocks.Goals as goal

pub returns : goal.returns
returns c =
    let few = blocks_few c.args.spans.now (length c.args.block_offsets.now) (length c.args.block_sizes.now) in
    let of = c.copy-columns.ensures in
    rw (← few, ← front _ _ of.count of.offsets, ← front _ _ of.count of.sizes) c.get_blocks.ensures
