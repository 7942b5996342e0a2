use lib.ListN.{drop}
use Rattle.blocks.proofs.Closing.{Closing}
use Rattle.blocks.proofs.close_all.Given as goal

abbrev pub invariant-loop-place : goal.invariant-loop-place
invariant-loop-place l = Closing l.offsets l.sizes (drop l.place-index l.places) l.initial.block_offsets l.initial.block_sizes l.block_offsets l.block_sizes l.block.offset l.block.size l.count
