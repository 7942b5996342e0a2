use Rattle.std.proofs.Common.{length}
use Rattle.output.specs.Pieces.{pieces}
use Rattle.output.specs.Writes.{Writes}
use Rattle.hex_records.proofs.Plan.{block_text}
use Rattle.intelhex.proofs.text.write_hex.Given as goal

abbrev pub invariant-loop-offset : goal.invariant-loop-offset
invariant-loop-offset l =
    let p = l.fn.plan.plan in
    Writes (pieces (block_text l.image.bytes.now l.image.len p.unit.bits p.blocks.offsets.now p.blocks.sizes.now) (length l.yielded)) l.initial.out 0 l.out l.next
