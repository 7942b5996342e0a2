use Rattle.output.specs.Pieces.{pieces}
use Rattle.output.specs.Writes.{Writes}
use Rattle.intelhex.specs.InnerLent.{block_of}
use Rattle.hex_records.specs.Plan.{chunk_at}
use Rattle.hex_records.specs.Text.{record_text}
use Rattle.intelhex.proofs.text.put_records.Given as goal

abbrev pub invariant-loop-n : goal.invariant-loop-n
invariant-loop-n l = Writes (pieces (λ k. record_text l.image.bytes.now l.image.len (chunk_at l.block.unit.bits (block_of l.block.block) k)) l.n) l.initial.out l.at l.out l.next
