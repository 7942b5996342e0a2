-- `intelhex::text::LowBlock::record` meets its contract: the record is within the block.
-- Assumes nothing.
use Rattle.std.proofs.Common.{◌≡◌, ℕ, ◌-◌, ◌*◌, ◌<◌, ◌≤◌, min, ◌^◌, rules, arith}
use Rattle.bitvec.specs.Size.{ceil_div}
use Rattle.bitvec.proofs.Size.{ceil_most, ceil_inside}
use Rattle.intelhex.specs.InnerLent.{block_of, records_of}
use Rattle.hex_records.specs.Plan.{chunk_at}
use Rattle.hex_records.proofs.Plan.{Low, low_each, block_each}
use Rattle.intelhex.proofs.text.LowBlock.record.Goals as goal

within : (size n : ℕ) → n < ceil_div (ceil_div size 8) 32 → (n * 32 < ceil_div size 8) × (ceil_div size 8 ≤ size)
within size n h = (ceil_inside (ceil_div size 8) 32 n (omega arith) h, ceil_most size 8 (omega arith))

pub overflow_sub-bytes : goal.overflow_sub-bytes
overflow_sub-bytes c = omega (arith, within c.args.self.block.size c.args.n c.requires, c.bytes.ensures)

pub invariant_of-result : goal.invariant_of-result
unfolding chunk_at
invariant_of-result c =
    let b = c.args.self in
    let low = block_each Low b.unit.bits (block_of b.block) (low_each (records_of b.block b.unit) b.low) c.args.n c.requires in
    let size : b.block.size < 2 ^ 32 = search rules in
    let offset : b.block.offset < 2 ^ 32 = search rules in
    record {
      low = rw (c.address.ensures, c.plus-from.ensures, c.from.ensures) low;
      few = omega (arith, c.min.ensures);
      near = omega (arith, within c.args.self.block.size c.args.n c.requires, size, offset, c.plus-from.ensures, c.from.ensures, c.min.ensures);
    }

pub returns : goal.returns
unfolding chunk_at
returns c =
    let held : c.min.result ≡ min 32 (c.bytes.result - 32 * c.args.n) = omega (arith, c.min.ensures) in
    rw (c.address.ensures, c.plus-from.ensures, c.from.ensures, held, c.bytes.ensures)
