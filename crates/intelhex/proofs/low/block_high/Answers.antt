-- `intelhex::low::block_high` meets its contract: the last record's address is the highest.
-- Assumes nothing.
use Rattle.std.proofs.Common.{◌≡◌, ℕ, ◌+◌, ◌*◌, ◌/◌, ◌<◌, ◌≤◌, ◌^◌, sym, ◌∙◌, rules, arith, lt-ltb, le-ltb}
use Rattle.bitvec.specs.Size.{ceil_div}
use Rattle.bitvec.proofs.Size.{ceil_most}
use Rattle.output.proofs.Order.{by_order}
use Rattle.intelhex.specs.InnerLent.{block_of}
use Rattle.intelhex.proofs.High.{block_low, block_too_high, block_none}
use Rattle.intelhex.proofs.low.block_high.Goals as goal

-- A block has no more records than bits.
within : (size : ℕ) → ceil_div (ceil_div size 8) 32 ≤ size
within size = omega (arith, ceil_most (ceil_div size 8) 32 (omega arith), ceil_most size 8 (omega arith))

pub returns-in_default : goal.returns-in_default
returns-in_default c =
    sym (block_none c.args.unit.bits (block_of c.args.block) (omega (arith, c.record_count.ensures, c.in_default.ensures)))

pub overflow_mul-last : goal.overflow_mul-last
overflow_mul-last c =
    let size : c.args.block.size < 2 ^ 32 = search rules in
    record { fits = omega (arith, within c.args.block.size, c.record_count.ensures, c.in-Some.ensures, size) }

pub plus-from-requires : goal.plus-from-requires
plus-from-requires c =
    let size : c.args.block.size < 2 ^ 32 = search rules in
    let offset : c.args.block.offset < 2 ^ 32 = search rules in
    omega (arith, within c.args.block.size, c.record_count.ensures, c.in-Some.ensures, size, offset, c.from.ensures)

pub returns : goal.returns
returns c =
    let unit = c.args.unit in
    let b = block_of c.args.block in
    let m = c.in-Some.last in
    let last : ceil_div (ceil_div b.size 8) 32 ≡ m + 1 = omega (arith, c.record_count.ensures, c.in-Some.ensures) in
    rw (c.address.ensures, c.plus-from.ensures, c.from.ensures)
    (by_order 65535 ((b.offset + 256 * m) / unit.bits)
    (λ h. lt-ltb 65535 _ h ∙ sym (block_too_high unit.bits b m last h))
    (λ h. le-ltb 65535 _ h ∙ sym (block_low unit.bits b m unit.positive last h)))
