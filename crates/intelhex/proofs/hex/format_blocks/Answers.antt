-- `intelhex::hex::format_blocks` meets its contract: refusal 3 is that of the blocks, and else the arrays' fronts hold them.
-- Assumes nothing.
use Rattle.std.proofs.Common.{◌≡◌, ℕ, ◌≤◌, List, Err, length, replicate, map, take, refl, sym, ap, ◌∙◌, arith, rules}
use Rattle.std.proofs.lemmas.List.{length-replicate}
use Rattle.std.proofs.lemmas.List.Edits.{sets}
use Rattle.outcome.specs.Outcome.{refused}
use Rattle.output.proofs.Lists.{sets_front, map_length}
use Rattle.blocks.specs.Blocks.{Block, blocks_of}
use Rattle.blocks.proofs.Running.{blocks_few}
use Rattle.blocks.proofs.Finding.{refused_found, good_found, blocks_found_lem}
use Rattle.hex_records.specs.Plan.{hex_plan, blocks_at}
use Rattle.hex_records.proofs.Plan.{blocks_back}
use Rattle.intelhex.specs.Hex.{plan_outcome}
use Rattle.intelhex.proofs.hex.format_blocks.Goals as goal

-- The front of a slice in which a number of each block is stored.
front : (before after : List ℕ) (f : Block → ℕ) (blocks : List Block) (n : ℕ) → n ≡ length blocks → n ≤ length before → after ≡ sets before 0 (map f blocks) → take n after ≡ map f blocks
front before after f blocks n e h s =
    let all = map_length f blocks in
    ap (take n) s ∙ sets_front before (map f blocks) n (omega (arith, all, e, h)) (e ∙ sym all)

pub returns-in_err-count : goal.returns-in_err-count
returns-in_err-count g c =
    let a = c.args in
    let r = c.in_err-count.field-0.0 in
    let same : c.from_residual.result ≡ Err r = search rules in
    let zeros : List ℕ = replicate g.row.N 0 in
    let long = length-replicate {A = ℕ} g.row.N 0 in
    let rest = plan_outcome a.image.bytes.now a.image.len (hex_plan a.unit.bits (blocks_of a.offsets.now a.sizes.now)) (length a.out.now) in
    rw (
      same,
      refused_found a.offsets.now a.sizes.now zeros c.get_blocks.new.block_offsets zeros c.get_blocks.new.block_sizes refused rest r
          (λ e. (omega (arith, c.requires.room e, long), omega (arith, c.requires.room e, long))) c.in_err-count.ensures,
    )
    record { answered = refl; buffer = refl }

pub shared_whole_as_front-blocks : goal.shared_whole_as_front-blocks
shared_whole_as_front-blocks g c =
    let a = c.args in
    let zeros : List ℕ = replicate g.row.N 0 in
    let f = blocks_found_lem a.offsets.now a.sizes.now zeros c.get_blocks.new.block_offsets zeros c.get_blocks.new.block_sizes c.in_ok-count.count c.in_ok-count.ensures in
    (omega (arith, blocks_few a.offsets.now a.sizes.now, f.1.counted, c.requires.room f.2), omega (arith, c.requires.places))

pub returns : goal.returns
returns g c =
    let a = c.args in
    let n = c.in_ok-count.count in
    let new = c.get_blocks.new in
    let zeros : List ℕ = replicate g.row.N 0 in
    let f = blocks_found_lem a.offsets.now a.sizes.now zeros new.block_offsets zeros new.block_sizes n c.in_ok-count.ensures in
    let blocks = blocks_of a.offsets.now a.sizes.now in
    let many : n ≡ length blocks = omega (arith, f.1.counted) in
    let within : n ≤ length zeros = omega (arith, blocks_few a.offsets.now a.sizes.now, many, c.requires.room f.2, length-replicate {A = ℕ} g.row.N 0) in
    let rest = plan_outcome a.image.bytes.now a.image.len (hex_plan a.unit.bits blocks) (length a.out.now) in
    let good = good_found a.offsets.now a.sizes.now zeros new.block_offsets zeros new.block_sizes refused rest n c.in_ok-count.ensures in
    let found : blocks_at (take n new.block_offsets) (take n new.block_sizes) ≡ blocks =
    rw (front zeros new.block_offsets (λ b. b.offset) blocks n many within f.1.offsets, front zeros new.block_sizes (λ b. b.size) blocks n many within f.1.sizes) (blocks_back blocks) in
    rw (good, ← found) c.format_plan.ensures
