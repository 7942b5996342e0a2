-- What the values of the code stand for: a block, its records, and the records of a plan. No format is defined by it.
use Rattle.std.specs.Prelude.{List}
use Rattle.blocks.specs.Blocks.{Block}
use Rattle.blocks.specs.declared.Block.{Block as Lent}
use Rattle.hex_records.specs.Plan.{Chunk, block_plan, hex_plan, blocks_at}
use Rattle.intelhex.specs.declared.plan.AddressUnit.{AddressUnit}
use Rattle.intelhex.specs.declared.plan.HexPlan.{HexPlan}

abbrev pub block_of : Lent → Block
block_of b = record { offset = b.offset; size = b.size }

abbrev pub records_of : Lent → AddressUnit → List Chunk
records_of b unit = block_plan unit.bits (block_of b)

abbrev pub plan_of : HexPlan → List Chunk
plan_of p = hex_plan p.unit.bits (blocks_at p.blocks.offsets.now p.blocks.sizes.now)
