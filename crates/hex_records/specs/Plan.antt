-- The records of an Intel HEX file, laid out without a look at the image (document 01, module 8; the Rust's `format_intelhex`).
use Rattle.std.specs.Prelude.{ℕ, ◌+◌, ◌-◌, ◌*◌, ◌/◌, min, Bool, false, ◌||◌, List, [], ◌∷◌, length, nat_lt, slice_index}
use mathlib.Core.List.{flat_map}
use Rattle.bitvec.specs.Size.{ceil_div}
use Rattle.output.specs.Lists.{table}
use Rattle.blocks.specs.Blocks.{Block}

-- A data record to be written: its address, the offset of its first bit, and how many bytes it has.
pub record Chunk : Type 0 where
  pub address : ℕ
  pub from : ℕ
  pub count : ℕ

-- The bytes of a block, counted up to whole ones from its own start.
abbrev pub block_bytes : Block → ℕ
block_bytes b = ceil_div b.size 8

-- Record n of a block: 32 bytes, the last record shorter. Its address is the unit address of its first byte.
unfoldable pub chunk_at : ℕ → Block → ℕ → Chunk
chunk_at unit b n =
    record {
      address = (b.offset + 256 * n) / unit;
      from = b.offset + 256 * n;
      count = min 32 (block_bytes b - 32 * n);
    }

unfoldable pub block_plan : ℕ → Block → List Chunk
block_plan unit b = table (chunk_at unit b) (ceil_div (block_bytes b) 32)

-- The records of each block.
unfoldable pub hex_plan : ℕ → List Block → List Chunk
hex_plan unit blocks = flat_map (block_plan unit) blocks

-- The cause of refusal 5: the address of a record's first byte is above 65,535.
unfoldable pub too_high : List Chunk → Bool
too_high [] = false
too_high (c ∷ rest) = nat_lt 65535 c.address || too_high rest

-- The blocks whose offsets and sizes two lists hold.
unfoldable pub blocks_at : List ℕ → List ℕ → List Block
blocks_at offsets sizes = table (λ k. record { offset = slice_index offsets k; size = slice_index sizes k }) (length offsets)
