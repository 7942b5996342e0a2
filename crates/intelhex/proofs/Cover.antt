-- The plan of blocks covers exactly their bits: two images have the same bytes at each record exactly when they agree on the blocks.
-- Assumes nothing.
use mathlib.Core.Path.{◌≡◌, sym, ap, ◌∙◌, subst}
use mathlib.Core.Logic.{◌↔◌}
use mathlib.Core.List.{List}
use Prim.Native.Nat.{ℕ, ◌+◌, ◌-◌, ◌*◌, ◌/◌, ◌%◌, ◌<◌, min}
use native.Mathlib.Omega.{arith}
use lib.ListN.{get_or}
use Rattle.bitvec.specs.Bits.{bit_at, bits_at}
use Rattle.bitvec.specs.Size.{ceil_div}
use Rattle.bitvec.proofs.Bits.{SameBits, bits_same}
use Rattle.bitvec.proofs.Size.{ceil_covers}
use Rattle.output.specs.Lists.{Each}
use Rattle.output.proofs.Lists.{table_get, table_equal, table_each, each_table, each_map}
use Rattle.blocks.specs.Blocks.{Block}
use Rattle.hex_records.specs.Plan.{block_bytes, chunk_at, block_plan, hex_plan}
use Rattle.hex_records.specs.Text.{bytes_from}
use Rattle.hex_records.proofs.Plan.{each_flat, flat_each}
use Rattle.hex_records.proofs.Decoded.{Same}
use Rattle.intelhex.specs.TwoImages.{Agree}

module _ (b₁ b₂ : List ℕ) (n₁ n₂ : ℕ) where
  -- The same bytes are the same bits.
  bytes_bits : (from count : ℕ) → bytes_from b₁ n₁ from count ≡ bytes_from b₂ n₂ from count → SameBits b₁ n₁ b₂ n₂ from (8 * count)
  unfolding bytes_from
  bytes_bits from count e i h =
      let k = i / 8 in
      let f : ℕ → ℕ = λ k. bits_at b₁ n₁ (from + 8 * k) 8 in
      let g : ℕ → ℕ = λ k. bits_at b₂ n₂ (from + 8 * k) 8 in
      let byte : f k ≡ g k = sym (table_get f count k 0 (omega arith)) ∙ ap (λ (l : List ℕ). get_or l k 0) e ∙ table_get g count k 0 (omega arith) in
      subst (λ (j : ℕ). bit_at b₁ n₁ j ≡ bit_at b₂ n₂ j) (omega arith) ((bits_same b₁ n₁ b₂ n₂ (from + 8 * k) 8).0 byte (i % 8) (omega arith))

  bits_bytes : (from count : ℕ) → SameBits b₁ n₁ b₂ n₂ from (8 * count) → bytes_from b₁ n₁ from count ≡ bytes_from b₂ n₂ from count
  unfolding bytes_from
  bits_bytes from count a =
      table_equal (λ k. bits_at b₁ n₁ (from + 8 * k) 8) (λ k. bits_at b₂ n₂ (from + 8 * k) 8) count
      (λ k h. (bits_same b₁ n₁ b₂ n₂ (from + 8 * k) 8).1
      (λ j l. subst (λ (x : ℕ). bit_at b₁ n₁ x ≡ bit_at b₂ n₂ x) (omega arith) (a (8 * k + j) (omega arith))))

  -- The records of a block hold its bits and no others.
  block_records : (unit : ℕ) (b : Block) → SameBits b₁ n₁ b₂ n₂ b.offset (8 * block_bytes b) → Each (Same b₁ b₂ n₁ n₂) (block_plan unit b)
  unfolding block_plan chunk_at
  block_records unit b a =
      each_table (Same b₁ b₂ n₁ n₂) (chunk_at unit b) (ceil_div (block_bytes b) 32)
      (λ n h. bits_bytes (b.offset + 256 * n) (min 32 (block_bytes b - 32 * n))
      (λ i l. subst (λ (x : ℕ). bit_at b₁ n₁ x ≡ bit_at b₂ n₂ x) (omega arith) (a (256 * n + i) (omega arith))))

  records_block : (unit : ℕ) (b : Block) → Each (Same b₁ b₂ n₁ n₂) (block_plan unit b) → SameBits b₁ n₁ b₂ n₂ b.offset (8 * block_bytes b)
  unfolding block_plan chunk_at
  records_block unit b e i h =
      let n = i / 256 in
      let more : n < ceil_div (block_bytes b) 32 = omega (arith, ceil_covers (block_bytes b) 32 (omega arith)) in
      subst (λ (x : ℕ). bit_at b₁ n₁ x ≡ bit_at b₂ n₂ x) (omega arith)
      (bytes_bits (b.offset + 256 * n) (min 32 (block_bytes b - 32 * n))
      (table_each (Same b₁ b₂ n₁ n₂) (chunk_at unit b) (ceil_div (block_bytes b) 32) e n more) (i % 256) (omega arith))

  -- The lemma of this plan for the two-image rule.
  pub plan_covers : (unit : ℕ) (blocks : List Block) → Each (Same b₁ b₂ n₁ n₂) (hex_plan unit blocks) ↔ Agree blocks b₁ n₁ b₂ n₂
  unfolding hex_plan Agree
  plan_covers unit blocks = (
    λ e. each_map _ _ blocks (records_block unit) (each_flat (Same b₁ b₂ n₁ n₂) (block_plan unit) blocks e),
    λ a. flat_each (Same b₁ b₂ n₁ n₂) (block_plan unit) blocks (each_map _ _ blocks (block_records unit) a),
  )
