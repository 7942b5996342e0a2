-- Addresses that do not fit: what refusal 5 looks at.
-- Assumes nothing.
use mathlib.Core.Path.{◌≡◌, refl, sym, ◌∙◌}
use mathlib.Core.Bool.{Bool, true, false, ◌||◌}
use mathlib.Core.List.{List, [], ◌∷◌, ◌++◌, map, flat_map}
use Prim.Native.Nat.{ℕ, ◌+◌, ◌*◌, ◌/◌, ◌≤◌, ◌<◌}
use native.Mathlib.Nat.{div-lt_iff_lt-mul}
use native.Mathlib.Omega.{arith}
use lib.Dec.{ltb}
use lib.ListN.{length}
use borrow.Author.Tests.{lt-ltb}
use Rattle.bitvec.specs.Size.{ceil_div}
use Rattle.output.specs.Lists.{table}
use Rattle.output.proofs.Lists.{table_next, each_table}
use Rattle.blocks.specs.Blocks.{Block}
use Rattle.hex_records.specs.Plan.{Chunk, block_bytes, chunk_at, block_plan, hex_plan, too_high, blocks_at}
use Rattle.hex_records.proofs.Plan.{Low, each_low, paired, blocks_zip}
use Rattle.std.specs.List.{list_any, zip}
use Rattle.std.proofs.Math.Bool.{or_assoc}

-- A plan is too high where one of its parts is.
high_append : (a b : List Chunk) → too_high (a ++ b) ≡ (too_high a || too_high b)
unfolding too_high
high_append [] b = refl
high_append (c ∷ a) b = rw (high_append a b) (sym (or_assoc (ltb 65535 c.address) (too_high a) (too_high b)))

-- The records of a block rise, so that its last one tells.
pub block_low : (unit : ℕ) (b : Block) (m : ℕ) → 0 < unit → ceil_div (block_bytes b) 32 ≡ m + 1 → (b.offset + 256 * m) / unit ≤ 65535 → too_high (block_plan unit b) ≡ false
unfolding block_plan chunk_at
block_low unit b m u e h =
    each_low (table (chunk_at unit b) (ceil_div (block_bytes b) 32))
    (each_table Low (chunk_at unit b) (ceil_div (block_bytes b) 32) (λ k l. rising k (omega arith)))
  where
    rising : (k : ℕ) → k ≤ m → (b.offset + 256 * k) / unit ≤ 65535
    rising k l =
        let bound = (div-lt_iff_lt-mul {x = b.offset + 256 * m} {y = 65536} u).0 (omega arith) in
        omega (arith, (div-lt_iff_lt-mul {x = b.offset + 256 * k} {y = 65536} u).1 (omega (arith, bound)))

or_true : (t : Bool) → (t || true) ≡ true
or_true true = refl
or_true false = refl

high_one : (c : Chunk) → 65535 < c.address → too_high (c ∷ []) ≡ true
unfolding too_high
high_one c h = simp (lt-ltb 65535 c.address h)

pub block_too_high : (unit : ℕ) (b : Block) (m : ℕ) → ceil_div (block_bytes b) 32 ≡ m + 1 → 65535 < (b.offset + 256 * m) / unit → too_high (block_plan unit b) ≡ true
unfolding block_plan chunk_at
block_too_high unit b m e h =
    rw (e, table_next (chunk_at unit b) m) (high_append (table (chunk_at unit b) m) (chunk_at unit b m ∷ [])
    ∙ rw (high_one (chunk_at unit b m) h) (or_true (too_high (table (chunk_at unit b) m))))

-- A block of no records is not too high.
pub block_none : (unit : ℕ) (b : Block) → ceil_div (block_bytes b) 32 ≡ 0 → too_high (block_plan unit b) ≡ false
unfolding block_plan table too_high
block_none unit b e = rw e

-- So is the plan of blocks, where one block is.
plan_high : (unit : ℕ) (ps : List (ℕ × ℕ)) → too_high (hex_plan unit (map paired ps)) ≡ list_any (λ p. too_high (block_plan unit (paired p))) ps
unfolding hex_plan flat_map too_high
plan_high unit [] = refl
plan_high unit (p ∷ ps) = rw (high_append (block_plan unit (paired p)) (hex_plan unit (map paired ps)), plan_high unit ps) refl

pub any_high : (unit : ℕ) (offsets sizes : List ℕ) → length sizes ≡ length offsets
    → too_high (hex_plan unit (blocks_at offsets sizes)) ≡ list_any (λ p. too_high (block_plan unit (paired p))) (zip offsets sizes)
any_high unit offsets sizes e = rw (blocks_zip offsets sizes e) (plan_high unit (zip offsets sizes))
