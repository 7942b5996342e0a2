-- Laws of plans: what holds of each of their records, and their texts as pieces.
-- Assumes nothing.
use Rattle.std.proofs.Common.{◌≡◌, ℕ, ◌<◌, ◌≤◌, List, [], ◌∷◌, map, length, get_or, refl, sym, ap, ◌∙◌, arith}
use mathlib.Core.Bool.{Bool, true, false, ◌||◌, false≢true}
use mathlib.Core.List.{flat_map}
use Rattle.std.specs.List.{zip}
use lib.Dec.{ltb}
use borrow.Author.Tests.{le-ltb, ltb-false}
use lib.ListN.{get_or-map}
use Rattle.bitvec.specs.Size.{ceil_div}
use Rattle.output.specs.Pieces.{pieces}
use Rattle.output.specs.Lists.{table, Each}
use Rattle.output.proofs.Lists.{each_parts, each_append, each_table, table_each, table_equal, table_list, map_length}
use Rattle.blocks.specs.Blocks.{Block}
use Rattle.hex_records.specs.Plan.{Chunk, block_bytes, chunk_at, block_plan, hex_plan, too_high, blocks_at}
use Rattle.hex_records.specs.Text.{record_text}
use Rattle.output.proofs.Flat.{flat_table, flat_flat}

-- What holds of each record of a plan holds of each record of each block.
pub each_flat : {A B : Type 0} (P : B → Type 0) (g : A → List B) (l : List A) → Each P (flat_map g l) → Each (λ x. Each P (g x)) l
unfolding flat_map
each_flat P g [] e = tt
each_flat P g (x ∷ l) e = let b = each_parts P (g x) (flat_map g l) e in (b.0, each_flat P g l b.1)

pub flat_each : {A B : Type 0} (P : B → Type 0) (g : A → List B) (l : List A) → Each (λ x. Each P (g x)) l → Each P (flat_map g l)
unfolding flat_map
flat_each P g [] e = tt
flat_each P g (x ∷ l) e = each_append P (g x) (flat_map g l) e.0 (flat_each P g l e.1)

-- The text of a block's records, and that of the records of several blocks.
pub block_pieces : (bytes : List ℕ) (len unit : ℕ) (b : Block)
    → flat_map (record_text bytes len) (block_plan unit b) ≡ pieces (λ n. record_text bytes len (chunk_at unit b n)) (ceil_div (block_bytes b) 32)
unfolding block_plan
block_pieces bytes len unit b = flat_table (record_text bytes len) (chunk_at unit b) (ceil_div (block_bytes b) 32)

-- Block k of two lists.
abbrev pub block_at : List ℕ → List ℕ → ℕ → Block
block_at offsets sizes k = record { offset = get_or offsets k 0; size = get_or sizes k 0 }

-- The text of its records.
abbrev pub block_text : List ℕ → ℕ → ℕ → List ℕ → List ℕ → ℕ → List ℕ
block_text bytes len unit offsets sizes k = flat_map (record_text bytes len) (block_plan unit (block_at offsets sizes k))

pub plan_pieces : (bytes : List ℕ) (len unit : ℕ) (offsets sizes : List ℕ)
    → flat_map (record_text bytes len) (hex_plan unit (blocks_at offsets sizes)) ≡ pieces (block_text bytes len unit offsets sizes) (length offsets)
unfolding hex_plan blocks_at
plan_pieces bytes len unit offsets sizes =
    flat_flat (record_text bytes len) (block_plan unit) (table (block_at offsets sizes) (length offsets))
    ∙ flat_table (λ b. flat_map (record_text bytes len) (block_plan unit b)) (block_at offsets sizes) (length offsets)

-- Each record of block k.
pub plan_each : (P : Chunk → Type 0) (unit : ℕ) (offsets sizes : List ℕ) → Each P (hex_plan unit (blocks_at offsets sizes))
    → (k : ℕ) → k < length offsets → Each P (block_plan unit (block_at offsets sizes k))
unfolding hex_plan blocks_at
plan_each P unit offsets sizes e =
    table_each (λ b. Each P (block_plan unit b)) (block_at offsets sizes) (length offsets)
    (each_flat P (block_plan unit) (table (block_at offsets sizes) (length offsets)) e)

-- Each record of a block by its number.
pub block_each : (P : Chunk → Type 0) (unit : ℕ) (b : Block) → Each P (block_plan unit b) → (n : ℕ) → n < ceil_div (block_bytes b) 32 → P (chunk_at unit b n)
unfolding block_plan
block_each P unit b e = table_each P (chunk_at unit b) (ceil_div (block_bytes b) 32) e

-- Blocks are read back from their offsets and sizes.
pub blocks_back : (blocks : List Block) → blocks_at (map (λ b. b.offset) blocks) (map (λ b. b.size) blocks) ≡ blocks
unfolding blocks_at
blocks_back blocks =
    let none : Block = record { offset = 0; size = 0 } in
    let offsets = map (λ b. b.offset) blocks in
    let sizes = map (λ b. b.size) blocks in
    ap (table (block_at offsets sizes)) (map_length (λ b. b.offset) blocks)
    ∙ table_equal (block_at offsets sizes) (λ k. get_or blocks k none) (length blocks)
    (λ k h. rw (get_or-map (λ b. b.offset) blocks k none, get_or-map (λ b. b.size) blocks k none))
    ∙ table_list blocks none

-- The blocks of two lists of one length, as those of their pairs.
abbrev pub paired : ℕ × ℕ → Block
paired p = record { offset = p.0; size = p.1 }

pub blocks_zip : (offsets sizes : List ℕ) → length sizes ≡ length offsets → blocks_at offsets sizes ≡ map paired (zip offsets sizes)
blocks_zip offsets sizes e =
    rw (firsts offsets sizes e, seconds offsets sizes e) at (blocks_back (map paired (zip offsets sizes)))
  where
    firsts : (xs ys : List ℕ) → length ys ≡ length xs → map (λ b. b.offset) (map paired (zip xs ys)) ≡ xs
    firsts [] ys e = refl
    firsts (x ∷ xs) [] e = absurd (omega (arith, e))
    firsts (x ∷ xs) (y ∷ ys) e = ap (λ (l : List ℕ). x ∷ l) (firsts xs ys (omega (arith, e)))

    seconds : (xs ys : List ℕ) → length ys ≡ length xs → map (λ b. b.size) (map paired (zip xs ys)) ≡ ys
    seconds [] [] e = refl
    seconds [] (y ∷ ys) e = absurd (omega (arith, e))
    seconds (x ∷ xs) [] e = absurd (omega (arith, e))
    seconds (x ∷ xs) (y ∷ ys) e = ap (λ (l : List ℕ). y ∷ l) (seconds xs ys (omega (arith, e)))

-- A record has at most 32 bytes.
pub plan_counts : (unit : ℕ) (blocks : List Block) → Each (λ c. c.count ≤ 32) (hex_plan unit blocks)
unfolding hex_plan block_plan chunk_at
plan_counts unit blocks = flat_each (λ c. c.count ≤ 32) (block_plan unit) blocks (each_all blocks)
  where
    each_all : (blocks : List Block) → Each (λ b. Each (λ c. c.count ≤ 32) (block_plan unit b)) blocks
    each_all [] = tt
    each_all (b ∷ rest) = (each_table (λ c. c.count ≤ 32) (chunk_at unit b) (ceil_div (block_bytes b) 32) (λ k h. omega arith), each_all rest)

-- The address fits.
abbrev pub Low : Chunk → Type 0
Low c = c.address ≤ 65535

-- A plan is not too high exactly when each address fits.
pub low_each : (plan : List Chunk) → too_high plan ≡ false → Each Low plan
unfolding too_high
low_each [] e = tt
low_each (c ∷ plan) e = go (ltb 65535 c.address) (too_high plan) refl refl e (low_each plan)
  where
    go : (a b : Bool) → ltb 65535 c.address ≡ a → too_high plan ≡ b → (a || b) ≡ false → (too_high plan ≡ false → Each Low plan) → Low c × Each Low plan
    go true b p q e f = absurd (false≢true (sym e))
    go false true p q e f = absurd (false≢true (sym e))
    go false false p q e f = (ltb-false _ _ p, f q)

pub each_low : (plan : List Chunk) → Each Low plan → too_high plan ≡ false
unfolding too_high
each_low [] e = refl
each_low (c ∷ plan) e = simp (le-ltb 65535 c.address e.0, each_low plan e.1)
