-- The length of the records of a block.
-- Assumes nothing.
use mathlib.Core.Path.{◌≡◌, refl, ap, ◌∙◌}
use mathlib.Core.List.{List, [], ◌∷◌, map, flat_map}
use Prim.Native.Nat.{ℕ, zero, suc, ◌+◌, ◌-◌, ◌*◌, ◌≤◌, ◌<◌, ◌^◌, min}
use native.Mathlib.Omega.{arith}
use lib.ListN.{length, get_or, length-append}
use Rattle.std.specs.List.{zip, sum_by}
use Rattle.std.proofs.lemmas.List.Sums.{sum_by-cons}
use Rattle.bitvec.specs.Size.{ceil_div}
use Rattle.bitvec.proofs.Size.{ceil_covers, ceil_most}
use Rattle.output.specs.Pieces.{pieces}
use Rattle.blocks.specs.Blocks.{Block}
use Rattle.hex_records.specs.Plan.{block_bytes, chunk_at, block_plan, hex_plan, blocks_at}
use Rattle.hex_records.specs.Text.{record_text}
use Rattle.hex_records.proofs.Text.{record_length}
use Rattle.hex_records.proofs.Plan.{block_pieces, paired, blocks_zip}
use Rattle.output.proofs.Flat.{flat_append}

one_length : (bytes : List ℕ) (len unit : ℕ) (b : Block) (n : ℕ) → length (record_text bytes len (chunk_at unit b n)) ≡ 12 + 2 * min 32 (block_bytes b - 32 * n)
unfolding chunk_at
one_length bytes len unit b n = record_length bytes len (chunk_at unit b n)

-- The first n records have 12 characters each, and 2 for each of the bytes that they hold.
records_length : (bytes : List ℕ) (len unit : ℕ) (b : Block) (n : ℕ)
    → length (pieces (λ n. record_text bytes len (chunk_at unit b n)) n) ≡ 12 * n + 2 * min (32 * n) (block_bytes b)
unfolding pieces
records_length bytes len unit b zero = omega arith
records_length bytes len unit b (suc n) =
    let f : ℕ → List ℕ = λ n. record_text bytes len (chunk_at unit b n) in
    length-append (pieces f n) (f n)
    ∙ omega (arith, records_length bytes len unit b n, one_length bytes len unit b n)

pub block_length : (bytes : List ℕ) (len unit : ℕ) (b : Block)
    → length (flat_map (record_text bytes len) (block_plan unit b)) ≡ 12 * ceil_div (ceil_div b.size 8) 32 + 2 * ceil_div b.size 8
block_length bytes len unit b =
    let records = ceil_div (block_bytes b) 32 in
    ap length (block_pieces bytes len unit b) ∙ records_length bytes len unit b records ∙ omega (arith, ceil_covers (block_bytes b) 32 (omega arith))

-- The length of the records of a block of this size, which is not long.
abbrev pub measure : ℕ → ℕ
measure size = 12 * ceil_div (ceil_div size 8) 32 + 2 * ceil_div size 8

small : (size : ℕ) → size < 2 ^ 32 → measure size ≤ 2 ^ 40
small size h = omega (arith, ceil_most (ceil_div size 8) 32 (omega arith), ceil_most size 8 (omega arith))

pub sums_small : (sizes : List ℕ) → ((k : ℕ) → get_or sizes k 0 < 2 ^ 32) → sum_by measure sizes ≤ length sizes * 2 ^ 40
sums_small [] f = omega arith
sums_small (size ∷ sizes) f = rw (sum_by-cons measure size sizes) (omega (arith, small size (f 0), sums_small sizes (λ k. f (suc k))))

-- The length of the records of blocks.
texts_length : (bytes : List ℕ) (len unit : ℕ) (offsets sizes : List ℕ) → length sizes ≡ length offsets
    → length (flat_map (record_text bytes len) (hex_plan unit (map paired (zip offsets sizes)))) ≡ sum_by measure sizes
unfolding hex_plan flat_map
texts_length bytes len unit [] [] e = refl
texts_length bytes len unit [] (s ∷ sizes) e = absurd (omega (arith, e))
texts_length bytes len unit (o ∷ offsets) [] e = absurd (omega (arith, e))
texts_length bytes len unit (o ∷ offsets) (s ∷ sizes) e =
    let f = record_text bytes len in
    let first = block_plan unit (paired (o, s)) in
    let rest = hex_plan unit (map paired (zip offsets sizes)) in
    ap length (flat_append f first rest)
    ∙ length-append (flat_map f first) (flat_map f rest)
    ∙ omega (arith, block_length bytes len unit (paired (o, s)), texts_length bytes len unit offsets sizes (omega (arith, e)), sum_by-cons measure s sizes)

pub plan_length : (bytes : List ℕ) (len unit : ℕ) (offsets sizes : List ℕ) → length sizes ≡ length offsets
    → length (flat_map (record_text bytes len) (hex_plan unit (blocks_at offsets sizes))) ≡ sum_by measure sizes
plan_length bytes len unit offsets sizes e = rw (blocks_zip offsets sizes e) (texts_length bytes len unit offsets sizes e)
