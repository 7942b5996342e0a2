-- The length of the memory initialization file, which the exporter computes before it writes.
-- Assumes nothing.
use mathlib.Core.Path.{◌≡◌, ◌∙◌}
use mathlib.Core.List.{List}
use Prim.Native.Nat.{ℕ, ◌+◌, ◌-◌, ◌*◌, ◌^◌, ◌≤◌, ◌<◌, max}
use native.Mathlib.Nat.{mul-le-mul}
use native.Mathlib.Omega.{arith}
use lib.ListN.{length, length-append}
use Rattle.bitvec.specs.Size.{ceil_div}
use Rattle.output.specs.Pieces.{pieces}
use Rattle.output.proofs.Pieces.{pieces_length}
use Rattle.numbers.specs.Digits.{byte_text, digit_count}
use Rattle.numbers.proofs.Digits.{number_length, padded_length, count_rises, count_small}
use Rattle.format_mif.specs.Mif.{mif_line, mif_text}

-- A line of the memory initialization file: its address, and seven characters.
pub mif_line_length : (bytes : List ℕ) (len width k : ℕ) → length (mif_line bytes len width k) ≡ max width (digit_count 16 k) + 7
unfolding mif_line byte_text
mif_line_length bytes len width k = simp (length-append, padded_length, number_length) (omega arith)

-- The file: its heading and its end, the number of bytes, and the lines.
pub mif_parts : (bytes : List ℕ) (len : ℕ)
    → length (mif_text bytes len) ≡ 79 + digit_count 10 (ceil_div len 8) + length (pieces (mif_line bytes len (digit_count 16 (ceil_div len 8 - 1))) (ceil_div len 8))
unfolding mif_text
mif_parts bytes len = simp (length-append, number_length) (omega arith)

-- No address is longer than the last one.
pub mif_length : (bytes : List ℕ) (len : ℕ)
    → length (mif_text bytes len) ≡ digit_count 10 (ceil_div len 8) + ceil_div len 8 * (digit_count 16 (ceil_div len 8 - 1) + 7) + 79
mif_length bytes len =
    let last = ceil_div len 8 - 1 in
    let lines = pieces_length (mif_line bytes len (digit_count 16 last)) (digit_count 16 last + 7) (ceil_div len 8) (λ k h.
    mif_line_length bytes len (digit_count 16 last) k ∙ omega (arith, count_rises 16 (omega arith) k last (omega arith))) in
    omega (arith, mif_parts bytes len)

-- The digits of the last address and of the number of bytes are few, and so are the characters of the lines.
pub counts_below : (n : ℕ) → n < 2 ^ 32 → (digit_count 16 (n - 1) ≤ 32) × (digit_count 10 n ≤ 32) × (n * (digit_count 16 (n - 1) + 7) ≤ 2 ^ 32 * 39)
counts_below n h =
    let width = count_small 16 (omega arith) 31 (n - 1) (omega arith) in
    (width, count_small 10 (omega arith) 31 n (omega arith), mul-le-mul {n₂ = 2 ^ 32} {m₂ = 39} (omega arith) (omega arith))
