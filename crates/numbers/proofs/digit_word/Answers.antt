-- `numbers::digit_word` meets its contract: computed for each of the 256 bytes.
-- Assumes nothing.
use Prim.Native.Nat.{ℕ, ◌*◌, ◌%◌, ◌/◌, ◌^◌}
use native.Mathlib.Omega.{arith}
use lib.Bits.{bit_and, bit_or}
use lib.Dec.{T}
use Rattle.std.specs.Int.{w64, to_le_bytes}
use Rattle.output.specs.Pieces.{pieces}
use Rattle.output.proofs.Exhaust.{all, same, exhaust}
use Rattle.numbers.specs.Digits.{digit_char, digits_of}
use Rattle.numbers.proofs.digit_word.Goals as goal

-- the word, as the code computes it
abbrev word : ℕ → ℕ
word b =
    let seven = bit_and (b * 18049651735527937 / 2 ^ 7) 282578800148737 in
    let ones = bit_or seven (bit_and b 1 * 72057594037927936 % 18446744073709551616) in
    bit_or ones 3472328296227680304

right : T (all (λ b. same (to_le_bytes w64 (word b)) (digits_of 1 8 b)) 256)
unfolding digits_of pieces digit_char
right = tt

pub returns : goal.returns
returns c = exhaust (λ b. to_le_bytes w64 (word b)) (digits_of 1 8) 256 right c.args.byte (omega arith)
