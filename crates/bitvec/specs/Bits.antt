-- The bits of an image and the digits that they make (document 01, "What an exporter is lent" and module 1; the Rust's `read_bit`).
use Rattle.std.specs.Prelude.{cond, List, ℕ, zero, suc, ◌+◌, ◌-◌, ◌*◌, ◌/◌, ◌%◌, ◌^◌, ltb, get_or}

-- Bit i of an image of len bits: bit 0 is the top bit of byte 0, and every bit from len on is 0.
unfoldable pub bit_at : List ℕ → ℕ → ℕ → ℕ
bit_at bytes len i = cond (ltb i len) (get_or bytes (i / 8) 0 / 2 ^ (7 - i % 8) % 2) 0

-- The number that w bits from i on make, the first bit highest: a digit of w bits.
unfoldable pub bits_at : List ℕ → ℕ → ℕ → ℕ → ℕ
bits_at bytes len i zero = 0
bits_at bytes len i (suc w) = bits_at bytes len i w * 2 + bit_at bytes len (i + w)

-- Byte k of an image.
abbrev pub byte_at : List ℕ → ℕ → ℕ → ℕ
byte_at bytes len k = bits_at bytes len (k * 8) 8
