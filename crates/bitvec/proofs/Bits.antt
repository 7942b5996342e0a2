-- Laws of bits and digits, each once for every width: bounds, one bit more, and equal digits where there are equal bits.
-- Assumes nothing.
use mathlib.Core.Path.{◌≡◌, refl}
use mathlib.Core.Bool.{Bool, true, false, cond}
use mathlib.Core.List.{List}
use mathlib.Core.Logic.{◌↔◌}
use Prim.Native.Nat.{ℕ, zero, suc, ◌+◌, ◌-◌, ◌*◌, ◌/◌, ◌%◌, ◌^◌, ◌<◌, ◌≤◌}
use native.Mathlib.Omega.{arith}
use native.Mathlib.Numerals.{add-one}
use native.Mathlib.Nat.{pow-suc, lt_of_lt_of_le, zero-div}
use lib.Dec.{ltb}
use lib.ListN.{length, get_or, get_or-eq_default}
use lib.Pow.{pow_mono}
use borrow.Author.Count.{below_none, below_more}
use borrow.Author.Tests.{le-ltb, lt-ltb}
use Rattle.bitvec.specs.Bits.{bit_at, bits_at}

-- A bit at or past the bit length is zero.
pub bit_past : (bytes : List ℕ) (len i : ℕ) → len ≤ i → bit_at bytes len i ≡ 0
unfolding bit_at
bit_past bytes len i h = simp (le-ltb i len h)

-- So is one past the bytes.
pub bit_beyond : (bytes : List ℕ) (len i : ℕ) → length bytes ≤ i / 8 → bit_at bytes len i ≡ 0
unfolding bit_at
bit_beyond bytes len i h = rw (get_or-eq_default bytes 0 h, zero-div) (cond_same (ltb i len))
  where
    cond_same : (t : Bool) → cond t (0 % 2) 0 ≡ 0
    cond_same true = refl
    cond_same false = refl

-- One within the bit length is cut out of its byte.
pub bit_inside : (bytes : List ℕ) (len i : ℕ) → i < len → bit_at bytes len i ≡ get_or bytes (i / 8) 0 / 2 ^ (7 - i % 8) % 2
unfolding bit_at
bit_inside bytes len i h = simp (lt-ltb i len h)

-- A bit is 0 or 1.
pub bit_small : (bytes : List ℕ) (len i : ℕ) → bit_at bytes len i < 2
unfolding bit_at
bit_small bytes len i =
    elim (ltb i len) as (λ (b : Bool). cond b (get_or bytes (i / 8) 0 / 2 ^ (7 - i % 8) % 2) 0 < 2) [ true ↦ omega arith | false ↦ omega arith ]

-- One bit more.
pub bits_next : (bytes : List ℕ) (len i w : ℕ) → bits_at bytes len i (w + 1) ≡ bits_at bytes len i w * 2 + bit_at bytes len (i + w)
unfolding bits_at
bits_next bytes len i w = rw add-one

-- A digit of w bits is below 2 ^ w.
pub bits_small : (bytes : List ℕ) (len i w : ℕ) → bits_at bytes len i w < 2 ^ w
unfolding bits_at
bits_small bytes len i zero = omega arith
bits_small bytes len i (suc w) = rw pow-suc (omega (arith, bits_small bytes len i w, bit_small bytes len (i + w)))

-- The same below any larger power.
pub bits_below : (bytes : List ℕ) (len i w m : ℕ) → w ≤ m → bits_at bytes len i w < 2 ^ m
bits_below bytes len i w m h = lt_of_lt_of_le (bits_small bytes len i w) (pow_mono h)

-- One of fewer than eight bits is below 128.
pub bits_seven : (bytes : List ℕ) (len i w : ℕ) → w < 8 → bits_at bytes len i w < 128
bits_seven bytes len i w h = bits_below bytes len i w 7 (omega arith)

-- A digit of no bits.
pub bits_none : (bytes : List ℕ) (len i : ℕ) → bits_at bytes len i 0 ≡ 0
unfolding bits_at
bits_none bytes len i = refl

-- A digit of one bit is the bit.
pub bits_one : (bytes : List ℕ) (len i : ℕ) → bits_at bytes len i 1 ≡ bit_at bytes len (i + 0)
unfolding bits_at
bits_one bytes len i = omega arith

-- Two images have the same bits from i on, w of them.
abbrev pub SameBits : List ℕ → ℕ → List ℕ → ℕ → ℕ → ℕ → Type 0
SameBits b₁ n₁ b₂ n₂ i w = (k : ℕ) → k < w → bit_at b₁ n₁ (i + k) ≡ bit_at b₂ n₂ (i + k)

same_digits : (b₁ : List ℕ) (n₁ : ℕ) (b₂ : List ℕ) (n₂ i w : ℕ) → SameBits b₁ n₁ b₂ n₂ i w → bits_at b₁ n₁ i w ≡ bits_at b₂ n₂ i w
unfolding bits_at
same_digits b₁ n₁ b₂ n₂ i zero h = refl
same_digits b₁ n₁ b₂ n₂ i (suc w) h =
    rw (same_digits b₁ n₁ b₂ n₂ i w (λ k l. h k (omega arith)), h w (omega arith))

same_bits : (b₁ : List ℕ) (n₁ : ℕ) (b₂ : List ℕ) (n₂ i w : ℕ) → bits_at b₁ n₁ i w ≡ bits_at b₂ n₂ i w → SameBits b₁ n₁ b₂ n₂ i w
unfolding bits_at
same_bits b₁ n₁ b₂ n₂ i zero e = below_none _
same_bits b₁ n₁ b₂ n₂ i (suc w) e =
    let u = bit_small b₁ n₁ (i + w) in
    let v = bit_small b₂ n₂ (i + w) in
    rw (← add-one w) (below_more _ w (same_bits b₁ n₁ b₂ n₂ i w (omega arith)) (omega arith))

-- Two images have the same digit exactly where they have the same bits.
pub bits_same : (b₁ : List ℕ) (n₁ : ℕ) (b₂ : List ℕ) (n₂ i w : ℕ) → (bits_at b₁ n₁ i w ≡ bits_at b₂ n₂ i w) ↔ SameBits b₁ n₁ b₂ n₂ i w
bits_same b₁ n₁ b₂ n₂ i w = (same_bits b₁ n₁ b₂ n₂ i w, same_digits b₁ n₁ b₂ n₂ i w)
