-- Laws of digits within digits, on which reading several bits at once rests: a digit is cut out of any longer one by a division
-- and a remainder, and a whole byte of the image is itself.
-- Assumes nothing.
use mathlib.Core.Path.{◌≡◌, refl, ap, sym, ◌∙◌}
use mathlib.Core.List.{List}
use Prim.Native.Nat.{ℕ, zero, suc, ◌+◌, ◌-◌, ◌*◌, ◌/◌, ◌%◌, ◌^◌, ◌<◌, ◌≤◌}
use native.Mathlib.Omega.{arith}
use native.Mathlib.Nat.{one-mul, mod-eq_of_lt, pow-suc, pow-zero, mul-one, add-zero, add-suc, add_assoc, mul_assoc, div-one}
use lib.ListN.{length, get_or}
use lib.Pow.{high, low, shr-shr, pow_mono}
use borrow.Author.Tests.{lt-ltb}
use Rattle.bitvec.specs.Bits.{bit_at, bits_at}
use Rattle.bitvec.proofs.Bits.{bits_small, bits_same}

-- A digit is its first v bits and then the other w.
pub bits_split : (bytes : List ℕ) (len i v w : ℕ) → bits_at bytes len i (v + w) ≡ bits_at bytes len i v * 2 ^ w + bits_at bytes len (i + v) w
unfolding bits_at
bits_split bytes len i v zero = rw (add-zero v, pow-zero 2, mul-one, add-zero)
bits_split bytes len i v (suc w) =
    rw (add-suc v w, bits_split bytes len i v w, pow-suc, add_assoc i v w) (omega (arith, mul_assoc (bits_at bytes len i v) (2 ^ w) 2))

-- The w bits behind the first s of a digit, with r more behind them.
pub bits_within : (bytes : List ℕ) (len i s w r : ℕ) → bits_at bytes len (i + s) w ≡ bits_at bytes len i (s + w + r) / 2 ^ r % 2 ^ w
bits_within bytes len i s w r =
    sym
    (ap (λ (x : ℕ). x / 2 ^ r % 2 ^ w) (bits_split bytes len i (s + w) r)
    ∙ ap (λ (x : ℕ). x % 2 ^ w) (high (bits_at bytes len i (s + w)) r (bits_small bytes len (i + (s + w)) r))
    ∙ ap (λ (x : ℕ). x % 2 ^ w) (bits_split bytes len i s w)
    ∙ low (bits_at bytes len i s) w (bits_small bytes len (i + s) w))

-- Bit j of a whole byte.
bit_whole : (bytes : List ℕ) (len k j : ℕ) → k * 8 + 8 ≤ len → j < 8 → bit_at bytes len (k * 8 + j) ≡ get_or bytes k 0 / 2 ^ (7 - j) % 2
unfolding bit_at
bit_whole bytes len k j h l =
    let at : (k * 8 + j) / 8 ≡ k = omega arith in
    let place : (k * 8 + j) % 8 ≡ j = omega arith in
    simp (lt-ltb (k * 8 + j) len (omega arith), at, place)

-- The first j bits of a whole byte are its quotient by the power of the others.
front_whole : (bytes : List ℕ) (len k : ℕ) → k * 8 + 8 ≤ len → get_or bytes k 0 < 256 → (j r : ℕ) → j + r ≡ 8 → bits_at bytes len (k * 8) j ≡ get_or bytes k 0 / 2 ^ r
unfolding bits_at
front_whole bytes len k h l zero r e =
    let all : r ≡ 8 = omega arith in
    rw all (omega arith)
front_whole bytes len k h l (suc j) r e =
    let others : 7 - j ≡ r = omega arith in
    rw (front_whole bytes len k h l j (r + 1) (omega arith), bit_whole bytes len k j h (omega arith), others)
    (omega (arith, shr-shr (get_or bytes k 0) r 1))

-- A byte of the image within the bit length is itself.
pub byte_whole : (bytes : List ℕ) (len k : ℕ) → k * 8 + 8 ≤ len → get_or bytes k 0 < 256 → bits_at bytes len (k * 8) 8 ≡ get_or bytes k 0
byte_whole bytes len k h l = front_whole bytes len k h l 8 0 refl ∙ div-one (get_or bytes k 0)

-- The same by its offset.
pub byte_from : (bytes : List ℕ) (len i : ℕ) → i % 8 ≡ 0 → i + 8 ≤ len → get_or bytes (i / 8) 0 < 256 → bits_at bytes len i 8 ≡ get_or bytes (i / 8) 0
byte_from bytes len i a h l =
    let place : i / 8 * 8 ≡ i = omega arith in
    rw place at (byte_whole bytes len (i / 8) (omega arith) l)

-- Whole bytes of the image and one more.
pub next_whole : (bytes : List ℕ) (len k m : ℕ) → (k + m) * 8 + 8 ≤ len → get_or bytes (k + m) 0 < 256
    → bits_at bytes len (k * 8) (m * 8 + 8) ≡ bits_at bytes len (k * 8) (m * 8) * 256 + get_or bytes (k + m) 0
next_whole bytes len k m h l =
    let start : k * 8 + m * 8 ≡ (k + m) * 8 = omega arith in
    bits_split bytes len (k * 8) (m * 8) 8 ∙ rw (start, byte_whole bytes len (k + m) h l)

-- Two of them.
pub pair_whole : (bytes : List ℕ) (len k : ℕ) → k * 8 + 16 ≤ len → get_or bytes k 0 < 256 → get_or bytes (k + 1) 0 < 256
    → bits_at bytes len (k * 8) 16 ≡ get_or bytes k 0 * 256 + get_or bytes (k + 1) 0
pair_whole bytes len k h l m = next_whole bytes len k 1 (omega arith) m ∙ rw (byte_whole bytes len k (omega arith) l)

-- Bits within both of two bit lengths are the same under either.
bits_inside : (bytes : List ℕ) (len len₂ i w : ℕ) → i + w ≤ len → i + w ≤ len₂ → bits_at bytes len i w ≡ bits_at bytes len₂ i w
unfolding bit_at
bits_inside bytes len len₂ i w h l =
    (bits_same bytes len bytes len₂ i w).1 (λ k m. simp (lt-ltb (i + k) len (omega arith), lt-ltb (i + k) len₂ (omega arith)))

-- A digit is cut out of whole bytes of the image, of which only the digit need be within the bit length.
pub bits_cut : (bytes : List ℕ) (len len₂ i s w r : ℕ) → i + s + w ≤ len → i + s + w ≤ len₂
    → bits_at bytes len (i + s) w ≡ bits_at bytes len₂ i (s + w + r) / 2 ^ r % 2 ^ w
bits_cut bytes len len₂ i s w r h l = bits_inside bytes len len₂ (i + s) w h l ∙ bits_within bytes len₂ i s w r

-- The base of digits of at most eight bits, as a shift computes it.
shifted_base : (w : ℕ) → w ≤ 8 → 1 * 2 ^ w % 2 ^ 32 ≡ 2 ^ w
shifted_base w h = rw one-mul (mod-eq_of_lt (omega (arith, pow_mono h)))

-- A digit behind the first bits of a byte is cut out of it and the byte behind.
pub bits_across : (bytes : List ℕ) (len k s w : ℕ) → k * 8 + s + w ≤ len → k + 1 < length bytes → s ≤ 8 → w ≤ 8 → get_or bytes k 0 < 256 → get_or bytes (k + 1) 0 < 256
    → (get_or bytes k 0 * 256 + get_or bytes (k + 1) 0) / 2 ^ (16 - (s + w)) % (1 * 2 ^ w % 2 ^ 32) ≡ bits_at bytes len (k * 8 + s) w
bits_across bytes len k s w inside there few most h l =
    let all : s + w + (16 - (s + w)) ≡ 16 = omega arith in
    let cut = bits_cut bytes len (8 * length bytes) (k * 8) s w (16 - (s + w)) inside (omega arith) in
    rw (shifted_base w most) (sym (rw (all, pair_whole bytes (8 * length bytes) k (omega arith) h l) at cut))
