-- Laws of an image's size and of division rounded up.
-- Assumes nothing.
use mathlib.Core.Path.{◌≡◌, refl}
use mathlib.Core.Bool.{Bool, true, false}
use mathlib.Core.List.{List}
use mathlib.Mathlib.Data.Bool.Basic.{or-eq-false-eq-eq-false-and-eq-false}
use Prim.Native.Nat.{ℕ, ◌+◌, ◌-◌, ◌*◌, ◌/◌, ◌%◌, ◌<◌, ◌≤◌, min}
use native.Mathlib.Omega.{arith}
use native.Mathlib.Nat.{div-add-mod', mod-lt, div-mul-le_self, le-div_iff_mul-le, div-lt_iff_lt-mul, div-eq_of_lt-le, mul-le-mul_left, suc-mul}
use lib.Dec.{ltb}
use lib.ListN.{length}
use borrow.Author.Tests.{ltb-true, ltb-false, lt-ltb, le-ltb}
use Rattle.bitvec.specs.Size.{max_bits, bad_size, ceil_div}

-- An image that passes the size check is within the largest image and within its bytes.
pub size_good : (bytes : List ℕ) (len : ℕ) → bad_size bytes len ≡ false → (len ≤ max_bits) × (len ≤ 8 * length bytes)
unfolding bad_size
size_good bytes len e =
    let f = (or-eq-false-eq-eq-false-and-eq-false (ltb max_bits len) (ltb (8 * length bytes) len)).0 e in
    (ltb-false _ _ f.0, ltb-false _ _ f.1)

-- The parts cover the whole.
pub ceil_covers : (n d : ℕ) → 0 < d → n ≤ ceil_div n d * d
unfolding ceil_div
ceil_covers n d h = omega (arith, div-add-mod' (n + (d - 1)) d, mod-lt (n + (d - 1)) h)

-- They reach past its end by less than one part.
pub ceil_reach : (n d : ℕ) → ceil_div n d * d ≤ n + (d - 1)
unfolding ceil_div
ceil_reach n d = div-mul-le_self (n + (d - 1)) d

-- All but the last part lie before the end.
pub ceil_inside : (n d k : ℕ) → 0 < d → k < ceil_div n d → k * d < n
unfolding ceil_div
ceil_inside n d k h l = omega (arith, (le-div_iff_mul-le h).0 l, suc-mul k d)

-- There are no more parts than the whole has units.
pub ceil_most : (n d : ℕ) → 0 < d → ceil_div n d ≤ n
unfolding ceil_div
ceil_most n d h = omega (arith, (div-lt_iff_lt-mul {x = n + (d - 1)} {y = n + 1} h).1 (omega (arith, mul-le-mul_left n h, suc-mul n d)))

-- A whole number of parts.
pub ceil_whole : (n d : ℕ) → 0 < d → n % d ≡ 0 → ceil_div n d ≡ n / d
unfolding ceil_div
ceil_whole n d h e = div-eq_of_lt-le d (omega (arith, div-add-mod' n d)) (omega (arith, div-add-mod' n d, suc-mul (n / d) d))

-- A short last part is one more.
pub ceil_short : (n d : ℕ) → 0 < d → 0 < n % d → ceil_div n d ≡ n / d + 1
unfolding ceil_div
ceil_short n d h e =
    let q = div-add-mod' n d in
    let r = mod-lt n h in
    let one_more = suc-mul (n / d) d in
    let two-more = suc-mul (n / d + 1) d in
    div-eq_of_lt-le d (omega arith) (omega arith)

-- The library's quotient, rounded up, is this one.
pub ceil_rounded : (n d : ℕ) → 0 < d → n / d + min 1 (n % d) ≡ ceil_div n d
ceil_rounded n d h = go (ltb 0 (n % d)) refl
  where
    go : (t : Bool) → ltb 0 (n % d) ≡ t → n / d + min 1 (n % d) ≡ ceil_div n d
    go true e = omega (arith, ceil_short n d h (ltb-true 0 (n % d) e), ltb-true 0 (n % d) e)
    go false e = omega (arith, ceil_whole n d h (omega (arith, ltb-false 0 (n % d) e)), ltb-false 0 (n % d) e)

-- Fewer bytes than the bits fill, rounded up, are fewer bits.
pub few_bytes : (n len : ℕ) → ltb n (len / 8 + min 1 (len % 8)) ≡ ltb (8 * n) len
few_bytes n len = go (ltb (8 * n) len) refl
  where
    go : (t : Bool) → ltb (8 * n) len ≡ t → ltb n (len / 8 + min 1 (len % 8)) ≡ t
    go true e = lt-ltb n (len / 8 + min 1 (len % 8)) (omega (arith, ltb-true (8 * n) len e))
    go false e = le-ltb n (len / 8 + min 1 (len % 8)) (omega (arith, ltb-false (8 * n) len e))
