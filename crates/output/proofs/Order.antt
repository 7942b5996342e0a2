-- Two numbers compared: one is below the other, or not; and so are as many parts of one width.
-- Assumes nothing.
use mathlib.Core.Path.{◌≡◌, refl}
use mathlib.Core.Bool.{Bool, true, false}
use Prim.Native.Nat.{ℕ, ◌+◌, ◌*◌, ◌≤◌, ◌<◌}
use native.Mathlib.Nat.{suc-mul, mul-le-mul_right}
use lib.Dec.{ltb}
use borrow.Author.Tests.{ltb-true, ltb-false}

pub by_order {ℓ} : {P : Type ℓ} (a b : ℕ) → (a < b → P) → (b ≤ a → P) → P
by_order {P = P} a b f g = go (ltb a b) refl
  where
    go : (t : Bool) → ltb a b ≡ t → P
    go true e = f (ltb-true a b e)
    go false e = g (ltb-false a b e)

-- One part more is within a number of parts that is larger.
pub stride : (k n w : ℕ) → k < n → k * w + w ≤ n * w
stride k n w h = rw (← suc-mul k w) (mul-le-mul_right w h)
