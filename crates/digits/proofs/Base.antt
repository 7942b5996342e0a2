-- Laws of the bases: a digit has at most five bits, and those of a base make as many digits as it says.
-- Assumes nothing.
use mathlib.Core.Path.{◌≡◌, refl}
use mathlib.Core.Bool.{Bool, true, false, cond}
use Prim.Native.Nat.{ℕ, ◌^◌, ◌≤◌}
use native.Mathlib.Omega.{arith}
use lib.Dec.{eqb}
use borrow.Author.Tests.{eqb-true}
use Rattle.digits.specs.Bytes.{base_bits}

-- One base of the list: what holds of its bits and of those of the bases behind it holds of all.
one_base : (P : ℕ → Type 0) (base b bits rest : ℕ) → (base ≡ b → P bits) → P rest → P (cond (eqb base b) bits rest)
one_base P base b bits rest here there = go (eqb base b) refl
  where
    go : (t : Bool) → eqb base b ≡ t → P (cond t bits rest)
    go true e = here (eqb-true base b e)
    go false e = there

-- A base is the number of digits that its bits make.
pub base_digits : (base : ℕ) → 1 ≤ base_bits base → 2 ^ base_bits base ≡ base
unfolding base_bits
base_digits base =
    let P : ℕ → Type 0 = λ n. 1 ≤ n → 2 ^ n ≡ base in
    one_base P base 2 1 _ (λ e h. rw e)
    (one_base P base 4 2 _ (λ e h. rw e)
    (one_base P base 8 3 _ (λ e h. rw e)
    (one_base P base 16 4 _ (λ e h. rw e)
    (one_base P base 32 5 _ (λ e h. rw e)
    (λ h. absurd (omega arith))))))
