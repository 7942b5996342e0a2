-- What it means that the options of a list are in their ranges.
-- Assumes nothing.
use mathlib.Core.Path.{◌≡◌, refl}
use mathlib.Core.Bool.{Bool, true, false, not, ◌||◌, ◌&&◌}
use mathlib.Core.List.{List}
use mathlib.Mathlib.Data.Bool.Basic.{or-eq-false-eq-eq-false-and-eq-false}
use Prim.Native.Nat.{ℕ, zero, suc, ◌≤◌, ◌<◌}
use native.Mathlib.Nat.{mul-le-mul}
use native.Mathlib.Omega.{arith}
use lib.Dec.{eqb, ltb}
use lib.ListN.{length}
use borrow.Author.Tests.{eq-eqb, eqb-true, not-false}
use Rattle.outcome.specs.Outcome.{outside, too_long}
use Rattle.outcome.proofs.Outcome.{inside, short}
use Rattle.digits.specs.Bytes.{base_bits}
use Rattle.format_list.specs.declared.FormatListOptions.{FormatListOptions}
use Rattle.format_list.specs.List.{group_bits, bad_list}

-- Of two tests, neither is true.
neither : (a b : Bool) → a || b ≡ false → (a ≡ false) × (b ≡ false)
neither a b e = (or-eq-false-eq-eq-false-and-eq-false a b).0 e

-- A second string has a place.
place_some : (g : ℕ) (s : List ℕ) → not (eqb (length s) 0) && eqb g 0 ≡ false → 0 < length s → 0 < g
place_some zero s e h = absurd (omega (arith, eqb-true (length s) 0 (not-false _ (go (not (eqb (length s) 0)) e))))
  where
    go : (t : Bool) → t && true ≡ false → t ≡ false
    go true e = e
    go false e = refl
place_some (suc g) s e h = omega arith

module _ (o : FormatListOptions) (before after between between2 : List ℕ) (e : bad_list o before after between between2 ≡ false) where
  -- The tests of `bad_list`, of which none is true.
  tests : (outside 1 64 o.digits_per_group ≡ false)
      × (not (eqb (length between2) 0) && eqb o.groups_per_group2 0 ≡ false)
      × (too_long before ≡ false)
      × (too_long after ≡ false)
      × (too_long between ≡ false)
      × (too_long between2 ≡ false)
  unfolding bad_list
  tests =
      let digits = outside 1 64 o.digits_per_group in
      let groups = ltb 65535 o.groups_per_group2 in
      let place = not (eqb (length between2) 0) && eqb o.groups_per_group2 0 in
      let last = too_long between || too_long between2 in
      let strings = too_long before || (too_long after || last) in
      let t₁ = neither (eqb (base_bits o.base) 0) (digits || (groups || (place || strings))) e in
      let t₂ = neither digits (groups || (place || strings)) t₁.1 in
      let t₃ = neither groups (place || strings) t₂.1 in
      let t₄ = neither place strings t₃.1 in
      let t₅ = neither (too_long before) (too_long after || last) t₄.1 in
      let t₆ = neither (too_long after) last t₅.1 in
      let t₇ = neither (too_long between) (too_long between2) t₆.1 in
      (t₂.0, t₄.0, t₅.0, t₆.0, t₇.0, t₇.1)

  pub digits_inside : (0 < o.digits_per_group) × (o.digits_per_group ≤ 64)
  digits_inside = let f = inside 1 64 o.digits_per_group tests.0 in (omega (arith, f.0), f.1)

  pub placed : 0 < length between2 → 0 < o.groups_per_group2
  placed = place_some o.groups_per_group2 between2 tests.1

  pub outer_short : (length before ≤ 256) × (length after ≤ 256)
  outer_short = (short before tests.2, short after tests.3)

  pub inner_short : (length between ≤ 256) × (length between2 ≤ 256)
  inner_short = (short between tests.4, short between2 tests.5)

-- What is no base is outside the range.
pub no_base : (o : FormatListOptions) (before after between between2 : List ℕ) → base_bits o.base ≡ 0 → bad_list o before after between between2 ≡ true
unfolding bad_list
no_base o before after between between2 h = simp (eq-eqb (base_bits o.base) 0 h)

-- A group has some bits.
pub group_some : (o : FormatListOptions) (w : ℕ) → w ≡ base_bits o.base → 0 < w → 0 < o.digits_per_group → 0 < group_bits o
group_some o w e p d = rw (← e) (mul-le-mul {n₁ = 1} {m₁ = 1} d p)
