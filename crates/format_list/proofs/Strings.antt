-- What stands between the groups of a list goes by one test, with a second string or without.
-- Assumes nothing.
use mathlib.Core.Path.{◌≡◌, refl, ap, ◌∙◌}
use mathlib.Core.Bool.{Bool, true, false, cond, not, ◌&&◌}
use mathlib.Core.List.{List, ◌++◌}
use Prim.Native.Nat.{ℕ, ◌+◌, ◌*◌, ◌%◌, ◌≤◌, ◌<◌}
use native.Mathlib.Omega.{arith}
use native.Mathlib.Nat.{zero-add}
use lib.Dec.{eqb}
use lib.ListN.{length}
use borrow.Author.Tests.{eqb-false}
use Rattle.output.specs.Pieces.{pieces, leading, joined}
use Rattle.output.proofs.Pieces.{pieces_equal}
use Rattle.output.proofs.Joined.{either_length}
use Rattle.digits.specs.Bytes.{base_bits}
use Rattle.digits.specs.Run.{run}
use Rattle.format_list.specs.declared.shape.ListOptions.{ListOptions}
use Rattle.format_list.specs.declared.shape.ListGroups.{ListGroups}
use Rattle.format_list.specs.List.{group_text, between_groups}
use Rattle.format_list.specs.InnerGroups.{every_of, between_of}

-- The second string, or the first where there is none.
abbrev pub second_of : ListOptions → List ℕ
second_of o = cond (eqb (length o.strings.between2.now) 0) o.strings.between.now o.strings.between2.now

-- Before group k.
pub between_either : (o : ListOptions) (k : ℕ) → between_of o k ≡ cond (eqb (k % every_of o) 0) (second_of o) o.strings.between.now
unfolding between_groups
between_either o k = go o.given.groups_per_group2 o.strings.between.now o.strings.between2.now (eqb (length o.strings.between2.now) 0)
  where
    same : (b : Bool) (one : List ℕ) → one ≡ cond b one one
    same true one = refl
    same false one = refl

    go : (n : ℕ) (one two : List ℕ) (t : Bool) → cond (not t && eqb (k % n) 0) two one ≡ cond (eqb (k % cond t 1 n) 0) (cond t one two) one
    go n one two true = same (eqb (k % 1) 0) one
    go n one two false = refl

-- Its length.
pub either_long : (o : ListOptions) (k : ℕ) → length (between_of o k) ≡ cond (eqb (k % every_of o) 0) (length (second_of o)) (length o.strings.between.now)
either_long o k = ap length (between_either o k) ∙ either_length (eqb (k % every_of o) 0) (second_of o) o.strings.between.now

-- A group has a turn.
pub every_some : (o : ListOptions) → 0 < every_of o
every_some o = go (eqb (length o.strings.between2.now) 0) refl
  where
    go : (t : Bool) → eqb (length o.strings.between2.now) 0 ≡ t → 0 < cond t 1 o.given.groups_per_group2
    go true e = omega arith
    go false e = o.place (omega (arith, eqb-false (length o.strings.between2.now) 0 e))

-- The string at a turn's begin is short.
pub second_short : (o : ListOptions) → length (second_of o) ≤ 256
second_short o = go (eqb (length o.strings.between2.now) 0)
  where
    go : (t : Bool) → length (cond t o.strings.between.now o.strings.between2.now) ≤ 256
    go true = o.inner.0
    go false = o.inner.1

-- The digits of group k.
abbrev pub list_group : ListGroups → ℕ → List ℕ
list_group g = group_text g.options.given g.good.image.bytes.now g.good.image.len

-- All groups.
pub groups_joined : (g : ListGroups) (n : ℕ)
    → (let o = g.options in
    pieces
    (λ k. leading (between_of o) k ++ run g.good.image.bytes.now g.good.image.len o.width.bits (0 + k * (o.given.digits_per_group * o.width.bits)) o.given.digits_per_group) n
    ≡ joined (between_of o) (list_group g) n)
unfolding joined group_text
groups_joined g n = let o = g.options.given in
    rw g.options.bits.0 (pieces_equal _ _ n (λ k h. rw (zero-add (k * (o.digits_per_group * base_bits o.base)))))
