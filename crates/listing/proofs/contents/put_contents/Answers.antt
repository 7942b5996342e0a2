-- `listing::contents::put_contents` meets its contract: few digits, or groups that the image has whole and the digits behind them.
-- Assumes nothing.
use mathlib.Core.Path.{◌≡◌, ap}
use mathlib.Core.List.{◌++◌}
use Prim.Native.Nat.{ℕ, ◌-◌, ◌*◌, ◌/◌, ◌≤◌, ◌<◌, ◌^◌, min}
use native.Mathlib.Nat.{mul_assoc, mul-le-mul, mul-le-mul_right, mul-mod_left, div-mul-le_self}
use native.Mathlib.Omega.{arith}
use lib.ListN.{length, length-append}
use Rattle.bitvec.specs.Size.{ceil_div}
use Rattle.bitvec.specs.declared.Image.{Image}
use Rattle.bitvec.proofs.Size.{ceil_most}
use Rattle.output.specs.Pieces.{pieces, leading}
use Rattle.output.proofs.Writes.{writes_then, room_then}
use Rattle.listing.specs.declared.ListingOptions.{ListingOptions}
use Rattle.listing.specs.Listing.{contents}
use Rattle.listing.specs.InnerLine.{gap, digits_from}
use Rattle.listing.proofs.Digits.{group_at, contents_digits, contents_parts}
use Rattle.listing.proofs.contents.put_contents.Goals as goal

-- how many groups are cut from runs
record Cut (o : ListingOptions) (image : Image) (offset size count n : ℕ) : Type 0 where
  few : n * o.given.digits_per_group ≤ count
  short : count < 2 ^ 32
  parts : contents o.given image.bytes.now image.len offset size
      ≡ pieces (λ k. leading (gap 1) k ++ group_at o image offset k) n ++ digits_from o image offset (n * o.given.digits_per_group) (count - n * o.given.digits_per_group)

cut : (o : ListingOptions) (image : Image) (offset size from count rest n : ℕ) → size < 2 ^ 32 → from ≡ offset → count ≡ ceil_div size o.width.bits
    → rest ≡ image.len - from → n ≡ min (rest / (o.given.digits_per_group * o.width.bits)) (count / o.given.digits_per_group) → Cut o image offset size count n
cut o image offset size from count rest n s d e f h =
    let g = o.given.digits_per_group in
    let least : n ≤ count / g = omega (arith, h) in
    let inside : n ≤ (image.len - offset) / (g * o.width.bits) = rw (← d, ← f) (omega (arith, h)) in
    record {
      few = omega (arith, mul-le-mul_right g least, div-mul-le_self count g);
      short = omega (arith, s, e, ceil_most size o.width.bits o.some);
      parts = contents_parts o image offset size count n e least inside;
    }

pub put_content_digits-requires-clause-room : goal.put_content_digits-requires-clause-room
put_content_digits-requires-clause-room c =
    let a = c.args in
    rw (c.from-from.ensures, ← contents_digits a.options a.image a.offset a.size c.parts-count.result c.parts-count.ensures) c.requires

pub returns-then-count-le16 : goal.returns-then-count-le16
returns-then-count-le16 c =
    let a = c.args in
    rw (contents_digits a.options a.image a.offset a.size c.parts-count.result c.parts-count.ensures) (rw c.from-from.ensures at c.put_content_digits.ensures)

pub put_groups-next-requires-clause-small : goal.put_groups-next-requires-clause-small
put_groups-next-requires-clause-small c =
    let a = c.args in
    let o = a.options in
    let n = c.min-whole.result in
    let k = cut o a.image a.offset a.size _ _ _ n (omega arith) c.from-from.ensures c.parts-count.ensures c.saturating_sub.ensures c.min-whole.ensures in
    let bits = mul-le-mul {n₁ = n * o.given.digits_per_group} {m₁ = o.width.bits} {n₂ = 2 ^ 32} {m₂ = 5} (omega (arith, k.few, k.short)) o.width.few in
    let whole = mul-le-mul {n₁ = n} {m₁ = 1} {n₂ = n} {m₂ = o.given.digits_per_group} (omega arith) o.group.0 in
    (omega (arith, whole, k.few, k.short), omega (arith, c.from-from.ensures, bits, mul_assoc n o.given.digits_per_group o.width.bits))

pub put_groups-next-requires-clause-room : goal.put_groups-next-requires-clause-room
put_groups-next-requires-clause-room c =
    let a = c.args in
    let o = a.options in
    let n = c.min-whole.result in
    let k = cut o a.image a.offset a.size _ _ _ n (omega arith) c.from-from.ensures c.parts-count.ensures c.saturating_sub.ensures c.min-whole.ensures in
    let groups = pieces (λ k. leading (gap 1) k ++ group_at o a.image a.offset k) n in
    let rest = digits_from o a.image a.offset (n * o.given.digits_per_group) (c.parts-count.result - n * o.given.digits_per_group) in
    rw c.from-from.ensures (omega (arith, c.requires, ap length k.parts, length-append groups rest))

pub put_content_digits-requires-2-clause-group : goal.put_content_digits-requires-2-clause-group
put_content_digits-requires-2-clause-group c = mul-mod_left _ _

pub put_content_digits-requires-2-clause-small : goal.put_content_digits-requires-2-clause-small
put_content_digits-requires-2-clause-small c =
    let a = c.args in
    let k = cut a.options a.image a.offset a.size _ _ _ c.min-whole.result (omega arith) c.from-from.ensures c.parts-count.ensures c.saturating_sub.ensures c.min-whole.ensures in
    (omega (arith, c.from-from.ensures), omega (arith, k.few, k.short))

pub put_content_digits-requires-2-clause-room : goal.put_content_digits-requires-2-clause-room
put_content_digits-requires-2-clause-room c =
    let a = c.args in
    let o = a.options in
    let n = c.min-whole.result in
    let k = cut o a.image a.offset a.size _ _ _ n (omega arith) c.from-from.ensures c.parts-count.ensures c.saturating_sub.ensures c.min-whole.ensures in
    let rest = digits_from o a.image a.offset (n * o.given.digits_per_group) (c.parts-count.result - n * o.given.digits_per_group) in
    rw c.from-from.ensures (room_then rest (rw c.from-from.ensures at c.put_groups-next.ensures) (rw k.parts at c.requires))

pub returns : goal.returns
returns c =
    let a = c.args in
    let k = cut a.options a.image a.offset a.size _ _ _ c.min-whole.result (omega arith) c.from-from.ensures c.parts-count.ensures c.saturating_sub.ensures c.min-whole.ensures in
    rw k.parts (writes_then (rw c.from-from.ensures at c.put_groups-next.ensures) (rw c.from-from.ensures at c.put_content_digits-2.ensures))
