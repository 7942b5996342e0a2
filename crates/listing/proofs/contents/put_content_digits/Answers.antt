-- `listing::contents::put_content_digits` meets its contract: after j turns j digits are written.
-- Assumes nothing.
use mathlib.Core.Path.{◌≡◌, refl, sym}
use mathlib.Core.List.{[], ◌∷◌}
use Prim.Native.Nat.{ℕ, ◌+◌, ◌*◌, ◌≤◌, ◌<◌, ◌^◌}
use native.Mathlib.Nat.{mul-le-mul, add-zero}
use native.Mathlib.Omega.{arith}
use lib.ListN.{length, length-append}
use Rattle.output.specs.Pieces.{leading}
use Rattle.output.proofs.Pieces.{pieces_none, pieces_next, pieces_room}
use Rattle.output.proofs.Writes.{writes_nothing, writes_then, writes_length}
use Rattle.listing.specs.declared.ListingOptions.{ListingOptions}
use Rattle.bitvec.specs.declared.Image.{Image}
use Rattle.listing.specs.Listing.{content_digit}
use Rattle.listing.specs.InnerLine.{gap, spaced_digit, digits_from}
use Rattle.listing.proofs.Digits.{turn_next, turn_anew}
use Rattle.listing.proofs.contents.put_content_digits.Goals.{then-turn-group, else-turn-group}
use Rattle.listing.proofs.contents.put_content_digits.Goals as goal

-- the bits before a digit are few
near : (o : ListingOptions) (k : ℕ) → k ≤ 2 ^ 32 → k * o.width.bits ≤ 2 ^ 32 * 5
near o k h = mul-le-mul {n₁ = k} {m₁ = o.width.bits} {n₂ = 2 ^ 32} {m₂ = 5} h o.width.few

-- a digit has room, with what stands before it, where all have
room : (o : ListingOptions) (image : Image) (i k n j : ℕ) → j < n
    → length (digits_from o image i k j) + length (leading (gap o.given.digits_per_group) (k + j)) + 1 ≤ length (digits_from o image i k n)
room o image i k n j h =
    let digit = content_digit image.bytes.now image.len o.width.bits (i + (k + j) * o.width.bits) in
    omega (arith, pieces_room (λ m. spaced_digit o image i (k + m)) j n h, length-append (leading (gap o.given.digits_per_group) (k + j)) (digit ∷ []))

pub loop-j-init : goal.loop-j-init
loop-j-init c = (rw add-zero (sym c.requires.group), rw pieces_none (writes_nothing _ _), refl)

pub put_gap-next-requires : goal.put_gap-next-requires
put_gap-next-requires c =
    let a = c.args in
    let l = c.loop-j in
    (l.invariant.0, omega (arith, room a.options a.image a.from.0 a.first a.count l.j c.loop-j-test.true, c.requires.room, l.invariant.1.next, l.invariant.2))

pub put_content_digit-next-requires : goal.put_content_digit-next-requires
put_content_digit-next-requires c =
    let a = c.args in
    let l = c.loop-j in
    let o = a.options in (
      omega (arith, c.plus.ensures, c.requires.small, near o (a.first + l.j) (omega (arith, c.requires.small, c.loop-j-test.true)), o.width.few),
      omega (arith, room o a.image a.from.0 a.first a.count l.j c.loop-j-test.true, c.requires.room, l.invariant.1.next, l.invariant.2, c.put_gap-next.ensures.next, writes_length c.put_gap-next.ensures),
    )

pub loop-j-preserved : goal.loop-j-preserved
loop-j-preserved c =
    let l = c.loop-j in
    let o = c.args.options in
    let next : c.args.first + (l.j + 1) ≡ c.args.first + l.j + 1 = omega arith in (
      elim c.if-turn-group.branch [
        | then-turn-group w ↦ rw (w.turn-is, next) (turn_anew o.given.digits_per_group (c.args.first + l.j) l.turn l.invariant.0 w.if-turn-group.true)
        | else-turn-group w ↦ rw (w.turn-is, next) (turn_next o.given.digits_per_group (c.args.first + l.j) l.turn l.invariant.0 o.group.0 w.if-turn-group.false)
      ],
      rw pieces_next (writes_then l.invariant.1 (writes_then c.put_gap-next.ensures (rw c.plus.ensures at c.put_content_digit-next.ensures))),
      omega (arith, l.invariant.2, writes_length c.put_gap-next.ensures, writes_length c.put_content_digit-next.ensures),
    )
