-- `listing::contents::contents_length` meets its contract: the digits and the spaces between groups.
-- Assumes nothing.
use mathlib.Core.Path.{◌∙◌}
use Prim.Native.Nat.{◌≤◌}
use native.Mathlib.Nat.{div-le_self}
use native.Mathlib.Omega.{arith}
use Rattle.bitvec.proofs.Size.{ceil_most}
use Rattle.listing.proofs.Digits.{contents_length}
use Rattle.listing.proofs.contents.contents_length.Goals as goal

pub overflow_add-result : goal.overflow_add-result
overflow_add-result c =
    let o = c.args.options in
    let count : c.parts-count.result ≤ c.args.size = omega (arith, c.parts-count.ensures, ceil_most c.args.size o.width.bits o.some) in
    record { fits = omega (arith, c.saturating_sub.ensures, div-le_self c.saturating_sub.result o.given.digits_per_group) }

pub returns : goal.returns
returns c =
    let o = c.args.options in
    let count : c.parts-count.result ≤ c.args.size = omega (arith, c.parts-count.ensures, ceil_most c.args.size o.width.bits o.some) in (
      λ bytes len offset. contents_length o bytes len offset c.args.size c.parts-count.result c.parts-count.ensures ∙ rw c.saturating_sub.ensures,
      omega (arith, c.saturating_sub.ensures, div-le_self c.saturating_sub.result o.given.digits_per_group),
    )
