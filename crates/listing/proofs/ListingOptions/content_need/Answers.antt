-- `listing::ListingOptions::content_need` meets its contract: the three cases of the width that is asked for.
-- Assumes nothing.
use mathlib.Core.Path.{◌≡◌, sym, ap, ◌∙◌}
use native.Mathlib.Nat.{div-le_self}
use native.Mathlib.Omega.{arith}
use Rattle.bitvec.specs.Size.{ceil_div}
use Rattle.bitvec.proofs.Size.{ceil_most}
use Rattle.listing.specs.Listing.{content_digits}
use Rattle.listing.proofs.Columns.{need_few, need_many, need_own}
use Rattle.listing.proofs.ListingOptions.content_need.Goals.{then-wide-lt2-via-then-wide-lt2, then-wide-lt2-via-else-wide-lt2+then-group-wide}
use Rattle.listing.proofs.ListingOptions.content_need.Goals as goal

pub overflow_add-wide : goal.overflow_add-wide
overflow_add-wide c =
    let o = c.args.self in
    omega (arith, c.parts-digits.ensures, ceil_most c.args.size o.width.bits o.some, div-le_self c.parts-digits.result o.given.digits_per_group)

pub returns-then-wide-lt2 : goal.returns-then-wide-lt2
unfolding content_digits
returns-then-wide-lt2 c =
    let counted : c.parts-digits.result ≡ content_digits c.args.self.given c.args.size = c.parts-digits.ensures ∙ ap (ceil_div c.args.size) c.args.self.bits in
    elim c.then-wide-lt2.branch [
      | then-wide-lt2-via-then-wide-lt2 w ↦ (sym (need_few _ _ (rw (← counted) w.if-wide-lt2.true)), omega arith)
      | then-wide-lt2-via-else-wide-lt2+then-group-wide w ↦
          (sym (need_many _ _ (rw (← counted) (omega (arith, w.if-wide-lt2.false))) (rw (← counted) w.if-group-wide.true)), omega arith)
    ]

pub returns : goal.returns
unfolding content_digits
returns c =
    let counted : c.parts-digits.result ≡ content_digits c.args.self.given c.args.size = c.parts-digits.ensures ∙ ap (ceil_div c.args.size) c.args.self.bits in
    let own = need_own c.args.self.given c.args.size (rw (← counted) (omega (arith, c.if-wide-lt2.false))) (rw (← counted) (omega (arith, c.if-group-wide.false))) in
    (rw (own, ← counted), omega (arith, c.args.self.group))
