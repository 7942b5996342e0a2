-- `listing::column_widths` meets its contract: after p turns the widths are those of the first p spans.
-- Assumes nothing.
use native.Mathlib.Omega.{arith}
use Rattle.listing.specs.Listing.{narrowest, widths_of}
use mathlib.Core.Path.{sym, ◌∙◌}
use Rattle.listing.proofs.Columns.{widths_absent, widths_there}
use Rattle.listing.proofs.column_widths.Goals.{in-Some, in_default}
use Rattle.listing.proofs.column_widths.Goals as goal

pub loop-p-init : goal.loop-p-init
unfolding narrowest widths_of
loop-p-init c =
    (rw (c.title_length-title.ensures.0, c.args.options.addresses), omega arith, omega arith, omega (arith, c.title_length-title.ensures.1), omega (arith, c.args.options.group))

pub loop-p-preserved : goal.loop-p-preserved
loop-p-preserved c =
    let a = c.args in
    let l = c.loop-p in
    let n = l.invariant in
    elim c.match-offset_of.branch [
      | in-Some w ↦
          let r = w.wider-widths.ensures in
          rw w.widths-is (
            r.widths ∙ rw n.0 (sym (widths_there a.options.given a.spans.columns.offsets.now a.spans.columns.sizes.now a.spans.columns.addrs.now l.p _ (sym c.offset_of.ensures ∙ w.in-Some.is))),
            omega (arith, r.position, n),
            omega (arith, r.position, n),
            omega (arith, r.others, n),
            omega (arith, r.others, n),
          )
      | in_default w ↦
          rw w.widths-is (
            n.0 ∙ sym (widths_absent a.options.given a.spans.columns.offsets.now a.spans.columns.sizes.now a.spans.columns.addrs.now l.p (sym c.offset_of.ensures ∙ w.in_default.is)),
            n.1,
            n.2,
            n.3,
            n.4,
          )
    ]
