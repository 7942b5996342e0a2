use mathlib.Core.Path.{◌≡◌}
use Prim.Native.Nat.{◌≤◌}
use Rattle.listing.specs.Listing.{widths_of}
use Rattle.listing.proofs.column_widths.Given as goal

abbrev pub invariant-loop-p : goal.invariant-loop-p
invariant-loop-p l = (l.widths ≡ widths_of l.options.given l.spans.columns.offsets.now l.spans.columns.sizes.now l.spans.columns.addrs.now l.p)
    × (l.widths.outp ≤ 64)
    × (l.widths.outp_bit ≤ 64)
    × (l.widths.addr ≤ 64)
    × (l.widths.content ≤ 324)
