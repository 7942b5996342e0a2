-- `format_logisim::breaks` meets its contract: after k turns the newlines behind k chunks are counted.
-- Assumes nothing.
use mathlib.Core.Path.{◌≡◌, sym}
use mathlib.Core.Bool.{cond}
use mir.Val.{bool_byte}
use Prim.Native.Nat.{◌+◌, ◌*◌, ◌/◌, ◌%◌}
use native.Mathlib.Omega.{arith}
use lib.Dec.{eqb}
use borrow.Author.Rules.{rules}
use Rattle.format_logisim.proofs.Lengths.{as_number, one_most, breaks_none, breaks_next}
use Rattle.format_logisim.proofs.breaks.Goals as goal

pub loop-k-init : goal.loop-k-init
loop-k-init c = (sym (breaks_none c.args.width), search rules)

pub loop-k-preserved : goal.loop-k-preserved
loop-k-preserved c =
    let l = c.loop-k in
    let ends = eqb ((l.k * c.args.width + c.args.width) / 8 % 16) 0 in
    let one : bool_byte c.ends_line.result ≡ cond ends 1 0 = rw c.ends_line.ensures (as_number ends) in
    (omega (arith, breaks_next c.args.width l.k, one, l.invariant.0), omega (arith, one, one_most ends, l.invariant.1))
