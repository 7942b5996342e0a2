-- `annotated::listed::Listed::list_within` meets its contract: the places of the spans have room.
-- Assumes nothing.
use mathlib.Core.Path.{sym}
use Prim.Native.Nat.{ℕ}
use native.Mathlib.Omega.{arith}
use lib.ListN.{length-replicate}
use Rattle.ordering.specs.Order.{in_order}
use Rattle.output.proofs.Lists.{sets_front}
use Rattle.ordering.proofs.Keys.{in_order_length}
use Rattle.annotated.proofs.listed.Listed.list_within.Goals as goal

pub list_in_order-requires : goal.list_in_order-requires
list_in_order-requires g c =
    let offsets = c.args.self.spans.columns.offsets.now in
    let n = in_order_length offsets in
    rw c.order_within.ensures (sets_front _ (in_order offsets) _ (omega (arith, c.requires, n, length-replicate {A = ℕ} g.row.N 0)) (sym n))
