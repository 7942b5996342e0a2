-- `span_list::some_bad` meets its contract: where nothing is found, no span so far is bad.
-- Assumes nothing.
use Rattle.std.proofs.Common.{◌≡◌, arith}
use mathlib.Mathlib.Data.Bool.Basic.{or-eq-false-eq-eq-false-and-eq-false}
use lib.ListN.{length}
use Rattle.output.proofs.Order.{by_order}
use Rattle.output.proofs.Lists.{first_all}
use Rattle.span_list.specs.Range.{fault_at}
use Rattle.span_list.proofs.some_bad.Goals as goal

pub loop-k-init : goal.loop-k-init
loop-k-init c = λ e i h. absurd (omega (arith, h))

pub loop-k-preserved : goal.loop-k-preserved
loop-k-preserved c = λ e i h.
    let both = (or-eq-false-eq-eq-false-and-eq-false c.loop-k.bad c.bad_span-bad.result).0 e in
    by_order i c.loop-k.k
    (λ l. c.loop-k.invariant both.0 i l)
    (λ l. let same : i ≡ c.loop-k.k = omega (arith, h, l) in rw (same, ← c.bad_span-bad.ensures) both.1)

pub returns : goal.returns
unfolding fault_at
returns c = λ e. first_all _ (length c.args.spans.offsets.now) (λ i h. c.loop-k.invariant e i (omega (arith, h, c.loop-k-test.false)))
