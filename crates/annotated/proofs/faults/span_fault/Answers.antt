-- `annotated::faults::span_fault` meets its contract: no span before place p has a fault.
-- Assumes nothing.
use mathlib.Core.Path.{◌≡◌, sym, ◌∙◌}
use native.Mathlib.Omega.{arith}
use lib.ListN.{length}
use Rattle.output.proofs.Lists.{first_at, first_all}
use Rattle.annotated.specs.Annotated.{span_fault}
use Rattle.annotated.proofs.faults.span_fault.Goals as goal

pub returns-then-faulty : goal.returns-then-faulty
unfolding span_fault
returns-then-faulty c =
    let span = c.span.ensures in
    let found = rw span.size at (c.faulty.ensures _ _ _ _ span.offset span.location) in
    (omega arith, sym (first_at _ (length c.args.spans.columns.offsets.now) c.loop-p.p (omega arith) c.loop-p.invariant (sym found ∙ c.if-faulty.true)))

pub returns : goal.returns
unfolding span_fault
returns c =
    let l = c.loop-p in
    let done : l.p ≡ length c.args.spans.columns.offsets.now = omega arith in
    first_all _ _ (rw (← done) l.invariant)
