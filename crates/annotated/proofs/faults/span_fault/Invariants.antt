use mathlib.Core.Path.{◌≡◌}
use mathlib.Core.Bool.{false}
use Prim.Native.Nat.{ℕ, ◌<◌}
use lib.ListN.{get_or}
use Rattle.annotated.specs.Annotated.{faulty}
use Rattle.annotated.proofs.faults.span_fault.Given as goal

abbrev pub invariant-loop-p : goal.invariant-loop-p
invariant-loop-p l =
    let s = l.spans.columns in
    (k : ℕ) → k < l.p → faulty l.options l.sources.firmware.now l.sources.protocol.now (get_or s.offsets.now k 0) (get_or s.sizes.now k 0) (get_or s.files.now k 0) (get_or s.starts.now k 0) (get_or s.ends.now k 0) ≡ false
