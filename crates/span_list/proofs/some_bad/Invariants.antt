use Rattle.std.proofs.Common.{◌≡◌, false, ℕ, ◌<◌}
use lib.ListN.{get_or}
use Rattle.span_list.specs.Range.{bad_span}
use Rattle.span_list.proofs.some_bad.Given as goal

abbrev pub invariant-loop-k : goal.invariant-loop-k
invariant-loop-k l = l.bad ≡ false → (i : ℕ) → i < l.k → bad_span (get_or l.spans.offsets.now i 0) (get_or l.spans.sizes.now i 0) ≡ false
