use mathlib.Core.Path.{◌≡◌}
use Prim.Native.Nat.{◌≤◌}
use Rattle.format_logisim.specs.InnerBreaks.{breaks}
use Rattle.format_logisim.proofs.breaks.Given as goal

abbrev pub invariant-loop-k : goal.invariant-loop-k
invariant-loop-k l = (l.total ≡ breaks l.width l.k) × (l.total ≤ l.k)
