use mathlib.Core.Path.{◌≡◌}
use Prim.Native.Nat.{◌-◌, ◌≤◌}
use Rattle.bitvec.specs.Bits.{bits_at}
use Rattle.bitvec.proofs.Image.read_each.Given as goal

abbrev pub invariant-loop-k : goal.invariant-loop-k
invariant-loop-k l = (l.k ≤ l.width) × (l.digit ≡ bits_at l.self.bytes.now l.self.len l.offset.0 l.k)

abbrev pub decreases-loop-k : goal.decreases-loop-k
decreases-loop-k l = l.width - l.k
