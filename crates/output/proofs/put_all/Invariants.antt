use mathlib.Core.Path.{◌≡◌}
use Prim.Native.Nat.{◌+◌}
use lib.ListN.{length, take}
use Rattle.output.specs.Writes.{Writes}
use Rattle.output.proofs.put_all.Given as goal

abbrev pub invariant-loop-byte : goal.invariant-loop-byte
invariant-loop-byte l = (l.next ≡ l.at + l.byte-index) × Writes (take l.byte-index l.s) l.initial.out l.at l.out l.next × (length l.out ≡ length l.initial.out)
