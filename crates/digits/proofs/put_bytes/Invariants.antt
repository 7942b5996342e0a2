use mathlib.Core.Path.{◌≡◌}
use Prim.Native.Nat.{◌+◌, ◌*◌, ◌≤◌}
use lib.ListN.{length}
use Rattle.output.specs.Writes.{Writes}
use Rattle.digits.specs.Bytes.{digits_per_byte}
use Rattle.digits.specs.Run.{run}
use Rattle.digits.proofs.put_bytes.Given as goal

abbrev pub invariant-loop-k : goal.invariant-loop-k
invariant-loop-k l = (l.k ≤ l.count)
    × (l.next ≡ l.at + l.k * digits_per_byte l.kind)
    × Writes (run l.digits.image.bytes.now l.digits.image.len l.digits.width.bits l.digits.from.0 (l.k * digits_per_byte l.kind)) l.fn.out l.at l.out l.next
    × (length l.out ≡ length l.fn.out)
