use mathlib.Core.Path.{◌≡◌}
use Prim.Native.Nat.{◌*◌}
use lib.ListN.{length}
use Rattle.output.specs.Writes.{Writes}
use Rattle.digits.specs.Bytes.{digits_per_byte, digit_bits}
use Rattle.digits.specs.Run.{run}
use Rattle.digits.proofs.put_whole_bytes.Given as goal

abbrev pub invariant-loop-byte : goal.invariant-loop-byte
invariant-loop-byte l = Writes (run l.bytes.image.bytes.now l.bytes.image.len (digit_bits l.kind) (l.bytes.first * 8) (l.byte-index * digits_per_byte l.kind)) l.initial.out l.at l.out l.next
    × (length l.out ≡ length l.initial.out)
