use mathlib.Core.Path.{◌≡◌}
use mathlib.Core.List.{List}
use Prim.Native.Nat.{ℕ, ◌*◌}
use lib.ListN.{length}
use Rattle.output.specs.Pieces.{pieces}
use Rattle.output.specs.Writes.{Writes}
use Rattle.digits.specs.Bytes.{digit_bits}
use Rattle.format_dump.specs.Dump.{dump_line}
use Rattle.format_dump.proofs.Dump.write.Given as goal

-- line k
abbrev line : List ℕ → ℕ → ℕ → ℕ → ℕ → ℕ → List ℕ
line bytes len w n address k = dump_line bytes len w n address (k * n)

abbrev pub invariant-loop-k : goal.invariant-loop-k
invariant-loop-k l = Writes (pieces (line l.self.good.image.bytes.now l.self.good.image.len (digit_bits l.self.kind) l.self.count l.self.address) l.k) l.initial.out 0 l.out l.next × (length l.out ≡ length l.initial.out)
