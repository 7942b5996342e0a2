use mathlib.Core.Path.{◌≡◌}
use Prim.Native.Nat.{◌+◌}
use lib.ListN.{length}
use Rattle.output.specs.Writes.{Writes}
use Rattle.format_dump.specs.Dump.{char_column}
use Rattle.format_dump.proofs.line.DumpLine.put_char_column.Given as goal

abbrev pub invariant-loop-j : goal.invariant-loop-j
invariant-loop-j l = (l.next ≡ l.at + l.j) × Writes (char_column l.self.image.bytes.now l.self.image.len l.self.first l.j) l.initial.out l.at l.out l.next × (length l.out ≡ length l.initial.out)
