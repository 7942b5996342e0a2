use mathlib.Core.Path.{◌≡◌}
use lib.ListN.{length}
use Rattle.output.specs.Pieces.{joined}
use Rattle.output.specs.Writes.{Writes}
use Rattle.digits.specs.Bytes.{digit_bits}
use Rattle.format_dump.proofs.Lengths.{gap, line_byte}
use Rattle.format_dump.proofs.line.DumpLine.put_digit_column.Given as goal

abbrev pub invariant-loop-j : goal.invariant-loop-j
invariant-loop-j l = Writes (joined gap (line_byte l.self.image.bytes.now l.self.image.len (digit_bits l.self.kind) l.self.first) l.j) l.initial.out l.at l.out l.next × (length l.out ≡ length l.initial.out)
