use mathlib.Core.Path.{◌≡◌}
use lib.ListN.{length}
use mathlib.Core.List.{List, [], ◌∷◌}
use Prim.Native.Nat.{ℕ, ◌+◌, ◌*◌}
use Rattle.output.specs.Pieces.{pieces}
use Rattle.output.specs.Writes.{Writes}
use Rattle.digits.specs.Bytes.{digit_bits}
use Rattle.format_dump.specs.Dump.{dump_digit}
use Rattle.format_dump.proofs.line.DumpLine.put_dump_byte.Given as goal

-- digit j of the byte from bit i on
abbrev digit : List ℕ → ℕ → ℕ → ℕ → ℕ → List ℕ
digit bytes len w i j = dump_digit bytes len w (i + j * w) ∷ []

abbrev pub invariant-loop-j : goal.invariant-loop-j
invariant-loop-j l = (l.next ≡ l.at + l.j) × Writes (pieces (digit l.self.image.bytes.now l.self.image.len (digit_bits l.self.kind) l.from.0) l.j) l.initial.out l.at l.out l.next × (length l.out ≡ length l.initial.out)
