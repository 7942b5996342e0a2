use mathlib.Core.Path.{◌≡◌}
use Prim.Native.Nat.{◌≤◌}
use lib.ListN.{length}
use Rattle.output.specs.Pieces.{pieces}
use Rattle.output.specs.Writes.{Writes}
use Rattle.format_mif.specs.Mif.{mif_line}
use Rattle.format_mif.proofs.Mif.put_lines.Given as goal

abbrev pub invariant-loop-k : goal.invariant-loop-k
invariant-loop-k l = (l.k ≤ l.self.count)
    × Writes (pieces (mif_line l.self.good.image.bytes.now l.self.good.image.len l.self.width) l.k) l.initial.out l.at l.out l.next
    × (length l.out ≡ length l.initial.out)
