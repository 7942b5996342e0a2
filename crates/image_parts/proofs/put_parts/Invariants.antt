use mathlib.Core.Path.{◌≡◌}
use Prim.Native.Nat.{◌≤◌}
use lib.ListN.{length}
use Rattle.bitvec.specs.Size.{ceil_div}
use Rattle.output.specs.Writes.{Writes}
use Rattle.image_parts.specs.InnerParts.{parts_text}
use Rattle.image_parts.proofs.put_parts.Given as goal

abbrev pub invariant-loop-i : goal.invariant-loop-i
invariant-loop-i g l = let p = l.parts in
    (l.i ≤ ceil_div p.good.image.len p.width)
    × Writes (parts_text l.kind p.good.image.bytes.now p.good.image.len p.width (g.T.PartTail.tail l.tail) l.i) l.fn.out l.at l.out l.next
    × (length l.out ≡ length l.fn.out)
