use mathlib.Core.Path.{◌≡◌}
use mathlib.Core.List.{◌++◌}
use Prim.Native.Nat.{◌≤◌}
use lib.ListN.{length}
use Rattle.bitvec.specs.Bits.{byte_at}
use Rattle.bitvec.specs.Size.{ceil_div}
use Rattle.output.specs.Pieces.{joined, every}
use Rattle.output.specs.Writes.{Writes}
use Rattle.format_bytes.specs.Bytes.{byte_in}
use Rattle.format_bytes.specs.InnerRadix.{radix_number}
use Rattle.format_bytes.proofs.byte_list.put_list.Given as goal

abbrev pub invariant-loop-k : goal.invariant-loop-k
invariant-loop-k g l = (l.k ≤ ceil_div l.image.len 8)
    × Writes (joined (λ j. l.list.separator.now ++ every 16 j (g.S.LineStart.line_start l.start j)) (λ j. byte_in (radix_number l.list.radix) (byte_at l.image.bytes.now l.image.len j)) l.k) l.initial.out l.at l.out l.next
    × (length l.out ≡ length l.initial.out)
