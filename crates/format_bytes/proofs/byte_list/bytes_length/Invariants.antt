use mathlib.Core.Path.{◌≡◌}
use Prim.Native.Nat.{◌*◌, ◌≤◌}
use lib.ListN.{length}
use Rattle.bitvec.specs.Bits.{byte_at}
use Rattle.bitvec.specs.Size.{ceil_div}
use Rattle.output.specs.Pieces.{pieces}
use Rattle.format_bytes.specs.Bytes.{byte_in}
use Rattle.format_bytes.specs.InnerRadix.{radix_number}
use Rattle.format_bytes.proofs.byte_list.bytes_length.Given as goal

abbrev pub invariant-loop-k : goal.invariant-loop-k
invariant-loop-k l = (l.k ≤ ceil_div l.good.image.len 8)
    × (l.total ≡ length (pieces (λ j. byte_in (radix_number l.radix) (byte_at l.good.image.bytes.now l.good.image.len j)) l.k))
    × (l.total ≤ l.k * 4)
