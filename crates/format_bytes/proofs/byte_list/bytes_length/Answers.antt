-- `format_bytes::byte_list::bytes_length` meets its contract: the total is the length of the first k bytes.
-- Assumes nothing.
use mathlib.Core.Path.{refl, ap, ◌∙◌}
use mathlib.Core.List.{List}
use Prim.Native.Nat.{ℕ}
use native.Mathlib.Omega.{arith}
use lib.ListN.{length, length-append}
use Rattle.bitvec.specs.Bits.{byte_at}
use Rattle.output.specs.Pieces.{pieces}
use Rattle.output.proofs.Pieces.{pieces_none, pieces_next}
use Rattle.format_bytes.specs.Bytes.{byte_in}
use Rattle.format_bytes.specs.InnerRadix.{radix_number}
use Rattle.format_bytes.proofs.byte_list.bytes_length.Goals as goal

pub loop-k-init : goal.loop-k-init
loop-k-init c = (omega arith, rw pieces_none refl, omega arith)

pub loop-k-preserved : goal.loop-k-preserved
loop-k-preserved c =
    let a = c.args in
    let k = c.loop-k.k in
    let item : ℕ → List ℕ = λ j. byte_in (radix_number a.radix) (byte_at a.good.image.bytes.now a.good.image.len j) in
    let more = ap length (pieces_next item k) ∙ length-append (pieces item k) (item k) in
    let byte = rw c.read_byte-byte.ensures at c.byte_length-total.ensures in
    (omega arith, omega (arith, more, byte, c.loop-k.invariant.1), omega (arith, byte, c.loop-k.invariant.2))
