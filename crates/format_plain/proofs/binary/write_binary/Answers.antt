-- `format_plain::binary::write_binary` meets its contract: the whole bytes, and then a last one where the image fills it in part.
-- Assumes nothing.
use mathlib.Core.Path.{refl}
use mathlib.Core.List.{[], ◌∷◌}
use Prim.Native.Nat.{◌/◌}
use native.Mathlib.Omega.{arith}
use Rattle.std.proofs.lemmas.List.{length-take-le}
use Rattle.bitvec.specs.Bits.{byte_at}
use Rattle.bitvec.specs.Size.{ceil_div}
use Rattle.bitvec.proofs.Size.{ceil_whole, ceil_short}
use Rattle.output.proofs.Pieces.{pieces_next, pieces_length}
use Rattle.output.proofs.Writes.{writes_then, writes_length}
use Rattle.format_plain.specs.Binary.{binary_text}
use Rattle.format_plain.proofs.Whole.{first_bytes}
use Rattle.format_plain.proofs.binary.write_binary.Goals as goal

pub put_lent-next-requires : goal.put_lent-next-requires
unfolding ceil_div
put_lent-next-requires c =
    let i = c.args.image.image in
    omega (arith, c.requires, length-take-le (i.len / 8) i.bytes.now (omega (arith, c.args.image.inside)))

pub returns-then-image-eq0 : goal.returns-then-image-eq0
unfolding binary_text
returns-then-image-eq0 c =
    let i = c.args.image.image in
    let wrote = rw (first_bytes i.bytes.now i.len (i.len / 8) (omega arith) (omega (arith, c.args.image.inside))) at c.put_lent-next.ensures in
    rw (ceil_whole i.len 8 (omega arith) c.if-image-eq0.true) wrote

pub put-requires : goal.put-requires
put-requires c =
    let i = c.args.image.image in
    let wrote = rw (first_bytes i.bytes.now i.len (i.len / 8) (omega arith) (omega (arith, c.args.image.inside))) at c.put_lent-next.ensures in
    let long = pieces_length (λ k. byte_at i.bytes.now i.len k ∷ []) 1 (i.len / 8) (λ k h. refl) in
    omega (arith, ceil_short i.len 8 (omega arith) (omega (arith, c.if-image-eq0.false)), c.requires, long, wrote.next, writes_length wrote)

pub returns : goal.returns
unfolding binary_text
returns c =
    let i = c.args.image.image in
    let wrote = rw (first_bytes i.bytes.now i.len (i.len / 8) (omega arith) (omega (arith, c.args.image.inside))) at c.put_lent-next.ensures in
    rw (ceil_short i.len 8 (omega arith) (omega (arith, c.if-image-eq0.false)), pieces_next, ← c.read_byte-last.ensures)
    (writes_then wrote c.put.ensures)
