-- `format_mif::Mif::put_line` meets its contract: one writer after another.
-- Assumes nothing.
use Prim.Native.Nat.{◌-◌}
use native.Mathlib.Omega.{arith}
use Rattle.output.proofs.Writes.{writes_then, writes_length}
use Rattle.numbers.proofs.Digits.{count_rises}
use Rattle.format_mif.specs.Mif.{mif_line}
use Rattle.format_mif.proofs.Lengths.{mif_line_length}
use Rattle.format_mif.proofs.Mif.put_line.Goals as goal

pub put_column-next-requires : goal.put_column-next-requires
put_column-next-requires c =
    let m = c.args.self in
    let fits = count_rises 16 (omega arith) c.args.k (m.count - 1) (omega arith) in
    let length = mif_line_length m.good.image.bytes.now m.good.image.len m.width c.args.k in
    (omega (arith, fits, m.last), omega (arith, length, c.requires.room, c.put-next.ensures.next, writes_length c.put-next.ensures))

pub returns : goal.returns
unfolding mif_line
returns c =
    writes_then c.put-next.ensures
    (writes_then c.put_column-next.ensures
    (writes_then c.put_all-next.ensures
    (writes_then (rw c.read_byte-byte.ensures at c.put_byte-next.ensures)
    c.put_all.ensures)))
