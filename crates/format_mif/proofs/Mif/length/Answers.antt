-- `format_mif::Mif::length` meets its contract: the number of bytes, the lines, and the words around them.
-- Assumes nothing.
use mathlib.Core.Path.{sym}
use Rattle.format_mif.proofs.Lengths.{mif_length}
use Rattle.format_mif.proofs.Mif.length.Goals as goal

pub returns : goal.returns
returns c =
    let m = c.args.self in
    let whole = mif_length m.good.image.bytes.now m.good.image.len in
    sym (rw (← m.all, ← m.last, ← c.digit_count-depth.ensures) at whole)
