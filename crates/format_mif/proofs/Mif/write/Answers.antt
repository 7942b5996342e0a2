-- `format_mif::Mif::write` meets its contract: one writer after another.
-- Assumes nothing.
use Rattle.output.proofs.Writes.{writes_then}
use Rattle.format_mif.specs.Mif.{mif_text}
use Rattle.format_mif.proofs.Mif.write.Goals as goal

pub returns : goal.returns
unfolding mif_text
returns c =
    rw (← c.args.self.all, ← c.args.self.last)
    (writes_then c.put_all-next.ensures
    (writes_then c.put_number-next.ensures
    (writes_then c.put_all-next-2.ensures
    (writes_then c.put_lines-next.ensures
    c.put_all.ensures))))
