-- `format_dump::line::DumpLine::put_line` meets its contract: one writer after another, each with room for what is left of the line.
-- Assumes nothing.
use Rattle.output.proofs.Writes.{writes_then}
use Rattle.format_dump.specs.Dump.{dump_line}
use Rattle.format_dump.proofs.line.DumpLine.put_line.Goals as goal

pub returns : goal.returns
unfolding dump_line
returns c =
    writes_then c.put-next.ensures
    (writes_then c.put_column-next.ensures
    (writes_then c.put_all-next.ensures
    (writes_then c.put_digit_column-next.ensures
    (writes_then c.put_all-next-2.ensures
    (writes_then c.put_char_column-next.ensures
    c.put_all.ensures)))))
