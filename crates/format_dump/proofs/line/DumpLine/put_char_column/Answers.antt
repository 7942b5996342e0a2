-- `format_dump::line::DumpLine::put_char_column` meets its contract: after j turns j characters are written.
-- Assumes nothing.
use mathlib.Core.Path.{refl}
use borrow.Author.Rules.{rules}
use Rattle.output.proofs.Pieces.{pieces_none, pieces_next}
use Rattle.output.proofs.Writes.{writes_nothing, writes_then}
use Rattle.format_dump.proofs.line.DumpLine.put_char_column.Goals as goal

pub loop-j-init : goal.loop-j-init
loop-j-init c = (search rules, rw pieces_none (writes_nothing _ _), refl)

pub loop-j-preserved : goal.loop-j-preserved
loop-j-preserved c = (
  search rules,
  rw pieces_next (writes_then c.loop-j.invariant.1 (rw (← c.dump_char-c.ensures) c.put-next.ensures)),
  search rules,
)
