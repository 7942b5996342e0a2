-- `format_bytes::byte_list::put_before_byte` meets its contract: before any byte but the first stand the separator and perhaps the start of a line.
-- Assumes nothing.
use Prim.Native.Nat.{◌%◌}
use native.Mathlib.Omega.{arith}
use borrow.Author.Tests.{eq-eqb, ne_eqb}
use Rattle.output.specs.Pieces.{leading, every}
use Rattle.output.proofs.Writes.{writes_then}
use Rattle.format_bytes.proofs.byte_list.put_before_byte.Goals as goal

pub returns : goal.returns
unfolding leading every
returns g c =
    simp (ne_eqb _ _ c.if-k-eq0.false, eq-eqb (c.args.k % 16) 0 (omega arith)) (writes_then c.put_text-next.ensures c.put_start.ensures)
