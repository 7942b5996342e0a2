-- `digits::put_hex_line` meets its contract: the short digit and the run of whole ones, one after the other.
-- Assumes nothing.
use Prim.Native.Nat.{◌%◌}
use native.Mathlib.Omega.{arith}
use Rattle.output.proofs.Writes.{writes_then}
use Rattle.digits.specs.Run.{hex_line}
use Rattle.digits.proofs.Run.{short_length}
use Rattle.digits.proofs.put_hex_line.Goals as goal

pub put_run-requires : goal.put_run-requires
put_run-requires c =
    let a = c.args in
    let wrote = c.put_short-next.ensures.next in
    (omega (arith, c.plus.ensures), omega (arith, short_length a.image.bytes.now a.image.len (a.count % 4) a.from.0))

pub returns : goal.returns
unfolding hex_line
returns c =
    writes_then c.put_short-next.ensures (rw c.plus.ensures at c.put_run.ensures)
