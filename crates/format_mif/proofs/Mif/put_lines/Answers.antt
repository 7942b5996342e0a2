-- `format_mif::Mif::put_lines` meets its contract: after k turns k lines are written.
-- Assumes nothing.
use mathlib.Core.Path.{refl}
use native.Mathlib.Omega.{arith}
use Rattle.output.proofs.Pieces.{pieces_none, pieces_next, pieces_room}
use Rattle.output.proofs.Writes.{writes_nothing, writes_then, writes_length}
use Rattle.format_mif.specs.Mif.{mif_line}
use Rattle.format_mif.proofs.Mif.put_lines.Goals as goal

pub loop-k-init : goal.loop-k-init
loop-k-init c = (omega arith, rw pieces_none (writes_nothing _ _), refl)

pub put_line-next-requires-clause-room : goal.put_line-next-requires-clause-room
put_line-next-requires-clause-room c =
    let m = c.args.self in
    let l = c.loop-k in
    omega (arith, pieces_room (mif_line m.good.image.bytes.now m.good.image.len m.width) l.k m.count (omega arith), l.invariant.1.next, l.invariant.2, c.requires)

pub loop-k-preserved : goal.loop-k-preserved
loop-k-preserved c =
    let l = c.loop-k in
    (omega arith, rw pieces_next (writes_then l.invariant.1 c.put_line-next.ensures), omega (arith, l.invariant.2, writes_length c.put_line-next.ensures))
