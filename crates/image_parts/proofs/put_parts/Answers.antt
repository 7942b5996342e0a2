-- `image_parts::put_parts` meets its contract: in turn i the parts before part i are written.
-- Assumes nothing.
use mathlib.Core.Path.{◌≡◌, refl}
use Prim.Native.Nat.{◌+◌, ◌*◌, ◌/◌}
use native.Mathlib.Omega.{arith}
use lib.ListN.{length-append}
use Rattle.bitvec.specs.Size.{ceil_div}
use Rattle.bitvec.proofs.Size.{ceil_inside}
use Rattle.output.proofs.Pieces.{pieces_none, pieces_next, pieces_room, pieces_most}
use Rattle.output.proofs.Writes.{writes_nothing, writes_then, writes_length, room_then}
use Rattle.digits.specs.Run.{line_text}
use Rattle.image_parts.specs.Parts.{part_bits}
use Rattle.image_parts.specs.InnerParts.{part_text}
use Rattle.image_parts.proofs.Parts.{parts_most}
use Rattle.image_parts.proofs.put_parts.Goals as goal
use Rattle.image_parts.proofs.put_parts.Goals.{in-Some, in-None}

pub put_whole_parts-requires-clause-room : goal.put_whole_parts-requires-clause-room
put_whole_parts-requires-clause-room g c =
    let p = c.args.parts in
    let i = p.good.image in
    omega (arith, pieces_most (part_text c.args.kind i.bytes.now i.len p.width (g.T.PartTail.tail c.args.tail.now)) (i.len / p.width) (ceil_div i.len p.width) (parts_most i.len p.width p.in_range.0), c.requires)

pub loop-i-init : goal.loop-i-init
loop-i-init g c =
    let p = c.args.parts in
    elim c.match-part_digits.branch [
      | in-Some w ↦ rw (w.first-is, w.out-is) (parts_most p.good.image.len p.width p.in_range.0, w.put_whole_parts.ensures, writes_length w.put_whole_parts.ensures)
      | in-None w ↦ rw (w.first-is, w.out-is) (omega arith, rw pieces_none (writes_nothing _ _), refl)
    ]

pub overflow_mul-from : goal.overflow_mul-from
overflow_mul-from g c =
    let p = c.args.parts in
    record { fits = omega (arith, ceil_inside p.good.image.len p.width c.loop-i.i p.in_range.0 (omega (arith, c.parts-i-end.ensures, c.loop-i-test.true)), p.good.few) }

pub overflow_sub-image : goal.overflow_sub-image
overflow_sub-image g c =
    let p = c.args.parts in
    omega (arith, ceil_inside p.good.image.len p.width c.loop-i.i p.in_range.0 (omega (arith, c.parts-i-end.ensures, c.loop-i-test.true)))

pub put_line-next-requires : goal.put_line-next-requires
unfolding part_text part_bits
put_line-next-requires g c =
    let a = c.args in
    let p = a.parts in
    let i = p.good.image in
    let l = c.loop-i in
    let inside = ceil_inside i.len p.width l.i p.in_range.0 (omega (arith, c.parts-i-end.ensures, c.loop-i-test.true)) in
    let tail = g.T.PartTail.tail a.tail.now in
    let room = pieces_room (part_text a.kind i.bytes.now i.len p.width tail) l.i (ceil_div i.len p.width) (omega (arith, c.parts-i-end.ensures, c.loop-i-test.true)) in
    let line = line_text a.kind i.bytes.now i.len (l.i * p.width) (part_bits i.len p.width l.i) in
    (omega (arith, inside, p.in_range.1, p.good.few, c.min-count.ensures), rw c.min-count.ensures (omega (arith, room, length-append line (tail (l.i * p.width + part_bits i.len p.width l.i)), l.invariant.1.next, l.invariant.2, c.requires)))

pub overflow_add-from : goal.overflow_add-from
overflow_add-from g c =
    let p = c.args.parts in
    record { fits = omega (arith, ceil_inside p.good.image.len p.width c.loop-i.i p.in_range.0 (omega (arith, c.parts-i-end.ensures, c.loop-i-test.true)), p.good.few, c.min-count.ensures) }

pub put_tail-next-requires : goal.put_tail-next-requires
unfolding part_text part_bits
put_tail-next-requires g c =
    let a = c.args in
    let p = a.parts in
    let i = p.good.image in
    let l = c.loop-i in
    let tail = g.T.PartTail.tail a.tail.now in
    let room = pieces_room (part_text a.kind i.bytes.now i.len p.width tail) l.i (ceil_div i.len p.width) (omega (arith, c.parts-i-end.ensures, c.loop-i-test.true)) in
    let wrote = rw c.min-count.ensures at c.put_line-next.ensures in
    rw c.min-count.ensures (room_then (tail (l.i * p.width + part_bits i.len p.width l.i)) wrote (omega (arith, room, l.invariant.1.next, l.invariant.2, c.requires)))

pub loop-i-preserved : goal.loop-i-preserved
unfolding part_text part_bits
loop-i-preserved g c =
    let l = c.loop-i in
    let part = writes_then (rw c.min-count.ensures at c.put_line-next.ensures) (rw c.min-count.ensures at c.put_tail-next.ensures) in
    (omega (arith, c.parts-i-end.ensures, c.loop-i-test.true), rw pieces_next (writes_then l.invariant.1 part), omega (arith, l.invariant.2, writes_length part))

pub returns : goal.returns
returns g c =
    let done : c.loop-i.i ≡ c.parts-i-end.result = omega (arith, c.loop-i.invariant.0, c.loop-i-test.false, c.parts-i-end.ensures) in
    rw (done, c.parts-i-end.ensures) at c.loop-i.invariant.1
