-- `image_parts::put_whole_parts` meets its contract: whole parts whose digits have one width are groups of digits.
-- Assumes nothing.
use Prim.Native.Nat.{◌/◌}
use native.Mathlib.Nat.{div-mul-le_self}
use Rattle.image_parts.proofs.Runs.{whole_parts}
use Rattle.image_parts.proofs.put_whole_parts.Goals as goal

pub put_groups-requires-clause-room : goal.put_groups-requires-clause-room
put_groups-requires-clause-room g c =
    let p = c.args.parts in
    let i = p.good.image in
    rw (whole_parts c.args.kind i.bytes.now i.len p.width c.args.digit.bits (g.T.PartTail.tail c.args.tail.now) (i.len / p.width) c.requires.runs (div-mul-le_self i.len p.width)) c.requires.room

pub returns : goal.returns
returns g c =
    let p = c.args.parts in
    let i = p.good.image in
    rw (← whole_parts c.args.kind i.bytes.now i.len p.width c.args.digit.bits (g.T.PartTail.tail c.args.tail.now) (i.len / p.width) c.requires.runs (div-mul-le_self i.len p.width)) c.put_groups.ensures
