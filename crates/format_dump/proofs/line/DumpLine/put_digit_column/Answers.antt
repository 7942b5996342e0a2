-- `format_dump::line::DumpLine::put_digit_column` meets its contract: after j turns j bytes are written, each with what stands before it.
-- Assumes nothing.
use mathlib.Core.Path.{refl}
use Prim.Native.Nat.{◌+◌, ◌*◌}
use native.Mathlib.Omega.{arith}
use borrow.Author.Rules.{rules}
use Rattle.output.proofs.Joined.{joined_none, joined_next, joined_room}
use Rattle.output.proofs.Writes.{writes_nothing, writes_then}
use Rattle.digits.specs.Bytes.{digit_bits}
use Rattle.format_dump.proofs.Bytes.{byte_length}
use Rattle.format_dump.proofs.Lengths.{gap, line_byte}
use Rattle.format_dump.proofs.line.DumpLine.put_digit_column.Goals as goal

pub loop-j-init : goal.loop-j-init
loop-j-init c = (rw joined_none (writes_nothing _ _), refl)

pub put_between-next-requires : goal.put_between-next-requires
put_between-next-requires c =
    let a = c.args.self in
    let room = joined_room gap (line_byte a.image.bytes.now a.image.len (digit_bits a.kind) a.first) c.loop-j.j a.count (search rules) in
    (omega arith, omega (arith, room, c.loop-j.invariant.0.next, c.requires))

pub put_dump_byte-next-requires : goal.put_dump_byte-next-requires
put_dump_byte-next-requires c =
    let a = c.args.self in
    let room = joined_room gap (line_byte a.image.bytes.now a.image.len (digit_bits a.kind) a.first) c.loop-j.j a.count (search rules) in
    omega (arith, room, c.loop-j.invariant.0.next, c.requires, c.put_between-next.ensures.next, byte_length a.kind a.image.bytes.now a.image.len ((a.first + c.loop-j.j) * 8))

pub loop-j-preserved : goal.loop-j-preserved
loop-j-preserved c =
    (rw joined_next (writes_then c.loop-j.invariant.0 (writes_then c.put_between-next.ensures c.put_dump_byte-next.ensures)), search rules)
