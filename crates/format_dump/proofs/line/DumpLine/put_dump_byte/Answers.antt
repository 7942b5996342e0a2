-- `format_dump::line::DumpLine::put_dump_byte` meets its contract: a whole byte at once, and of any other j digits after j turns.
-- Assumes nothing.
use mathlib.Core.Path.{◌≡◌, refl}
use Prim.Native.Nat.{◌/◌}
use native.Mathlib.Omega.{arith}
use borrow.Author.Rules.{rules}
use Rattle.output.proofs.Pieces.{pieces_none, pieces_next}
use Rattle.output.proofs.Writes.{writes_nothing, writes_then}
use Rattle.digits.specs.Bytes.{digit_bits}
use Rattle.digits.proofs.Bytes.{byte_length}
use Rattle.format_dump.specs.Dump.{dump_byte}
use Rattle.format_dump.proofs.Bytes.{per_byte, whole_byte}
use Rattle.format_dump.proofs.line.DumpLine.put_dump_byte.Goals as goal

pub loop-j-init : goal.loop-j-init
loop-j-init c = (search rules, rw pieces_none (writes_nothing _ _), refl)

pub loop-j-preserved : goal.loop-j-preserved
loop-j-preserved c = (
  search rules,
  rw pieces_next (writes_then c.loop-j.invariant.1 (rw (c.plus.ensures, c.width-width.ensures) at c.put_dump_digit-next.ensures)),
  search rules,
)

pub put-requires : goal.put-requires
put-requires c = omega (arith, c.put_byte_digits-next.ensures, byte_length c.args.self.kind (c.read_byte.result))

pub returns-then-from-self : goal.returns-then-from-self
returns-then-from-self c =
    let l = c.args.self in
    rw (whole_byte l.kind l.image.bytes.now l.image.len c.args.from.0 c.if-from-self.true, ← c.read_byte.ensures) (writes_then c.put_byte_digits-next.ensures c.put.ensures)

pub returns : goal.returns
unfolding dump_byte
returns c =
    let done : c.loop-j.j ≡ 8 / digit_bits c.args.self.kind = omega (arith, per_byte c.args.self.kind, c.per_byte-j-end.ensures) in
    writes_then (rw done at c.loop-j.invariant.1) c.put-2.ensures
