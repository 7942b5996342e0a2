-- `digits::put_whole_bytes` meets its contract: after each turn the bytes so far are written.
-- Assumes nothing.
use mathlib.Core.Path.{refl, ap}
use Prim.Native.Nat.{◌*◌, ◌<◌}
use native.Mathlib.Nat.{zero-mul}
use native.Mathlib.Omega.{arith}
use lib.ListN.{length, drop}
use borrow.Author.Rules.{rules}
use Rattle.std.proofs.lemmas.List.{length-take}
use Rattle.output.proofs.Order.{stride}
use Rattle.output.proofs.Writes.{writes_nothing, writes_then, writes_length}
use Rattle.digits.specs.Bytes.{digits_per_byte, digit_bits}
use Rattle.digits.proofs.Run.{run_none, run_length}
use Rattle.digits.proofs.Bytes.{part_next}
use Rattle.digits.proofs.put_whole_bytes.Goals as goal

pub loop-byte-init : goal.loop-byte-init
loop-byte-init c = (rw (zero-mul, run_none _ _ _ _) (writes_nothing _ _), refl)

pub put_byte_digits-next-requires : goal.put_byte_digits-next-requires
put_byte_digits-next-requires c =
    let l = c.loop-byte in
    let a = c.args in
    let b = a.bytes in
    let few : l.byte-index < b.count = omega (arith, ap length c.slice-byte-items.ensures, length-take b.count (drop b.first b.image.bytes.now), c.loop-byte-test.true) in
    omega
    (arith, l.invariant.0.next, l.invariant.1, run_length b.image.bytes.now b.image.len (digit_bits a.kind) (b.first * 8) (l.byte-index * digits_per_byte a.kind), stride l.byte-index b.count (digits_per_byte a.kind) few, c.requires)

pub loop-byte-preserved : goal.loop-byte-preserved
loop-byte-preserved c =
    let l = c.loop-byte in
    let a = c.args in
    let b = a.bytes in
    let few : l.byte-index < b.count = omega (arith, ap length c.slice-byte-items.ensures, length-take b.count (drop b.first b.image.bytes.now), c.loop-byte-test.true) in (
      rw (part_next a.kind b.image.bytes.now b.image.len b.first b.count l.byte-index c.slice-byte-items.result.now c.slice-byte-items.ensures few b.inside.0 (search rules)) (writes_then l.invariant.0 c.put_byte_digits-next.ensures),
      omega (arith, l.invariant.1, writes_length c.put_byte_digits-next.ensures),
    )
