-- `digits::put_bytes` meets its contract: after k turns the digits of k bytes are written.
-- Assumes nothing.
use mathlib.Core.Path.{◌≡◌, refl}
use Prim.Native.Nat.{◌*◌}
use native.Mathlib.Nat.{zero-mul, suc-mul}
use native.Mathlib.Omega.{arith}
use borrow.Author.Rules.{rules}
use Rattle.output.proofs.Writes.{writes_nothing, writes_then, writes_length}
use Rattle.digits.specs.Bytes.{digits_per_byte, digit_bits}
use Rattle.digits.proofs.Bytes.{byte_length}
use Rattle.digits.proofs.Run.{run_none, run_length, byte_next}
use Rattle.digits.proofs.put_bytes.Goals as goal
use Rattle.digits.proofs.put_bytes.Goals.{in-Some, in-None}

pub loop-k-init : goal.loop-k-init
loop-k-init c =
    elim c.match-leading_bytes.branch [
      | in-Some w ↦
          let b = w.in-Some.bytes in
          let e = rw w.in-Some.is at c.leading_bytes.ensures in
          let written = w.put_whole_bytes.ensures in
          rw (w.first-is, w.out-is)
          (e.2, omega (arith, written.next, run_length b.image.bytes.now b.image.len (digit_bits c.args.kind) (b.first * 8) (b.count * digits_per_byte c.args.kind)), rw (c.requires.0, ← e.0, ← e.1) written, writes_length written)
      | in-None w ↦ rw (w.first-is, w.out-is) (search rules, search rules, rw (zero-mul, run_none _ _ _ _) (writes_nothing _ _), refl)
    ]

pub loop-k-preserved : goal.loop-k-preserved
loop-k-preserved c =
    let l = c.loop-k in
    let a = c.args in
    let r = a.digits in
    let written = c.put_byte_digits-next.ensures in (
      search rules,
      omega (arith, written.next, byte_length a.kind c.read_byte-byte.result, l.invariant.1, suc-mul l.k (digits_per_byte a.kind)),
      rw (c.requires.0, byte_next a.kind r.image.bytes.now r.image.len r.from.0 l.k, ← c.plus.ensures, ← c.read_byte-byte.ensures) (writes_then (rw c.requires.0 at l.invariant.2) written),
      omega (arith, l.invariant.3, writes_length written),
    )

pub returns : goal.returns
returns c =
    let done : c.loop-k.k ≡ c.args.count = omega (arith, c.loop-k.invariant.0, c.loop-k-test.false) in
    rw done at c.loop-k.invariant.2
