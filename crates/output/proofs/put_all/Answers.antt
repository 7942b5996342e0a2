-- `output::put_all` meets its contract: after k turns the first k bytes of s are written.
-- Assumes nothing.
use mathlib.Core.Path.{refl}
use native.Mathlib.Numerals.{add-one}
use native.Mathlib.Omega.{arith}
use lib.Seq.{take-suc, take_all}
use borrow.Author.Rules.{rules}
use Rattle.output.proofs.Writes.{writes_nothing, writes_then}
use Rattle.output.proofs.put_all.Goals as goal

pub loop-byte-init : goal.loop-byte-init
loop-byte-init c = (search rules, writes_nothing _ _, refl)

pub loop-byte-preserved : goal.loop-byte-preserved
loop-byte-preserved c =
    let s = c.args.s.now in
    let h = c.loop-byte-test.true in
    (search rules, rw (add-one, take-suc s _ 0 h) (writes_then c.loop-byte.invariant.1 c.put-next.ensures), search rules)

pub returns : goal.returns
returns c = rw (take_all c.loop-byte.byte-index c.args.s.now (omega arith)) at c.loop-byte.invariant.1
