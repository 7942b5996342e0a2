-- `digits::put_each` meets its contract: after k turns k digits are written.
-- Assumes nothing.
use mathlib.Core.Path.{refl}
use borrow.Author.Rules.{rules}
use Rattle.output.proofs.Writes.{writes_nothing, writes_then}
use Rattle.digits.proofs.Run.{run_none, run_next}
use Rattle.digits.proofs.put_each.Goals as goal

pub loop-k-init : goal.loop-k-init
loop-k-init c = (search rules, search rules, rw (run_none _ _ _ _) (writes_nothing _ _), refl)

pub loop-k-preserved : goal.loop-k-preserved
loop-k-preserved c =
    (search rules, search rules, rw (run_next _ _ _ _ _, ← c.plus-from.ensures) (writes_then c.loop-k.invariant.2 c.put_digit-next.ensures), search rules)
