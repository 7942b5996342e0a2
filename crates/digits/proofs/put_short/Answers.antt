-- `digits::put_short` meets its contract: nothing for no bits, and else one digit.
-- Assumes nothing.
use borrow.Author.Tests.{eq-eqb, ne_eqb}
use Rattle.output.proofs.Writes.{writes_nothing}
use Rattle.digits.specs.Run.{short_digit}
use Rattle.digits.proofs.put_short.Goals as goal

pub returns-then-width-eq0 : goal.returns-then-width-eq0
unfolding short_digit
returns-then-width-eq0 c = simp (eq-eqb _ _ c.if-width-eq0.true) (writes_nothing _ _)

pub returns : goal.returns
unfolding short_digit
returns c = simp (ne_eqb _ _ c.if-width-eq0.false) c.put_digit.ensures
