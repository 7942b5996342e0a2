-- `annotated::listed::Listed::put_shown` meets its contract: the line, or nothing.
-- Assumes nothing.
use Rattle.output.proofs.Writes.{writes_nothing}
use Rattle.annotated.proofs.listed.Listed.put_shown.Goals as goal

pub put-requires : goal.put-requires
put-requires c = rw c.in-Some.ensures.0 c.requires.room

pub returns-in-Some : goal.returns-in-Some
returns-in-Some c = rw (← c.in-Some.ensures.0) c.put.ensures

pub returns-in-None : goal.returns-in-None
returns-in-None c = rw c.in-None.ensures (writes_nothing _ _)
