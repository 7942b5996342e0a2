-- `annotated::listed::Listed::shown_length` meets its contract: that of the line, or 0.
-- Assumes nothing.
use mathlib.Core.Path.{sym, ap, ◌∙◌}
use native.Mathlib.Omega.{arith}
use lib.ListN.{length}
use Rattle.annotated.proofs.listed.Listed.shown_length.Goals as goal

pub returns-in-Some : goal.returns-in-Some
returns-in-Some c = (c.length.ensures.0 ∙ ap length c.in-Some.ensures.0, c.length.ensures.1)

pub returns-in-None : goal.returns-in-None
returns-in-None c = (sym (ap length c.in-None.ensures), omega arith)
