-- `format_logisim::chunk_length` meets its contract: one case with the newline and one without.
-- Assumes nothing.
use mathlib.Core.Path.{sym, ◌∙◌}
use native.Mathlib.Omega.{arith}
use borrow.Author.Rules.{rules}
use Rattle.bitvec.specs.Size.{ceil_div}
use Rattle.format_logisim.proofs.Lengths.{chunk_length}
use Rattle.format_logisim.proofs.chunk_length.Goals as goal

pub overflow_add-result : goal.overflow_add-result
unfolding ceil_div
overflow_add-result c = search rules

pub returns-then-ends_line : goal.returns-then-ends_line
unfolding ceil_div
returns-then-ends_line c bytes len =
    let a = c.args in
    chunk_length bytes len a.from a.count ∙ simp (sym c.ends_line.ensures ∙ c.if-ends_line.true) (omega (arith, c.parts-digits.ensures))

pub overflow_add-result-2 : goal.overflow_add-result-2
unfolding ceil_div
overflow_add-result-2 c = search rules

pub returns : goal.returns
unfolding ceil_div
returns c bytes len =
    let a = c.args in
    chunk_length bytes len a.from a.count ∙ simp (sym c.ends_line.ensures ∙ c.if-ends_line.false) (omega (arith, c.parts-digits.ensures))
