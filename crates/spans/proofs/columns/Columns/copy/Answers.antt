-- `spans::columns::Columns::copy` meets its contract: each column has its number of each record.
-- Assumes nothing.
use Rattle.std.proofs.Common.{rules}
use Rattle.spans.specs.InnerCopies.{copied_column}
use Rattle.spans.specs.Spans.{offset_number}
use Rattle.spans.proofs.columns.Columns.copy.Goals as goal

pub returns-clause-offsets : goal.returns-clause-offsets
unfolding copied_column
returns-clause-offsets c = c.copy_column.ensures (λ s. offset_number s.offset) (λ s r p. search rules)

pub returns-clause-sizes : goal.returns-clause-sizes
unfolding copied_column
returns-clause-sizes c = c.copy_column-2.ensures (λ s. s.size) (λ s r p. search rules)
