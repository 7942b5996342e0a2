-- `spans::columns::ListingColumns::copy` meets its contract: each column has its number of each record.
-- Assumes nothing.
use Rattle.std.proofs.Common.{rules}
use Rattle.spans.specs.InnerCopies.{copied_column}
use Rattle.spans.specs.Spans.{start_number, end_number}
use Rattle.spans.proofs.columns.ListingColumns.copy.Goals as goal

pub returns-clause-addrs : goal.returns-clause-addrs
unfolding copied_column
returns-clause-addrs c = c.copy_column.ensures (λ s. s.addr) (λ s r p. search rules)

pub returns-clause-files : goal.returns-clause-files
unfolding copied_column
returns-clause-files c = c.copy_column-2.ensures (λ s. s.file_handle) (λ s r p. search rules)

pub returns-clause-starts : goal.returns-clause-starts
unfolding copied_column
returns-clause-starts c = c.copy_column-3.ensures (λ s. start_number s.location) (λ s r p. search rules)

pub returns-clause-ends : goal.returns-clause-ends
unfolding copied_column
returns-clause-ends c = c.copy_column-4.ensures (λ s. end_number s.location) (λ s r p. search rules)
