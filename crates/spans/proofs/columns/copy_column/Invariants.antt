-- The numbers of the first records are copied, and the other places are as they were.
-- Assumes nothing.
use Rattle.std.proofs.Common.{◌≡◌, length, map}
use lib.Seq.{paste}
use Rattle.spans.specs.declared.Span.{Span}
use Rattle.spans.proofs.columns.copy_column.Given as goal

abbrev pub invariant-loop-i : goal.invariant-loop-i
invariant-loop-i g l = (length l.column ≡ length l.initial.column)
    × ((w : Span → _) → ((s : Span) (r : _) → goal.F-post g l.fn.number s r → r ≡ w s) → l.column ≡ paste l.initial.column 0 (map w l.spans) l.i)
