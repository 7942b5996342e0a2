-- What is copied of a slice of records: of at most 4,097, one more than a span list may have, so that the core can tell that a list is too long.
-- No format is defined by it.
use Rattle.std.specs.Prelude.{List, ℕ, min, length, replicate}
use lib.Seq.{paste}
use Rattle.spans.specs.declared.Span.{Span}

-- As many numbers of a list as records are copied, at the front of an array of zeros.
unfoldable pub copied_column : List Span → List ℕ → List ℕ
copied_column spans numbers = paste (replicate 4097 0) 0 numbers (min (length spans) 4097)
