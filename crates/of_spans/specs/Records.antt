-- The spans of a listing, read off records.
use Rattle.std.specs.Prelude.{List}
use Rattle.listing.specs.Listing.{Spans, spans_of}
use Rattle.spans.specs.declared.Span.{Span}
use Rattle.spans.specs.Spans.{offsets_of, sizes_of, addrs_of, files_of, starts_of, ends_of}

abbrev pub record_spans : List Span → Spans
record_spans spans = spans_of (offsets_of spans) (sizes_of spans) (addrs_of spans) (files_of spans) (starts_of spans) (ends_of spans)
