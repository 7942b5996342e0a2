-- The text of a listing and its lines, of the spans as the code has them. No format is defined by it.
use Rattle.std.specs.Prelude.{List, ℕ}
use mathlib.Core.List.{flat_map}
use Rattle.ordering.specs.Order.{in_order}
use Rattle.listing.specs.Listing.{lent, span_line, annotated_text}
use Rattle.annotated.specs.declared.listed.Listed.{Listed}

-- The line of the span at a place, nothing where it is hidden; the lines of all spans in order; the listing.
abbrev pub shown_line : Listed → ℕ → List ℕ
shown_line s = span_line s.layout.options.given s.layout.widths s.image.bytes.now s.image.len (lent s.spans.columns) s.sources.firmware.now s.sources.protocol.now

abbrev pub shown_lines : Listed → List ℕ
shown_lines s = flat_map (shown_line s) (in_order s.spans.columns.offsets.now)

abbrev pub shown_text : Listed → List ℕ
shown_text s = annotated_text s.layout.options.given s.image.bytes.now s.image.len (lent s.spans.columns) s.sources.firmware.now s.sources.protocol.now
