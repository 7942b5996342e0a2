-- The contents of a span from a digit on, and the line of a span and its parts, of the values that the code has. No format is defined by it.
use Rattle.std.specs.Prelude.{List, [], ◌∷◌, ◌++◌, ℕ, ◌+◌, ◌*◌, unwrap_or}
use Rattle.bitvec.specs.declared.Image.{Image}
use Rattle.output.specs.Ascii.{ascii}
use Rattle.output.specs.Pieces.{pieces, leading, every}
use Rattle.numbers.specs.declared.Letters.TheVariants.{Lower}
use Rattle.numbers.specs.Digits.{number_text}
use Rattle.ordering.specs.Order.{absent}
use Rattle.listing.specs.declared.ListingOptions.{ListingOptions}
use Rattle.listing.specs.declared.line.SpanLine.{SpanLine}
use Rattle.listing.specs.Listing.{content_digit, contents, at_right, at_left, position, span_text}

-- What stands before the first digit of each group; digit k with that, where digit 0 is at bit i; n of them from digit k on.
abbrev pub gap : ℕ → ℕ → List ℕ
gap group k = every group k (ascii " ")

abbrev pub spaced_digit : ListingOptions → Image → ℕ → ℕ → List ℕ
spaced_digit o image i k = leading (gap o.given.digits_per_group) k ++ (content_digit image.bytes.now image.len o.width.bits (i + k * o.width.bits) ∷ [])

abbrev pub digits_from : ListingOptions → Image → ℕ → ℕ → ℕ → List ℕ
digits_from o image i k n = pieces (λ j. spaced_digit o image i (k + j)) n

-- The number of the offset of a span, or that of none; its position, its logical address, its contents in their column, and its line.
abbrev pub number_of : SpanLine → ℕ
number_of s = unwrap_or s.span.offset absent

abbrev pub position_of : SpanLine → List ℕ
position_of s = position s.layout.options.given s.layout.widths (number_of s)

abbrev pub address_of : SpanLine → List ℕ
address_of s = at_right s.layout.widths.addr (number_text Lower s.layout.options.given.addr_base s.span.addr)

abbrev pub column_of : SpanLine → List ℕ
column_of s = at_left s.layout.widths.content (contents s.layout.options.given s.image.bytes.now s.image.len (number_of s) s.span.size)

abbrev pub line_of : SpanLine → List ℕ
line_of s = span_text s.layout.options.given s.layout.widths s.image.bytes.now s.image.len (number_of s) s.span.size s.span.addr s.excerpt.now
