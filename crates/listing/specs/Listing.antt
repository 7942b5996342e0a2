-- The annotated listing (document 01, module 9; the Rust's `format_annotated`): its columns, their widths, and its lines. The paper's
-- example, one span of one byte:
--
--      outp | addr | data (base 16)
--
--       0:0 |    0 | 12 ; nop
use Rattle.std.specs.Prelude.{Bool, Option, None, Some, cond, not, ◌||◌, ℕ, zero, suc, ◌+◌, ◌-◌, ◌*◌, ◌/◌, ◌%◌, max, eqb, ltb, length, get_or, replicate}
use mathlib.Core.List.{List, [], ◌∷◌, ◌++◌, flat_map}
use Prim.Native.Char.{code}
use Rattle.bitvec.specs.Size.{ceil_div}
use Rattle.output.specs.Ascii.{ascii}
use Rattle.output.specs.Pieces.{joined, every}
use Rattle.outcome.specs.Outcome.{outside}
use Rattle.numbers.specs.declared.Letters.TheVariants.{Lower}
use Rattle.numbers.specs.Digits.{digit_count, number_text, padded}
use Rattle.digits.specs.Bytes.{base_bits}
use Rattle.digits.specs.Run.{digit_at}
use Rattle.ordering.specs.Order.{absent, in_order}
use Rattle.sources.specs.Sources.{no_location, excerpt_of}
use Rattle.listing.specs.declared.FormatAnnotatedOptions.{FormatAnnotatedOptions}
use Rattle.listing.specs.declared.Location.{Location}
use Rattle.listing.specs.declared.SpanColumns.{SpanColumns}
use Rattle.listing.specs.declared.Widths.{Widths}

-- An address base, a number of digits per group or a label switch outside its range.
unfoldable pub out_of_range : FormatAnnotatedOptions → Bool
out_of_range o = outside 2 36 o.addr_base || (outside 1 64 o.digits_per_group || ltb 1 o.display_labels)

-- The cause of refusal 2: these, or a base that is none.
unfoldable pub bad_annotated : FormatAnnotatedOptions → Bool
bad_annotated o = eqb (base_bits o.base) 0 || out_of_range o

-- The spans as lent: of each its offset (or absent), its size, its logical address, its file, and its start and end there.
pub record Spans : Type 0 where
  pub offsets : List ℕ
  pub sizes : List ℕ
  pub addrs : List ℕ
  pub files : List ℕ
  pub starts : List ℕ
  pub ends : List ℕ

-- The spans of six lists.
abbrev pub spans_of : List ℕ → List ℕ → List ℕ → List ℕ → List ℕ → List ℕ → Spans
spans_of offsets sizes addrs files starts ends =
    record { offsets = offsets; sizes = sizes; addrs = addrs; files = files; starts = starts; ends = ends }

-- The spans of columns as lent.
abbrev pub lent : SpanColumns → Spans
lent c = spans_of c.offsets.now c.sizes.now c.addrs.now c.files.now c.starts.now c.ends.now

-- The location that lent numbers say: none where the start is the number of none.
unfoldable pub location_from : ℕ → ℕ → ℕ → Option Location
location_from file start end = cond (eqb start no_location) None (Some (record { file = file; start = start; end = end }))

-- Slices of unequal length, a cause of refusal 3. The sizes are looked at with the offsets.
unfoldable pub unequal : Spans → Bool
unequal s =
    let n = length s.offsets in
    not (eqb n (length s.addrs)) || (not (eqb n (length s.files)) || (not (eqb n (length s.starts)) || not (eqb n (length s.ends))))

-- Document 01's "shown": a span is hidden when labels are off and its size is 0.
unfoldable pub shown : FormatAnnotatedOptions → ℕ → Bool
shown o size = not (eqb o.display_labels 0) || not (eqb size 0)

-- How many digits the contents of a span have.
unfoldable pub content_digits : FormatAnnotatedOptions → ℕ → ℕ
content_digits o size = ceil_div size (base_bits o.base)

-- The digit of w bits from bit i on: a point where any of its bits is past the image's end.
unfoldable pub content_digit : List ℕ → ℕ → ℕ → ℕ → ℕ
content_digit bytes len w i = cond (ltb len (i + w)) (code ".") (digit_at bytes len w i)

-- The contents of a span: its digits, with a space between groups.
unfoldable pub contents : FormatAnnotatedOptions → List ℕ → ℕ → ℕ → ℕ → List ℕ
contents o bytes len offset size =
    let w = base_bits o.base in
    joined (λ k. every o.digits_per_group k (ascii " ")) (λ k. content_digit bytes len w (offset + k * w) ∷ []) (content_digits o size)

-- What a span asks of the width of the contents column: its digits and a space for each whole group, less one, and nothing where these are one or
-- none, or more than five groups.
unfoldable pub content_need : FormatAnnotatedOptions → ℕ → ℕ
content_need o size =
    let wide = content_digits o size + content_digits o size / o.digits_per_group in
    cond (ltb wide 2 || ltb ((o.digits_per_group + 1) * 5) wide) 0 (wide - 1)

-- The title of the column of logical addresses.
unfoldable pub addr_title : ℕ → List ℕ
addr_title base = cond (eqb base 16) (ascii "addr") (ascii "addr (base " ++ (number_text Lower 10 base ++ ascii ")"))

-- The widths before any span is measured: positions of two digits and a bit number of one, the title, and one group of digits.
unfoldable pub narrowest : FormatAnnotatedOptions → Widths
narrowest o = record { outp = 2; outp_bit = 1; addr = length (addr_title o.addr_base); content = o.digits_per_group }

-- The widths with one span more.
unfoldable pub wider : FormatAnnotatedOptions → Widths → ℕ → ℕ → ℕ → Widths
wider o w offset size address =
    record {
      outp = max w.outp (digit_count o.addr_base (offset / 8));
      outp_bit = max w.outp_bit (digit_count o.addr_base (offset % 8));
      addr = max w.addr (digit_count o.addr_base address);
      content = max w.content (content_need o size);
    }

-- The widths over the first n spans that have an offset, shown or hidden.
unfoldable pub widths_of : FormatAnnotatedOptions → List ℕ → List ℕ → List ℕ → ℕ → Widths
widths_of o offsets sizes addrs zero = narrowest o
widths_of o offsets sizes addrs (suc n) =
    let before = widths_of o offsets sizes addrs n in
    cond (eqb (get_or offsets n 0) absent) before (wider o before (get_or offsets n 0) (get_or sizes n 0) (get_or addrs n 0))

-- A text at the right and at the left of a column.
abbrev pub at_right : ℕ → List ℕ → List ℕ
at_right width t = padded (code " ") width t

abbrev pub at_left : ℕ → List ℕ → List ℕ
at_left width t = t ++ replicate (width - length t) (code " ")

-- The two lines above the spans: the columns' titles, and an empty one.
unfoldable pub heading : FormatAnnotatedOptions → Widths → List ℕ
heading o w =
    ascii " " ++ (at_right (w.outp + w.outp_bit + 1) (ascii "outp")
    ++ (ascii " | " ++ (at_right w.addr (addr_title o.addr_base)
    ++ (ascii " | data (base " ++ (number_text Lower 10 o.base
    ++ ascii ")\n\n")))))

-- A number of a span's position, or dashes where its offset is absent.
unfoldable pub place : FormatAnnotatedOptions → ℕ → ℕ → ℕ → List ℕ → List ℕ
place o width offset n dashes = at_right width (cond (eqb offset absent) dashes (number_text Lower o.addr_base n))

-- A span's position: the byte, and the bit in it.
unfoldable pub position : FormatAnnotatedOptions → Widths → ℕ → List ℕ
position o w offset =
    ascii " " ++ (place o w.outp offset (offset / 8) (ascii "--")
    ++ (ascii ":" ++ place o w.outp_bit offset (offset % 8) (ascii "-")))

-- The line of a span: its position, its logical address, its contents, and its excerpt.
unfoldable pub span_text : FormatAnnotatedOptions → Widths → List ℕ → ℕ → ℕ → ℕ → ℕ → List ℕ → List ℕ
span_text o w bytes len offset size address excerpt =
    position o w offset
    ++ (ascii " | " ++ (at_right w.addr (number_text Lower o.addr_base address)
    ++ (ascii " | " ++ (at_left w.content (contents o bytes len offset size)
    ++ (ascii " ; " ++ (excerpt
    ++ ascii "\n"))))))

-- The line of the span at a place of the lent list where it is shown, and nothing where it is hidden.
unfoldable pub span_line : FormatAnnotatedOptions → Widths → List ℕ → ℕ → Spans → List ℕ → List ℕ → ℕ → List ℕ
span_line o w bytes len s firmware protocol p =
    let excerpt = excerpt_of firmware protocol (get_or s.files p 0) (get_or s.starts p 0) (get_or s.ends p 0) in
    cond (shown o (get_or s.sizes p 0)) (span_text o w bytes len (get_or s.offsets p 0) (get_or s.sizes p 0) (get_or s.addrs p 0) excerpt) []

-- The heading, and the lines of the spans in order.
unfoldable pub annotated_text : FormatAnnotatedOptions → List ℕ → ℕ → Spans → List ℕ → List ℕ → List ℕ
annotated_text o bytes len s firmware protocol =
    let w = widths_of o s.offsets s.sizes s.addrs (length s.offsets) in
    heading o w ++ flat_map (span_line o w bytes len s firmware protocol) (in_order s.offsets)
