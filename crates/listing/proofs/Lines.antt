-- Laws of the parts of a line: their lengths.
-- Assumes nothing.
use mathlib.Core.Path.{◌≡◌, refl, ap, ◌∙◌}
use mathlib.Core.List.{List, ◌++◌}
use mathlib.Core.Logic.{◌≢◌}
use Prim.Native.Nat.{ℕ, ◌+◌, ◌-◌, ◌/◌, ◌%◌, ◌≤◌, max}
use Prim.Native.Char.{code}
use native.Mathlib.Omega.{arith}
use lib.ListN.{length, replicate, length-append, length-replicate}
use borrow.Author.Tests.{eq-eqb, ne_eqb}
use Rattle.output.specs.Ascii.{ascii}
use Rattle.numbers.specs.declared.Letters.TheVariants.{Lower}
use Rattle.numbers.specs.Digits.{digit_count, number_text, padded}
use Rattle.numbers.proofs.Digits.{number_length, padded_length, padded_wider}
use Rattle.ordering.specs.Order.{absent}
use Rattle.listing.specs.declared.FormatAnnotatedOptions.{FormatAnnotatedOptions}
use Rattle.listing.specs.declared.Widths.{Widths}
use Rattle.listing.specs.Listing.{wider, contents, at_right, at_left, place, position, span_text}
use Rattle.listing.specs.InnerLine.{number_of, position_of, address_of, column_of, line_of}
use Rattle.listing.specs.declared.line.SpanLine.{SpanLine}

-- The number of a position, and the dashes in its place.
place_absent : (o : FormatAnnotatedOptions) (width offset n : ℕ) (t : List ℕ) → offset ≡ absent → place o width offset n t ≡ at_right width t
unfolding place
place_absent o width offset n t e = simp (eq-eqb offset absent e)

place_present : (o : FormatAnnotatedOptions) (width offset n : ℕ) (t : List ℕ) → offset ≢ absent → place o width offset n t ≡ at_right width (number_text Lower o.addr_base n)
unfolding place
place_present o width offset n t e = simp (ne_eqb offset absent e)

pub position_parts : (o : FormatAnnotatedOptions) (w : Widths) (offset : ℕ)
    → length (position o w offset) ≡ 2 + length (place o w.outp offset (offset / 8) (ascii "--")) + length (place o w.outp_bit offset (offset % 8) (ascii "-"))
unfolding position
position_parts o w offset =
    let byte = place o w.outp offset (offset / 8) (ascii "--") in
    let bit = place o w.outp_bit offset (offset % 8) (ascii "-") in
    omega (arith, length-append (ascii ":") bit, length-append byte (ascii ":" ++ bit), length-append (ascii " ") (byte ++ (ascii ":" ++ bit)))

-- A position of dashes, and one of numbers that fit.
pub position_absent : (o : FormatAnnotatedOptions) (w : Widths)
    → position o w absent ≡ ascii " " ++ (at_right w.outp (ascii "--") ++ (ascii ":" ++ at_right w.outp_bit (ascii "-")))
unfolding position
position_absent o w = rw (place_absent o w.outp absent (absent / 8) (ascii "--") refl, place_absent o w.outp_bit absent (absent % 8) (ascii "-") refl)

pub absent_length : (o : FormatAnnotatedOptions) (w : Widths) → length (position o w absent) ≡ 2 + max w.outp 2 + max w.outp_bit 1
absent_length o w =
    omega (
      arith,
      position_parts o w absent,
      ap length (place_absent o w.outp absent (absent / 8) (ascii "--") refl),
      ap length (place_absent o w.outp_bit absent (absent % 8) (ascii "-") refl),
      padded_length 32 w.outp (ascii "--"),
      padded_length 32 w.outp_bit (ascii "-"),
    )

pub position_present : (o : FormatAnnotatedOptions) (w : Widths) (offset : ℕ) → offset ≢ absent
    → position o w offset
    ≡ ascii " " ++ (at_right w.outp (number_text Lower o.addr_base (offset / 8)) ++ (ascii ":" ++ at_right w.outp_bit (number_text Lower o.addr_base (offset % 8))))
unfolding position
position_present o w offset e = rw (place_present o w.outp offset (offset / 8) (ascii "--") e, place_present o w.outp_bit offset (offset % 8) (ascii "-") e)

-- The numbers of a span that makes the columns no wider fit in them.
pub fits : (o : FormatAnnotatedOptions) (w : Widths) (offset size address : ℕ) → wider o w offset size address ≡ w
    → (digit_count o.addr_base (offset / 8) ≤ w.outp) × (digit_count o.addr_base (offset % 8) ≤ w.outp_bit) × (digit_count o.addr_base address ≤ w.addr)
unfolding wider
fits o w offset size address e =
    (omega (arith, ap (λ (v : Widths). v.outp) e), omega (arith, ap (λ (v : Widths). v.outp_bit) e), omega (arith, ap (λ (v : Widths). v.addr) e))

pub present_length : (o : FormatAnnotatedOptions) (w : Widths) (offset size address : ℕ) → offset ≢ absent → wider o w offset size address ≡ w
    → length (position o w offset) ≡ 2 + w.outp + w.outp_bit
present_length o w offset size address e f =
    let byte = number_text Lower o.addr_base (offset / 8) in
    let bit = number_text Lower o.addr_base (offset % 8) in
    omega (
      arith,
      position_parts o w offset,
      ap length (place_present o w.outp offset (offset / 8) (ascii "--") e),
      ap length (place_present o w.outp_bit offset (offset % 8) (ascii "-") e),
      padded_length 32 w.outp byte,
      padded_length 32 w.outp_bit bit,
      number_length Lower o.addr_base (offset / 8),
      number_length Lower o.addr_base (offset % 8),
      fits o w offset size address f,
    )

-- The logical address has its column's width, or as many characters as digits where these are more; to its own length it is filled as to
-- the column's.
pub address_length : (s : SpanLine) → length (address_of s) ≡ max s.layout.widths.addr (digit_count s.layout.options.given.addr_base s.span.addr)
address_length s =
    let text = number_text Lower s.layout.options.given.addr_base s.span.addr in
    padded_length 32 s.layout.widths.addr text ∙ ap (max s.layout.widths.addr) (number_length Lower s.layout.options.given.addr_base s.span.addr)

pub address_wide : (s : SpanLine)
    → padded 32 (length (address_of s)) (number_text Lower s.layout.options.given.addr_base s.span.addr) ≡ address_of s
address_wide s =
    ap (λ (width : ℕ). padded 32 width (number_text Lower s.layout.options.given.addr_base s.span.addr)) (address_length s)
    ∙ padded_wider Lower s.layout.options.given.addr_base s.span.addr 32 s.layout.widths.addr

-- A text at the left of a column has its width, or its own where that is larger.
pub at_left_length : (width : ℕ) (t : List ℕ) → length (at_left width t) ≡ max width (length t)
at_left_length width t =
    length-append t (replicate (width - length t) (code " ")) ∙ omega (arith, length-replicate {A = ℕ} (width - length t) (code " "))

-- A line.
pub line_parts : (s : SpanLine)
    → length (line_of s)
    ≡ length (position_of s) + length (address_of s) + max s.layout.widths.content (length (contents s.layout.options.given s.image.bytes.now s.image.len (number_of s) s.span.size)) + length s.excerpt.now + 10
unfolding span_text
line_parts s =
    let t₁ = s.excerpt.now ++ ascii "\n" in
    let t₂ = ascii " ; " ++ t₁ in
    let t₃ = column_of s ++ t₂ in
    let t₄ = ascii " | " ++ t₃ in
    let t₅ = address_of s ++ t₄ in
    omega (
      arith,
      length-append s.excerpt.now (ascii "\n"),
      length-append (ascii " ; ") t₁,
      length-append (column_of s) t₂,
      length-append (ascii " | ") t₃,
      length-append (address_of s) t₄,
      length-append (ascii " | ") t₅,
      length-append (position_of s) (ascii " | " ++ t₅),
      at_left_length s.layout.widths.content (contents s.layout.options.given s.image.bytes.now s.image.len (number_of s) s.span.size),
    )
