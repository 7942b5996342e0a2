-- The memory files of Verilog as parts of the image, and their lengths, which the exporters compute before they write.
-- Assumes nothing.
use mathlib.Core.Path.{◌≡◌, refl, ◌∙◌}
use mathlib.Core.Bool.{cond}
use mathlib.Core.List.{List}
use Prim.Native.Nat.{ℕ, ◌+◌, ◌*◌, ◌/◌, ◌%◌, ◌≤◌, ◌<◌}
use native.Mathlib.Omega.{arith}
use lib.Dec.{eqb}
use lib.ListN.{length, length-append}
use Rattle.bitvec.specs.Size.{ceil_div}
use Rattle.bitvec.proofs.Size.{ceil_most}
use Rattle.output.specs.Ascii.{ascii}
use Rattle.digits.specs.declared.ByteDigits.{ByteDigits}
use Rattle.digits.specs.declared.ByteDigits.TheVariants.{Binary, Hex}
use Rattle.digits.specs.Bytes.{digit_bits}
use Rattle.digits.specs.Run.{line_text}
use Rattle.digits.proofs.Run.{line_digits}
use Rattle.image_parts.specs.Parts.{part_bits}
use Rattle.image_parts.specs.InnerParts.{part_text, parts_text}
use Rattle.image_parts.proofs.Parts.{parts_length}
use Rattle.format_readmem.specs.Readmem.{line_at, readmem_text}

-- The file is the parts of the image with a newline behind each.
pub readmem_parts : (kind : ByteDigits) (bytes : List ℕ) (len width : ℕ)
    → readmem_text kind bytes len width ≡ parts_text kind bytes len width (λ end. ascii "\n") (ceil_div len width)
unfolding readmem_text line_at part_text
readmem_parts kind bytes len width = refl

-- A digit has some bits, so that there is at most one for each bit.
pub digit_some : (kind : ByteDigits) → 0 < digit_bits kind
digit_some Binary = omega arith
digit_some Hex = omega arith

pub digits_most : (kind : ByteDigits) (m : ℕ) → ceil_div m (digit_bits kind) ≤ m
digits_most kind m = ceil_most m (digit_bits kind) (digit_some kind)

-- The whole lines, and the last one where it is shorter, each with its newline.
pub readmem_length : (kind : ByteDigits) (bytes : List ℕ) (len width : ℕ) → 0 < width
    → length (readmem_text kind bytes len width)
    ≡ len / width * (ceil_div width (digit_bits kind) + 1) + cond (eqb (len % width) 0) 0 (ceil_div (len % width) (digit_bits kind) + 1)
unfolding readmem_text line_at
readmem_length kind bytes len width p =
    parts_length _ (λ m. ceil_div m (digit_bits kind) + 1) len width p
    (λ i. length-append (line_text kind bytes len (i * width) (part_bits len width i)) (ascii "\n") ∙ rw line_digits)
