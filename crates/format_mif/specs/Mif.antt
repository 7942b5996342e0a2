-- The memory initialization file of an image (document 01, module 5; the Rust's `format_mif`).
use Rattle.std.specs.Prelude.{cond, List, ◌++◌, ℕ, ◌-◌, eqb}
use Prim.Native.Char.{code}
use Rattle.bitvec.specs.Bits.{byte_at}
use Rattle.bitvec.specs.Size.{bad_size, ceil_div}
use Rattle.output.specs.Ascii.{ascii}
use Rattle.output.specs.Pieces.{pieces}
use Rattle.outcome.specs.Outcome.{Outcome, refused, in_room}
use Rattle.numbers.specs.declared.Letters.TheVariants.{Lower, Upper}
use Rattle.numbers.specs.Digits.{byte_text, digit_count, number_text, padded}

-- The line of byte k: its address, filled with spaces to a width, and the byte.
unfoldable pub mif_line : List ℕ → ℕ → ℕ → ℕ → List ℕ
mif_line bytes len width k =
    ascii " " ++ (padded (code " ") width (number_text Upper 16 k) ++ (ascii ": " ++ (byte_text Upper (byte_at bytes len k) ++ ascii ";\n")))

-- A heading with the number of bytes, then a line for each of them. The addresses are as wide as the last one.
unfoldable pub mif_text : List ℕ → ℕ → List ℕ
mif_text bytes len =
    ascii "DEPTH = " ++ (number_text Lower 10 (ceil_div len 8)
    ++ (ascii ";\nWIDTH = 8;\nADDRESS_RADIX = HEX;\nDATA_RADIX = HEX;\n\nCONTENT\nBEGIN\n"
    ++ (pieces (mif_line bytes len (digit_count 16 (ceil_div len 8 - 1))) (ceil_div len 8)
    ++ ascii "END;")))

unfoldable pub mif_outcome : List ℕ → ℕ → ℕ → Outcome
mif_outcome bytes len room =
    cond (bad_size bytes len) (refused 1 0)
    (cond (eqb len 0) (refused 4 0)
    (in_room room (mif_text bytes len)))
