-- The bytes of an image as an array of C (document 01, module 4; the Rust's `format_c_array`).
use Rattle.std.specs.Prelude.{cond, List, ◌++◌, ℕ, ◌-◌, eqb}
use Prim.Native.Char.{code}
use Rattle.bitvec.specs.Size.{bad_size, ceil_div}
use Rattle.output.specs.Ascii.{ascii}
use Rattle.outcome.specs.Outcome.{Outcome, refused, in_room}
use Rattle.numbers.specs.declared.Letters.TheVariants.{Lower}
use Rattle.numbers.specs.Digits.{digit_count, number_text, padded}
use Rattle.format_bytes.specs.Bytes.{bad_radix, byte_list}

-- The addresses are as wide as the last one.
abbrev pub address_width : ℕ → ℕ
address_width len = digit_count 16 (ceil_div len 8 - 1)

-- The comment with the address k, filled with zeros to a width.
unfoldable pub address_comment : ℕ → ℕ → List ℕ
address_comment width k = ascii "\t/* 0x" ++ (padded (code "0") width (number_text Lower 16 k) ++ ascii " */ ")

-- The list of bytes within the words of C, each line behind the comment with its address.
unfoldable pub c_array_text : ℕ → List ℕ → ℕ → List ℕ
c_array_text radix bytes len =
    ascii "const unsigned char data[] = {\n" ++ (address_comment (address_width len) 0
    ++ (byte_list radix (ascii ", ") (λ k. ascii "\n" ++ address_comment (address_width len) k) bytes len
    ++ ascii "\n};"))

unfoldable pub c_array_outcome : List ℕ → ℕ → ℕ → ℕ → Outcome
c_array_outcome bytes len radix room =
    cond (bad_size bytes len) (refused 1 0)
    (cond (bad_radix radix) (refused 2 0)
    (cond (eqb len 0) (refused 4 0)
    (in_room room (c_array_text radix bytes len))))
