-- The dump of an image (document 01, module 6; the Rust's `format_dump`, `format_bindump` and `format_hexdump`).
use Rattle.std.specs.Prelude.{Bool, cond, not, ◌||◌, ◌&&◌, List, [], ◌∷◌, ◌++◌, ℕ, ◌+◌, ◌-◌, ◌*◌, ◌/◌, eqb, ltb}
use Prim.Native.Char.{code}
use Rattle.bitvec.specs.Bits.{bits_at}
use Rattle.bitvec.specs.Size.{bad_size}
use Rattle.output.specs.Ascii.{ascii}
use Rattle.output.specs.Pieces.{pieces, joined, every}
use Rattle.outcome.specs.Outcome.{Outcome, refused, outside, in_room}
use Rattle.numbers.specs.declared.Letters.TheVariants.{Lower}
use Rattle.numbers.specs.Digits.{digit_count, number_text, padded}
use Rattle.digits.specs.Run.{digit_at}
use Rattle.format_dump.specs.declared.DumpOptions.{DumpOptions}

-- A digit of w bits from bit i on: a point where its first bit is at or past the end.
unfoldable pub dump_digit : List ℕ → ℕ → ℕ → ℕ → ℕ
dump_digit bytes len w i = cond (ltb i len) (digit_at bytes len w i) (code ".")

-- A byte as a character: the four white-space bytes are a space; a byte of 128 or more, any other below the space, and the bar are a
-- point; 7F is itself.
unfoldable pub char_of : ℕ → ℕ
char_of b =
    cond (eqb b (code " ") || (eqb b (code "\t") || (eqb b (code "\r") || eqb b (code "\n")))) (code " ")
    (cond (ltb 0x7f b || (ltb b (code " ") || eqb b (code "|"))) (code ".")
    b)

-- The byte from bit i on as a character: a point where its first bit is at or past the end.
unfoldable pub dump_char : List ℕ → ℕ → ℕ → ℕ
dump_char bytes len i = cond (ltb i len) (char_of (bits_at bytes len i 8)) (code ".")

-- The byte from bit i on in digits of w bits, and a space.
unfoldable pub dump_byte : List ℕ → ℕ → ℕ → ℕ → List ℕ
dump_byte bytes len w i = pieces (λ j. dump_digit bytes len w (i + j * w) ∷ []) (8 / w) ++ ascii " "

-- The n bytes from byte first on in digits, with one more space after each fourth byte but the last.
abbrev pub digit_column : List ℕ → ℕ → ℕ → ℕ → ℕ → List ℕ
digit_column bytes len w first n = joined (λ j. every 4 j (ascii " ")) (λ j. dump_byte bytes len w ((first + j) * 8)) n

-- The n bytes from byte first on as characters.
abbrev pub char_column : List ℕ → ℕ → ℕ → ℕ → List ℕ
char_column bytes len first n = pieces (λ j. dump_char bytes len ((first + j) * 8) ∷ []) n

-- A line of n bytes: the address of its first byte, filled with zeros to a width, its bytes in digits and its bytes as characters.
unfoldable pub dump_line : List ℕ → ℕ → ℕ → ℕ → ℕ → ℕ → List ℕ
dump_line bytes len w n width first =
    ascii " " ++ (padded (code "0") width (number_text Lower 16 first)
    ++ (ascii " | " ++ (digit_column bytes len w first n
    ++ (ascii "| " ++ (char_column bytes len first n
    ++ ascii " |\n")))))

-- The range of the options: digits of 1 or 4 bits, bytes of 8, and 1 to 64 bytes a line.
unfoldable pub in_range : DumpOptions → Bool
in_range o = (eqb o.digit_bits 1 || eqb o.digit_bits 4) && (eqb o.byte_bits 8 && not (outside 1 64 o.bytes_per_line))

-- The line count: (bits + 8 * (n - 1)) / (8 * n), rounded down, and 1 below 8 bits. So bits of a part of
-- a byte that would start a line are not shown.
unfoldable pub dump_lines : ℕ → ℕ → ℕ
dump_lines len n = cond (ltb len 8) 1 ((len + 8 * (n - 1)) / (8 * n))

-- The dump in digits of w bits and lines of n bytes. The addresses are as wide as the last one.
unfoldable pub dump_text : List ℕ → ℕ → ℕ → ℕ → List ℕ
dump_text bytes len w n = pieces (λ k. dump_line bytes len w n (digit_count 16 ((dump_lines len n - 1) * n)) (k * n)) (dump_lines len n)

unfoldable pub dump_outcome : List ℕ → ℕ → DumpOptions → ℕ → Outcome
dump_outcome bytes len o room =
    cond (bad_size bytes len) (refused 1 0)
    (cond (not (in_range o)) (refused 2 0)
    (in_room room (dump_text bytes len o.digit_bits o.bytes_per_line)))

-- The two presets.
abbrev pub bindump : DumpOptions
bindump = record { digit_bits = 1; byte_bits = 8; bytes_per_line = 8 }

abbrev pub hexdump : DumpOptions
hexdump = record { digit_bits = 4; byte_bits = 8; bytes_per_line = 16 }
