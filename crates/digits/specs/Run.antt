-- The digits of an image as text (document 01, modules 2 to 6 and 9; the digit loops of the Rust's exporters).
use Rattle.std.specs.Prelude.{cond, List, [], ◌∷◌, ◌++◌, ℕ, ◌+◌, ◌*◌, ◌/◌, ◌%◌, eqb}
use Rattle.bitvec.specs.Bits.{bits_at}
use Rattle.output.specs.Pieces.{pieces}
use Rattle.numbers.specs.declared.Letters.TheVariants.{Lower}
use Rattle.numbers.specs.Digits.{digit_char}
use Rattle.digits.specs.declared.ByteDigits.{ByteDigits}
use Rattle.digits.specs.declared.ByteDigits.TheVariants.{Binary, Hex}

-- The digit of w bits from bit i on, as a character.
unfoldable pub digit_at : List ℕ → ℕ → ℕ → ℕ → ℕ
digit_at bytes len w i = digit_char Lower (bits_at bytes len i w)

-- n digits of w bits each, from bit i on.
unfoldable pub run : List ℕ → ℕ → ℕ → ℕ → ℕ → List ℕ
run bytes len w i n = pieces (λ k. digit_at bytes len w (i + k * w) ∷ []) n

-- A digit of w bits, or nothing where w is 0.
unfoldable pub short_digit : List ℕ → ℕ → ℕ → ℕ → List ℕ
short_digit bytes len w i = cond (eqb w 0) [] (digit_at bytes len w i ∷ [])

-- m bits from bit i on in hexadecimal: where m is not a multiple of 4, the bits that are over make a short digit, which is the first.
unfoldable pub hex_line : List ℕ → ℕ → ℕ → ℕ → List ℕ
hex_line bytes len i m = short_digit bytes len (m % 4) i ++ run bytes len 4 (i + m % 4) (m / 4)

-- A line of m bits from bit i on: each bit a digit, or in hexadecimal, where a line that is not a multiple of 4 bits starts with a short digit.
unfoldable pub line_text : ByteDigits → List ℕ → ℕ → ℕ → ℕ → List ℕ
line_text Binary bytes len i m = run bytes len 1 i m
line_text Hex bytes len i m = hex_line bytes len i m
