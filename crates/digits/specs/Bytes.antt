-- A byte in digits, and the bases that digits of whole bits have (document 01, modules 2 to 6 and 9; the Rust's `(base - 1).count_ones()`).
use Rattle.std.specs.Prelude.{cond, List, ℕ, eqb}
use Rattle.numbers.specs.declared.Letters.TheVariants.{Lower}
use Rattle.numbers.specs.Digits.{byte_text, digits_of}
use Rattle.digits.specs.declared.ByteDigits.{ByteDigits}
use Rattle.digits.specs.declared.ByteDigits.TheVariants.{Binary, Hex}

-- How many digits a byte has.
abbrev pub digits_per_byte : ByteDigits → ℕ
digits_per_byte Binary = 8
digits_per_byte Hex = 2

-- How many bits a digit has.
abbrev pub digit_bits : ByteDigits → ℕ
digit_bits Binary = 1
digit_bits Hex = 4

-- A byte in digits.
unfoldable pub byte_digits : ByteDigits → ℕ → List ℕ
byte_digits Binary b = digits_of 1 8 b
byte_digits Hex b = byte_text Lower b

-- How many bits a digit has in base 2, 4, 8, 16 or 32; 0 for any other number, which is no base here.
unfoldable pub base_bits : ℕ → ℕ
base_bits base =
    cond (eqb base 2) 1
    (cond (eqb base 4) 2
    (cond (eqb base 8) 3
    (cond (eqb base 16) 4
    (cond (eqb base 32) 5
    0))))
