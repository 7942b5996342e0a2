-- Digits and numbers as text (the Rust's `to_str_radix` and its formats `{}`, `{:x}`, `{:02X}`, `{:01$x}`, `{:>1$}`).
use Rattle.std.specs.Prelude.{cond, List, [], ◌∷◌, ◌++◌, map, ℕ, zero, suc, ◌+◌, ◌-◌, ◌*◌, ◌/◌, ◌%◌, ◌^◌, ltb, length, replicate}
use Prim.Native.Char.{code}
use Rattle.output.specs.Pieces.{pieces}
use Rattle.numbers.specs.declared.Letters.{Letters}
use Rattle.numbers.specs.declared.Letters.TheVariants.{Lower, Upper}

-- The letter that stands for ten: a or A.
abbrev pub letter_ten : Letters → ℕ
letter_ten Lower = code "a"
letter_ten Upper = code "A"

-- The character of a digit below 36: 0 to 9, then the letters.
unfoldable pub digit_char : Letters → ℕ → ℕ
digit_char letters d = cond (ltb d 10) (code "0" + d) (letter_ten letters + (d - 10))

-- A byte as two hexadecimal digits.
unfoldable pub byte_text : Letters → ℕ → List ℕ
byte_text letters b = digit_char letters (b / 16) ∷ digit_char letters (b % 16) ∷ []

-- The digits of w bits each that a number of m such digits is written with.
unfoldable pub digits_of : ℕ → ℕ → ℕ → List ℕ
digits_of w m v = pieces (λ k. digit_char Lower (v / 2 ^ ((m - 1 - k) * w) % 2 ^ w) ∷ []) m

-- The digits of n in a radix of 2 or more, the highest first: n itself where it is below the radix, else those of n / radix and
-- then n % radix. Each step makes the number smaller, so that more steps than its value are enough.
unfoldable pub digits_in : ℕ → ℕ → ℕ → List ℕ
digits_in zero radix n = []
digits_in (suc steps) radix n =
    let more = digits_in steps radix (n / radix) ++ (n % radix ∷ []) in
    cond (ltb n radix) (n ∷ []) more

unfoldable pub digits : ℕ → ℕ → List ℕ
digits radix n = digits_in (suc n) radix n

-- How many digits n has.
unfoldable pub digit_count : ℕ → ℕ → ℕ
digit_count radix n = length (digits radix n)

-- n in a radix, with no padding.
unfoldable pub number_text : Letters → ℕ → ℕ → List ℕ
number_text letters radix n = map (digit_char letters) (digits radix n)

-- A text filled on its left to a width, which a longer text exceeds.
unfoldable pub padded : ℕ → ℕ → List ℕ → List ℕ
padded fill width t = replicate (width - length t) fill ++ t
