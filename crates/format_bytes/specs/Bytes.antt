-- A list of an image's bytes: what the separator list and the C array share (document 01, module 4).
use Rattle.std.specs.Prelude.{Bool, cond, not, ◌||◌, List, ◌++◌, ℕ, eqb}
use Rattle.bitvec.specs.Bits.{byte_at}
use Rattle.bitvec.specs.Size.{ceil_div}
use Rattle.output.specs.Ascii.{ascii}
use Rattle.output.specs.Pieces.{joined, every}
use Rattle.numbers.specs.declared.Letters.TheVariants.{Lower}
use Rattle.numbers.specs.Digits.{byte_text, number_text}

-- A radix other than 10 and 16 is outside its range.
unfoldable pub bad_radix : ℕ → Bool
bad_radix radix = not (eqb radix 10 || eqb radix 16)

-- A byte in radix 10, or in radix 16 as two digits behind 0x.
unfoldable pub byte_in : ℕ → ℕ → List ℕ
byte_in radix b = cond (eqb radix 10) (number_text Lower 10 b) (ascii "0x" ++ byte_text Lower b)

-- The image's bytes with a separator between each two and sixteen on a line: behind the separator stands start k, with which the line
-- of byte k starts.
unfoldable pub byte_list : ℕ → List ℕ → (ℕ → List ℕ) → List ℕ → ℕ → List ℕ
byte_list radix separator start bytes len =
    joined (λ k. separator ++ every 16 k (start k)) (λ k. byte_in radix (byte_at bytes len k)) (ceil_div len 8)
