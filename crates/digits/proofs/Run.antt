-- Laws of runs of digits and of lines in hexadecimal.
-- Assumes nothing.
use mathlib.Core.Path.{◌≡◌, refl, sym, ap, ◌∙◌}
use mathlib.Core.Bool.{Bool, true, false, cond}
use mathlib.Core.List.{List, [], ◌∷◌, ◌++◌}
use Prim.Native.Nat.{ℕ, ◌+◌, ◌-◌, ◌*◌, ◌/◌, ◌%◌, ◌^◌, ◌<◌, ◌≤◌, min}
use native.Mathlib.Omega.{arith}
use native.Mathlib.Nat.{mul-one, add-mul, suc-mul}
use lib.Dec.{eqb}
use lib.ListN.{length, length-append}
use borrow.Author.Tests.{eqb-true, eqb-false}
use Rattle.output.specs.Pieces.{pieces}
use Rattle.output.proofs.Pieces.{pieces_none, pieces_next, pieces_append, pieces_equal, pieces_length}
use Rattle.bitvec.specs.Bits.{bits_at}
use Rattle.bitvec.specs.Size.{ceil_div}
use Rattle.bitvec.proofs.Bits.{bits_small}
use Rattle.bitvec.proofs.Words.{bits_within}
use Rattle.numbers.specs.declared.Letters.TheVariants.{Lower}
use Rattle.numbers.specs.Digits.{digit_char, byte_text, digits_of}
use Rattle.digits.specs.declared.ByteDigits.{ByteDigits}
use Rattle.digits.specs.declared.ByteDigits.TheVariants.{Binary, Hex}
use Rattle.digits.specs.Bytes.{digits_per_byte, digit_bits, byte_digits}
use Rattle.digits.specs.Run.{digit_at, run, short_digit, hex_line, line_text}

pub run_none : (bytes : List ℕ) (len w i : ℕ) → run bytes len w i 0 ≡ []
unfolding run
run_none bytes len w i = pieces_none _

-- One digit more.
pub run_next : (bytes : List ℕ) (len w i n : ℕ) → run bytes len w i (n + 1) ≡ run bytes len w i n ++ (digit_at bytes len w (i + n * w) ∷ [])
unfolding run
run_next bytes len w i n = pieces_next _ n

-- More digits: those of the bits behind.
pub run_append : (bytes : List ℕ) (len w i n m : ℕ) → run bytes len w i (n + m) ≡ run bytes len w i n ++ run bytes len w (i + n * w) m
unfolding run
run_append bytes len w i n m =
    pieces_append _ n m
    ∙ ap (λ (t : List ℕ). run bytes len w i n ++ t)
    (pieces_equal _ _ m (λ k h. ap (λ (x : ℕ). digit_at bytes len w x ∷ []) (rw add-mul (omega arith))))

-- A run is the digits of the number that its bits make.
pub run_number : (bytes : List ℕ) (len w i m : ℕ) → run bytes len w i m ≡ digits_of w m (bits_at bytes len i (m * w))
unfolding run digits_of digit_at
run_number bytes len w i m =
    pieces_equal _ _ m
    (λ k h.
    let all : k * w + w + (m - 1 - k) * w ≡ m * w = omega (arith, add-mul k (m - 1 - k + 1) w, add-mul (m - 1 - k) 1 w, whole k h) in
    ap (λ (d : ℕ). digit_char Lower d ∷ []) (rw all at (bits_within bytes len i (k * w) w ((m - 1 - k) * w))))
  where
    whole : (k : ℕ) → k < m → (k + (m - 1 - k + 1)) * w ≡ m * w
    whole k h = ap (λ (x : ℕ). x * w) (omega arith)

-- A run has a character for each digit.
pub run_length : (bytes : List ℕ) (len w i n : ℕ) → length (run bytes len w i n) ≡ n
unfolding run
run_length bytes len w i n = pieces_length _ 1 n (λ k h. refl) ∙ mul-one n

-- A short digit is a character, or none.
pub short_length : (bytes : List ℕ) (len w i : ℕ) → length (short_digit bytes len w i) ≡ min 1 w
unfolding short_digit
short_length bytes len w i = go (eqb w 0) refl
  where
    go : (t : Bool) → eqb w 0 ≡ t → length (cond t [] (digit_at bytes len w i ∷ [])) ≡ min 1 w
    go true e = omega (arith, eqb-true w 0 e)
    go false e = omega (arith, eqb-false w 0 e)

-- A line has a digit for each four bits, the short one counted.
pub line_length : (bytes : List ℕ) (len i m : ℕ) → length (hex_line bytes len i m) ≡ (m + 3) / 4
unfolding hex_line
line_length bytes len i m =
    length-append (short_digit bytes len (m % 4) i) (run bytes len 4 (i + m % 4) (m / 4))
    ∙ rw (short_length bytes len (m % 4) i, run_length bytes len 4 (i + m % 4) (m / 4)) (omega arith)

-- A line of either kind has one for each part of a digit's bits.
pub line_digits : (kind : ByteDigits) (bytes : List ℕ) (len i m : ℕ) → length (line_text kind bytes len i m) ≡ ceil_div m (digit_bits kind)
unfolding line_text ceil_div
line_digits Binary bytes len i m = run_length bytes len 1 i m ∙ omega arith
line_digits Hex bytes len i m = line_length bytes len i m

-- The two digits of a byte.
pub byte_digits_lem : (b : ℕ) → b < 256 → byte_text Lower b ≡ digits_of 4 2 b
unfolding byte_text digits_of pieces
byte_digits_lem b h =
    let first : b / 2 ^ 4 % 2 ^ 4 ≡ b / 16 = omega arith in
    let second : b / 1 % 2 ^ 4 ≡ b % 16 = omega arith in
    rw (first, second)

-- A byte is a run of digits, wherever it begins.
byte_run : (kind : ByteDigits) (bytes : List ℕ) (len i : ℕ) → byte_digits kind (bits_at bytes len i 8) ≡ run bytes len (digit_bits kind) i (digits_per_byte kind)
unfolding byte_digits
byte_run Binary bytes len i = sym (run_number bytes len 1 i 8)
byte_run Hex bytes len i = byte_digits_lem (bits_at bytes len i 8) (bits_small bytes len i 8) ∙ sym (run_number bytes len 4 i 2)

-- The bits of the digits of whole bytes.
whole_bits : (kind : ByteDigits) (whole : ℕ) → whole * digits_per_byte kind * digit_bits kind ≡ whole * 8
whole_bits Binary whole = omega arith
whole_bits Hex whole = omega arith

-- The digits of a byte more.
pub byte_next : (kind : ByteDigits) (bytes : List ℕ) (len i k : ℕ)
    → run bytes len (digit_bits kind) i ((k + 1) * digits_per_byte kind)
    ≡ run bytes len (digit_bits kind) i (k * digits_per_byte kind) ++ byte_digits kind (bits_at bytes len (i + k * 8) 8)
byte_next kind bytes len i k =
    let more : (k + 1) * digits_per_byte kind ≡ k * digits_per_byte kind + digits_per_byte kind = omega (arith, suc-mul k (digits_per_byte kind)) in
    rw (more, run_append bytes len (digit_bits kind) i (k * digits_per_byte kind) (digits_per_byte kind), whole_bits kind k, byte_run kind bytes len (i + k * 8))

-- The digits of whole bytes, as many as are among some digits.
pub whole_digits : (kind : ByteDigits) (whole count : ℕ) → whole ≤ count / digits_per_byte kind → whole * digits_per_byte kind ≤ count
whole_digits Binary whole count h = omega arith
whole_digits Hex whole count h = omega arith

-- They are within the bits of those.
pub bytes_few : (kind : ByteDigits) (i w whole count : ℕ) → w ≡ digit_bits kind → whole * digits_per_byte kind ≤ count → i + count * w < 2 ^ 64 → i + whole * 8 < 2 ^ 64
bytes_few Binary i w whole count e h l = omega (arith, rw e at l)
bytes_few Hex i w whole count e h l = omega (arith, rw e at l)
