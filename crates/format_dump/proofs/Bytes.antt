-- Laws of a byte of a line in digits.
-- Assumes nothing.
use mathlib.Core.Path.{◌≡◌, refl, ap, ◌∙◌}
use mathlib.Core.List.{List, [], ◌∷◌, ◌++◌}
use Prim.Native.Nat.{ℕ, ◌+◌, ◌*◌, ◌/◌, ◌<◌, ◌≤◌}
use native.Mathlib.Omega.{arith}
use lib.ListN.{length, length-append}
use borrow.Author.Tests.{lt-ltb}
use Rattle.bitvec.specs.Bits.{bits_at}
use Rattle.output.specs.Ascii.{ascii}
use Rattle.output.specs.Pieces.{pieces}
use Rattle.output.proofs.Pieces.{pieces_equal, pieces_length}
use Rattle.digits.specs.declared.ByteDigits.{ByteDigits}
use Rattle.digits.specs.declared.ByteDigits.TheVariants.{Binary, Hex}
use Rattle.digits.specs.Bytes.{digits_per_byte, digit_bits, byte_digits}
use Rattle.digits.specs.Run.{digit_at, run}
use Rattle.digits.proofs.Run.{run_none, byte_next}
use Rattle.format_dump.specs.Dump.{dump_digit, dump_byte}

-- A byte has a digit for each of its bits, or for each four.
pub per_byte : (kind : ByteDigits) → 8 / digit_bits kind ≡ digits_per_byte kind
per_byte Binary = omega arith
per_byte Hex = omega arith

-- A digit of it begins in it.
digit_within : (kind : ByteDigits) (j : ℕ) → j < digits_per_byte kind → j * digit_bits kind < 8
digit_within Binary j h = omega arith
digit_within Hex j h = omega arith

-- A digit within the image.
digit_inside : (bytes : List ℕ) (len w i : ℕ) → i < len → dump_digit bytes len w i ≡ digit_at bytes len w i
unfolding dump_digit
digit_inside bytes len w i h = simp (lt-ltb i len h)

-- The digits of a byte are a run of its kind.
byte_run : (kind : ByteDigits) (bytes : List ℕ) (len i : ℕ) → run bytes len (digit_bits kind) i (digits_per_byte kind) ≡ byte_digits kind (bits_at bytes len i 8)
byte_run kind bytes len i =
    let one : (0 + 1) * digits_per_byte kind ≡ digits_per_byte kind = omega arith in
    let none : 0 * digits_per_byte kind ≡ 0 = omega arith in
    let place : i + 0 * 8 ≡ i = omega arith in
    rw (one, none, place, run_none) at (byte_next kind bytes len i 0)

-- A whole byte in digits, and the space behind it.
pub whole_byte : (kind : ByteDigits) (bytes : List ℕ) (len i : ℕ) → i + 8 ≤ len
    → dump_byte bytes len (digit_bits kind) i ≡ byte_digits kind (bits_at bytes len i 8) ++ ascii " "
unfolding dump_byte run
whole_byte kind bytes len i h =
    ap (λ (t : List ℕ). t ++ ascii " ")
    (rw (per_byte kind)
    (pieces_equal _ _ (digits_per_byte kind)
    (λ j l. ap (λ (d : ℕ). d ∷ []) (digit_inside bytes len (digit_bits kind) (i + j * digit_bits kind) (omega (arith, digit_within kind j l)))))
    ∙ byte_run kind bytes len i)

-- A byte has its digits and a space.
pub byte_length : (kind : ByteDigits) (bytes : List ℕ) (len i : ℕ) → length (dump_byte bytes len (digit_bits kind) i) ≡ digits_per_byte kind + 1
unfolding dump_byte
byte_length kind bytes len i =
    let w = digit_bits kind in
    let digits : ℕ → List ℕ = λ j. dump_digit bytes len w (i + j * w) ∷ [] in
    omega (arith, per_byte kind, length-append (pieces digits (8 / w)) (ascii " "), pieces_length digits 1 (8 / w) (λ j h. refl))
