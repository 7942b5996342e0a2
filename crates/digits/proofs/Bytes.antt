-- Laws of whole bytes in digits.
-- Assumes nothing.
use mathlib.Core.Path.{◌≡◌, refl, sym, ◌∙◌}
use mathlib.Core.List.{List, ◌++◌}
use Prim.Native.Nat.{ℕ, ◌+◌, ◌*◌, ◌<◌, ◌≤◌}
use native.Mathlib.Omega.{arith}
use lib.ListN.{length, get_or, take, drop}
use Rattle.std.proofs.lemmas.List.{get_or-take, get_or-drop}
use Rattle.bitvec.specs.Bits.{byte_at}
use Rattle.bitvec.proofs.Words.{byte_whole}
use Rattle.numbers.specs.Digits.{byte_text}
use Rattle.numbers.proofs.Digits.{digits_length}
use Rattle.digits.specs.declared.ByteDigits.{ByteDigits}
use Rattle.digits.specs.declared.ByteDigits.TheVariants.{Binary, Hex}
use Rattle.digits.specs.Bytes.{digits_per_byte, digit_bits, byte_digits}
use Rattle.digits.specs.Run.{run}
use Rattle.digits.proofs.Run.{byte_next}

pub byte_length : (kind : ByteDigits) (b : ℕ) → length (byte_digits kind b) ≡ digits_per_byte kind
unfolding byte_digits byte_text
byte_length Binary b = digits_length 1 8 b
byte_length Hex b = refl

-- A byte of a part of the image that is whole.
part_byte : (bytes : List ℕ) (len i n k : ℕ) (part : List ℕ) → part ≡ take n (drop i bytes) → k < n → (i + n) * 8 ≤ len → get_or part k 0 < 256
    → byte_at bytes len (i + k) ≡ get_or part k 0
part_byte bytes len i n k part is p h l =
    let same : get_or part k 0 ≡ get_or bytes (i + k) 0 = rw is (get_or-take n (drop i bytes) k 0 p ∙ get_or-drop i bytes k 0) in
    byte_whole bytes len (i + k) (omega (arith, p, h)) (rw same at l) ∙ sym same

-- The digits of one more of its bytes.
pub part_next : (kind : ByteDigits) (bytes : List ℕ) (len i n k : ℕ) (part : List ℕ) → part ≡ take n (drop i bytes) → k < n → (i + n) * 8 ≤ len → get_or part k 0 < 256
    → run bytes len (digit_bits kind) (i * 8) ((k + 1) * digits_per_byte kind)
    ≡ run bytes len (digit_bits kind) (i * 8) (k * digits_per_byte kind) ++ byte_digits kind (get_or part k 0)
part_next kind bytes len i n k part is p h l =
    let place : i * 8 + k * 8 ≡ (i + k) * 8 = omega arith in
    byte_next kind bytes len (i * 8) k ∙ rw (place, part_byte bytes len i n k part is p h l)
