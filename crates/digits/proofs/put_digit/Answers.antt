-- `digits::put_digit` meets its contract: the digit that is read is the digit that is written.
-- Assumes nothing.
use native.Mathlib.Omega.{arith}
use Rattle.bitvec.proofs.Bits.{bits_below}
use Rattle.digits.specs.Run.{digit_at}
use Rattle.digits.proofs.put_digit.Goals as goal

pub digit_char-requires : goal.digit_char-requires
digit_char-requires c =
    let a = c.args in
    omega (arith, c.read_bits-digit.ensures, bits_below a.image.bytes.now a.image.len a.from.0 a.width.bits 5 a.width.few)

pub returns : goal.returns
unfolding digit_at
returns c =
    rw (← c.read_bits-digit.ensures, ← c.digit_char.ensures) c.put.ensures
