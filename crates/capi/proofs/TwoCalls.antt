-- Demand 3 for callers of C: the two-image rule of two calls of `riceshoal_format_intelhex`, of what they return, store and leave.
-- Assumes nothing.
use mathlib.Core.Path.{◌≡◌, refl}
use mathlib.Core.Bool.{false}
use mathlib.Core.List.{List}
use Prim.Native.Nat.{ℕ}
use lib.ListN.{length}
use Rattle.bitvec.specs.Size.{bad_size}
use Rattle.outcome.specs.Outcome.{Outcome, answer}
use Rattle.blocks.specs.Blocks.{blocks_of}
use Rattle.intelhex.specs.Hex.{hex_outcome}
use Rattle.intelhex.specs.TwoImages.{Agree, SameAnswered}
use Rattle.intelhex.proofs.Calls.{answers_rule}
use Rattle.capi.specs.Returns.{Returns}

-- The number that is returned and the value that is stored are the outcome's answer.
answered : {o : Outcome} {r value : ℕ} {before after : List ℕ} → Returns o r value before after → record { number = r; value = value } ≡ answer o
answered p = rw (p.returned, p.stored) refl

-- Two images that pass the size check, lent with the same offsets, sizes and address unit and with rooms of one length: both calls return
-- one refusal and store one value, or both return 0 and store one length, and the fronts of the rooms, of that length, are equal exactly when
-- the images agree on every bit of every block.
pub two_calls : (b₁ : List ℕ) (n₁ : ℕ) (b₂ : List ℕ) (n₂ : ℕ) (offsets sizes : List ℕ) (unit r₁ r₂ value₁ value₂ : ℕ) (out₁ after₁ out₂ after₂ : List ℕ)
    → Returns (hex_outcome b₁ n₁ offsets sizes unit (length out₁)) r₁ value₁ out₁ after₁
    → Returns (hex_outcome b₂ n₂ offsets sizes unit (length out₂)) r₂ value₂ out₂ after₂
    → bad_size b₁ n₁ ≡ false → bad_size b₂ n₂ ≡ false → length out₁ ≡ length out₂
    → SameAnswered (record { number = r₁; value = value₁ }) (record { number = r₂; value = value₂ }) after₁ after₂ (Agree (blocks_of offsets sizes) b₁ n₁ b₂ n₂)
two_calls b₁ n₁ b₂ n₂ offsets sizes unit r₁ r₂ value₁ value₂ out₁ after₁ out₂ after₂ x₁ x₂ =
    answers_rule b₁ n₁ b₂ n₂ offsets sizes unit (record { number = r₁; value = value₁ }) (record { number = r₂; value = value₂ }) out₁ after₁ out₂ after₂
    (answered x₁)
    x₁.buffer
    (answered x₂)
    x₂.buffer
