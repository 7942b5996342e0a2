-- The two-image rule of two calls: what two exports give, together with the rule about their outcomes.
-- Assumes nothing.
use mathlib.Core.Path.{◌≡◌}
use mathlib.Core.Bool.{false}
use mathlib.Core.List.{List}
use Prim.Native.Nat.{ℕ}
use lib.ListN.{length}
use Rattle.bitvec.specs.Size.{bad_size}
use Rattle.std.specs.Prelude.{Result}
use Rattle.outcome.specs.declared.Refusal.{Refusal}
use Rattle.outcome.specs.Outcome.{Answer, answer, answer_of, left, Exports}
use Rattle.blocks.specs.Blocks.{blocks_of}
use Rattle.intelhex.specs.Hex.{hex_outcome}
use Rattle.intelhex.specs.TwoImages.{Agree, SameAnswered, SameAnswers}
use Rattle.intelhex.proofs.Conforms.{exported}
use Rattle.intelhex.proofs.Rule.{two_images, same_answered}

-- Whatever form the answers have: their numbers and values.
pub answers_rule : (b₁ : List ℕ) (n₁ : ℕ) (b₂ : List ℕ) (n₂ : ℕ) (offsets sizes : List ℕ) (unit : ℕ) (a₁ a₂ : Answer) (out₁ after₁ out₂ after₂ : List ℕ)
    → a₁ ≡ answer (hex_outcome b₁ n₁ offsets sizes unit (length out₁)) → after₁ ≡ left (hex_outcome b₁ n₁ offsets sizes unit (length out₁)) out₁
    → a₂ ≡ answer (hex_outcome b₂ n₂ offsets sizes unit (length out₂)) → after₂ ≡ left (hex_outcome b₂ n₂ offsets sizes unit (length out₂)) out₂
    → bad_size b₁ n₁ ≡ false → bad_size b₂ n₂ ≡ false → length out₁ ≡ length out₂
    → SameAnswered a₁ a₂ after₁ after₂ (Agree (blocks_of offsets sizes) b₁ n₁ b₂ n₂)
answers_rule b₁ n₁ b₂ n₂ offsets sizes unit a₁ a₂ out₁ after₁ out₂ after₂ x₁ y₁ x₂ y₂ e₁ e₂ l =
    same_answered (hex_outcome b₁ n₁ offsets sizes unit (length out₁)) (hex_outcome b₂ n₂ offsets sizes unit (length out₂)) a₁ a₂ out₁ after₁ out₂ after₂
    (Agree (blocks_of offsets sizes) b₁ n₁ b₂ n₂)
    (λ t e. (exported b₁ n₁ offsets sizes unit (length out₁) t e).2)
    (λ t e. (exported b₂ n₂ offsets sizes unit (length out₂) t e).2)
    x₁
    y₁
    x₂
    y₂
    (rw (← l) (two_images b₁ n₁ b₂ n₂ offsets sizes unit (length out₁) e₁ e₂))

pub calls_rule : (b₁ : List ℕ) (n₁ : ℕ) (b₂ : List ℕ) (n₂ : ℕ) (offsets sizes : List ℕ) (unit : ℕ) (r₁ r₂ : Result ℕ Refusal) (out₁ after₁ out₂ after₂ : List ℕ)
    → Exports (hex_outcome b₁ n₁ offsets sizes unit (length out₁)) r₁ out₁ after₁ → Exports (hex_outcome b₂ n₂ offsets sizes unit (length out₂)) r₂ out₂ after₂
    → bad_size b₁ n₁ ≡ false → bad_size b₂ n₂ ≡ false → length out₁ ≡ length out₂
    → SameAnswers r₁ r₂ after₁ after₂ (Agree (blocks_of offsets sizes) b₁ n₁ b₂ n₂)
calls_rule b₁ n₁ b₂ n₂ offsets sizes unit r₁ r₂ out₁ after₁ out₂ after₂ x₁ x₂ =
    answers_rule b₁ n₁ b₂ n₂ offsets sizes unit (answer_of r₁) (answer_of r₂) out₁ after₁ out₂ after₂ x₁.answered x₁.buffer x₂.answered x₂.buffer
