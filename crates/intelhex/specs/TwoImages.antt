-- What demand 3 compares: the exports of two images, and the bits of the blocks (document 01, "What demand 3 compares").
use Rattle.std.specs.Prelude.{◌≡◌, ◌↔◌, ◌≢◌, false, List, ℕ, ◌+◌, ◌*◌, ◌<◌, length, take, Result}
use Rattle.bitvec.specs.Bits.{bit_at}
use Rattle.bitvec.specs.Size.{bad_size, ceil_div}
use Rattle.bitvec.specs.declared.Image.{Image}
use Rattle.outcome.specs.declared.Refusal.{Refusal}
use Rattle.outcome.specs.Outcome.{Outcome, Answer, text, refused, answer_of}
use Rattle.output.specs.Lists.{Each}
use Rattle.blocks.specs.Blocks.{Block}

-- Two images agree on every bit of every block. A block stands for the bits from its offset on, 8 times ceil(size / 8) of them; a bit at
-- or past an image's end is zero.
unfoldable pub Agree : List Block → List ℕ → ℕ → List ℕ → ℕ → Type 0
Agree blocks b₁ n₁ b₂ n₂ =
    Each (λ b. (i : ℕ) → i < 8 * ceil_div b.size 8 → bit_at b₁ n₁ (b.offset + i) ≡ bit_at b₂ n₂ (b.offset + i)) blocks

-- The same of images as they are lent, and that one passes the size check.
abbrev pub AgreeOn : List Block → Image → Image → Type 0
AgreeOn blocks a b = Agree blocks a.bytes.now a.len b.bytes.now b.len

abbrev pub Sized : Image → Type 0
Sized a = bad_size a.bytes.now a.len ≡ false

-- Two outcomes: both the same refusal, or two texts of one length that are equal exactly when A holds.
pub data Same (o₁ o₂ : Outcome) (A : Type 0) : Type 0 where
  refused_alike : (n v : ℕ) → n ≢ 0 → o₁ ≡ refused n v → o₂ ≡ refused n v → Same o₁ o₂ A
  texts : (t₁ t₂ : List ℕ) → o₁ ≡ text t₁ → o₂ ≡ text t₂ → length t₁ ≡ length t₂ → (t₁ ≡ t₂) ↔ A → Same o₁ o₂ A

-- Two answers with the buffers behind the calls: both the same refusal, its number and value, or two texts of one length n, the fronts of
-- the buffers, that are equal exactly when A holds.
pub data SameAnswered (a₁ a₂ : Answer) (out₁ out₂ : List ℕ) (A : Type 0) : Type 0 where
  refused_both : (n v : ℕ) → n ≢ 0 → a₁ ≡ record { number = n; value = v } → a₂ ≡ record { number = n; value = v }
      → SameAnswered a₁ a₂ out₁ out₂ A
  texts_both : (n : ℕ) → a₁ ≡ record { number = 0; value = n } → a₂ ≡ record { number = 0; value = n }
      → (take n out₁ ≡ take n out₂) ↔ A → SameAnswered a₁ a₂ out₁ out₂ A

-- The same of what two exports return.
abbrev pub SameAnswers : Result ℕ Refusal → Result ℕ Refusal → List ℕ → List ℕ → Type 0 → Type 0
SameAnswers r₁ r₂ = SameAnswered (answer_of r₁) (answer_of r₂)
