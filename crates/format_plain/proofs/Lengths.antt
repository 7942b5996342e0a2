-- The lengths of the plain texts, which the exporters compute before they write.
-- Assumes nothing.
use mathlib.Core.Path.{◌≡◌, refl, ◌∙◌}
use mathlib.Core.List.{List}
use Prim.Native.Nat.{ℕ}
use native.Mathlib.Nat.{mul-one}
use lib.ListN.{length}
use Rattle.bitvec.specs.Size.{ceil_div}
use Rattle.output.proofs.Pieces.{pieces_length}
use Rattle.digits.proofs.Run.{run_length}
use Rattle.format_plain.specs.Binary.{binary_text}
use Rattle.format_plain.specs.Str.{str_text}

-- A byte for each 8 bits.
pub binary_length : (bytes : List ℕ) (len : ℕ) → length (binary_text bytes len) ≡ ceil_div len 8
unfolding binary_text
binary_length bytes len = pieces_length _ 1 (ceil_div len 8) (λ k h. refl) ∙ mul-one _

-- A character for each digit.
pub str_length : (bytes : List ℕ) (len w : ℕ) → length (str_text bytes len w) ≡ ceil_div len w
unfolding str_text
str_length bytes len w = run_length bytes len w 0 (ceil_div len w)
