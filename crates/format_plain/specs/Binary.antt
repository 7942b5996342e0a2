-- The binary file of an image (document 01, module 2; the Rust's `format_binary`).
use Rattle.std.specs.Prelude.{Bool, false, cond, not, List, [], ◌∷◌, Result, Ok, Err, ℕ, ◌%◌, eqb}
use Rattle.bitvec.specs.Bits.{byte_at}
use Rattle.bitvec.specs.Size.{bad_size, ceil_div}
use Rattle.output.specs.Pieces.{pieces}
use Rattle.outcome.specs.declared.Refusal.{Refusal}
use Rattle.outcome.specs.Outcome.{Outcome, text, refused, in_room}
use Rattle.format_plain.specs.declared.binary.Binary.{Binary}

-- The image's bytes, the last one filled with zeros.
unfoldable pub binary_text : List ℕ → ℕ → List ℕ
binary_text bytes len = pieces (λ k. byte_at bytes len k ∷ []) (ceil_div len 8)

unfoldable pub binary_outcome : List ℕ → ℕ → ℕ → Outcome
binary_outcome bytes len room = cond (bad_size bytes len) (refused 1 0) (in_room room (binary_text bytes len))

-- Whether padding was added: where the Rust warns that the image is not aligned to 8 bits. No on a refusal.
abbrev pub padded_in : Outcome → ℕ → Bool
padded_in (text t) len = not (eqb (len % 8) 0)
padded_in (refused n v) len = false

-- What the answer tells of it: the flag that comes with a text.
abbrev pub padding_told : Result Binary Refusal → Bool
padding_told (Ok b) = b.padded
padding_told (Err r) = false
