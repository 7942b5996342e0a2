-- The whole bytes of an image are its text as they stand.
-- Assumes nothing.
use mathlib.Core.Path.{◌≡◌, refl, ap, ◌∙◌}
use mathlib.Core.List.{List, [], ◌∷◌, ◌++◌}
use Prim.Native.Nat.{ℕ, zero, suc, ◌+◌, ◌*◌, ◌/◌, ◌≤◌, ◌<◌}
use native.Mathlib.Omega.{arith}
use lib.ListN.{length, take, get_or}
use lib.Seq.{take-suc, take-length}
use borrow.Author.Tests.{lt-ltb}
use Rattle.std.proofs.lemmas.List.{get_or-take, length-take-le}
use Rattle.bitvec.specs.Bits.{bit_at, byte_at}
use Rattle.bitvec.proofs.Bits.{bits_same}
use Rattle.bitvec.proofs.Words.{byte_whole}
use Rattle.output.specs.Pieces.{pieces}
use Rattle.output.proofs.Pieces.{pieces_equal}

-- Bytes that are all within the bit length.
taken : (bytes : List ℕ) (len n : ℕ) → n * 8 ≤ len → n ≤ length bytes → ((k : ℕ) → k < n → get_or bytes k 0 < 256)
    → pieces (λ k. byte_at bytes len k ∷ []) n ≡ take n bytes
unfolding pieces
taken bytes len zero h l small = refl
taken bytes len (suc n) h l small =
    rw (take-suc bytes n 0 (omega arith), byte_whole bytes len n (omega arith) (small n (omega arith)))
    (ap (λ (t : List ℕ). t ++ (get_or bytes n 0 ∷ [])) (taken bytes len n (omega arith) (omega arith) (λ k p. small k (omega arith))))

-- All bytes of a slice.
pub all_bytes : (bytes : List ℕ) → ((k : ℕ) → get_or bytes k 0 < 256)
    → pieces (λ k. byte_at bytes (8 * length bytes) k ∷ []) (length bytes) ≡ bytes
all_bytes bytes small = taken bytes (8 * length bytes) (length bytes) (omega arith) (omega arith) (λ k p. small k) ∙ take-length bytes

-- The first bytes of an image as a slice.
bit_first : (bytes : List ℕ) (len n i : ℕ) → n * 8 ≤ len → i < n * 8 → bit_at (take n bytes) (8 * n) i ≡ bit_at bytes len i
unfolding bit_at
bit_first bytes len n i h l = simp (lt-ltb i (8 * n) (omega arith), lt-ltb i len (omega arith), get_or-take n bytes (i / 8) 0 (omega arith))

pub first_bytes : (bytes : List ℕ) (len n : ℕ) → n * 8 ≤ len → n ≤ length bytes
    → pieces (λ k. byte_at (take n bytes) (8 * length (take n bytes)) k ∷ []) (length (take n bytes)) ≡ pieces (λ k. byte_at bytes len k ∷ []) n
first_bytes bytes len n h l =
    rw (length-take-le n bytes l)
    (pieces_equal _ _ n (λ k p. ap (λ (b : ℕ). b ∷ []) ((bits_same (take n bytes) (8 * n) bytes len (k * 8) 8).1 (λ j q. bit_first bytes len n (k * 8 + j) h (omega arith)))))
