-- The lengths of the list, the array and their parts, which the exporters compute before they write.
-- Assumes nothing.
use mathlib.Core.Path.{◌≡◌, refl, ◌∙◌}
use mathlib.Core.Bool.{Bool, true, false, cond}
use mathlib.Core.List.{List, ◌++◌}
use Prim.Native.Nat.{ℕ, ◌+◌, ◌-◌, ◌*◌, ◌/◌, ◌%◌, ◌≤◌, ◌<◌, max}
use native.Mathlib.Omega.{arith}
use lib.Dec.{eqb}
use lib.ListN.{length, length-append}
use borrow.Author.Tests.{ne_eqb}
use Rattle.bitvec.specs.Bits.{byte_at}
use Rattle.bitvec.specs.Size.{ceil_div}
use Rattle.bitvec.proofs.Size.{ceil_most}
use Rattle.output.specs.Ascii.{ascii}
use Rattle.output.specs.Pieces.{pieces, every}
use Rattle.output.proofs.Joined.{joined_length, between_length, every_length}
use Rattle.numbers.specs.declared.Letters.TheVariants.{Lower}
use Rattle.numbers.specs.Digits.{byte_text, digit_count}
use Rattle.numbers.proofs.Digits.{count_rises, count_small, number_length, padded_length}
use Rattle.numbers.proofs.Decimal.{count_three}
use Rattle.format_bytes.specs.Bytes.{byte_in, byte_list}
use Rattle.format_bytes.specs.CArray.{address_comment, address_width, c_array_text}

-- A byte in radix 10 has its digits.
pub decimal_length : (b : ℕ) → length (byte_in 10 b) ≡ digit_count 10 b
unfolding byte_in
decimal_length b = number_length Lower 10 b

-- These are at most three.
pub decimal_small : (b : ℕ) → b < 256 → digit_count 10 b ≤ 3
decimal_small b h = omega (arith, count_rises 10 (omega arith) b 255 (omega arith), count_three 255 (omega arith) (omega arith))

-- A byte in radix 16 has four characters.
pub hex_length : (b : ℕ) → length (byte_in 16 b) ≡ 4
unfolding byte_in byte_text
hex_length b = refl

-- The list: its bytes and what stands between them, where all lines start with texts of one length.
pub list_length : (radix : ℕ) (s : List ℕ) (line : ℕ → List ℕ) (bytes : List ℕ) (len start : ℕ)
    → ((k : ℕ) → k < ceil_div len 8 → length (line k) ≡ start)
    → (let n = ceil_div len 8 in
    length (byte_list radix s line bytes len)
    ≡ ((n - 1) / 16 * (length s + start) + ((n - 1) - (n - 1) / 16) * length s) + length (pieces (λ k. byte_in radix (byte_at bytes len k)) n))
unfolding byte_list
list_length radix s line bytes len start e =
    joined_length (λ k. s ++ every 16 k (line k)) (λ k. byte_in radix (byte_at bytes len k)) (ceil_div len 8)
    ∙ rw (between_length (λ k. s ++ every 16 k (line k)) 16 (length s + start) (length s) (ceil_div len 8) (omega arith) one)
  where
    add : (b : Bool) (l : ℕ) → length s + cond b l 0 ≡ cond b (length s + l) (length s)
    add true l = refl
    add false l = omega arith

    one : (k : ℕ) → k < ceil_div len 8 → length (s ++ every 16 k (line k)) ≡ cond (eqb (k % 16) 0) (length s + start) (length s)
    one k h = length-append s (every 16 k (line k)) ∙ rw (every_length 16 k (line k), e k h) (add (eqb (k % 16) 0) start)

-- The comment: its address, and ten characters.
pub comment_length : (width k : ℕ) → length (address_comment width k) ≡ max width (digit_count 16 k) + 10
unfolding address_comment
comment_length width k = simp (length-append, padded_length, number_length) (omega arith)

-- No address is longer than the last one.
pub address_length : (len k : ℕ) → k ≤ ceil_div len 8 - 1 → length (address_comment (address_width len) k) ≡ address_width len + 10
address_length len k h =
    comment_length (address_width len) k ∙ omega (arith, count_rises 16 (omega arith) k (ceil_div len 8 - 1) h)

-- It has few digits.
pub width_few : (len : ℕ) → len ≤ 16777216 → address_width len ≤ 32
width_few len h = count_small 16 (omega arith) 31 (ceil_div len 8 - 1) (omega (arith, ceil_most len 8 (omega arith)))

-- The array of C: the list, the first comment, and the words around them.
pub c_array_parts : (radix : ℕ) (bytes : List ℕ) (len : ℕ)
    → length (c_array_text radix bytes len)
    ≡ length (byte_list radix (ascii ", ") (λ k. ascii "\n" ++ address_comment (address_width len) k) bytes len) + length (address_comment (address_width len) 0) + 34
unfolding c_array_text
c_array_parts radix bytes len = simp length-append (omega arith)
