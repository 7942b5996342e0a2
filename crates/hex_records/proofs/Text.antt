-- Laws of the text of records: bytes as digits, the checksum, and lengths.
-- Assumes nothing.
use Rattle.std.proofs.Common.{◌≡◌, ℕ, ◌+◌, ◌*◌, ◌/◌, ◌%◌, ◌<◌, List, [], ◌∷◌, ◌++◌, length, refl, ap, ◌∙◌, append_assoc, arith, length-append}
use mathlib.Core.List.{flat_map}
use Rattle.bitvec.specs.Bits.{bits_at}
use Rattle.bitvec.proofs.Bits.{bits_small}
use Rattle.output.specs.Ascii.{ascii}
use Rattle.numbers.specs.declared.Letters.TheVariants.{Upper}
use Rattle.numbers.specs.Digits.{byte_text}
use Rattle.output.specs.Lists.{table, Each}
use Rattle.output.proofs.Lists.{table_next, table_length, each_table}
use Rattle.hex_records.specs.Plan.{Chunk}
use Rattle.hex_records.specs.Text.{bytes_from, total, checksum, record_bytes, hex_bytes, record_text}
use Rattle.output.proofs.Flat.{flat_append, flat_one, flat_none}
use Rattle.hex_records.proofs.Sums.{total_append}

pub bytes_next : (bytes : List ℕ) (len from k : ℕ) → bytes_from bytes len from (k + 1) ≡ bytes_from bytes len from k ++ (bits_at bytes len (from + 8 * k) 8 ∷ [])
unfolding bytes_from
bytes_next bytes len from k = table_next _ k

pub bytes_none : (bytes : List ℕ) (len from : ℕ) → bytes_from bytes len from 0 ≡ []
unfolding bytes_from table
bytes_none bytes len from = refl

pub bytes_length : (bytes : List ℕ) (len from count : ℕ) → length (bytes_from bytes len from count) ≡ count
unfolding bytes_from
bytes_length bytes len from count = table_length _ count

pub bytes_small : (bytes : List ℕ) (len from count : ℕ) → Each (λ b. b < 256) (bytes_from bytes len from count)
unfolding bytes_from
bytes_small bytes len from count = each_table (λ b. b < 256) _ count (λ k h. bits_small bytes len (from + 8 * k) 8)

pub hex_append : (a b : List ℕ) → hex_bytes (a ++ b) ≡ hex_bytes a ++ hex_bytes b
unfolding hex_bytes
hex_append a b = flat_append (byte_text Upper) a b

pub hex_one : (b : ℕ) → hex_bytes (b ∷ []) ≡ byte_text Upper b
unfolding hex_bytes
hex_one b = flat_one (byte_text Upper) b

pub hex_length : (bs : List ℕ) → length (hex_bytes bs) ≡ 2 * length bs
unfolding hex_bytes flat_map byte_text
hex_length [] = refl
hex_length (b ∷ bs) = omega (arith, hex_length bs)

-- The checksum is what makes the sum 0 modulo 256.
pub checksum_is : (bs : List ℕ) (sum r : ℕ) → sum ≡ total bs % 256 → r < 256 → (r + sum) % 256 ≡ 0 → r ≡ checksum bs
unfolding checksum
checksum_is bs sum r e h z = omega (arith, e)

pub checksum_small : (bs : List ℕ) → checksum bs < 256
unfolding checksum
checksum_small bs = omega arith

-- All bytes of a record add to 0 modulo 256.
pub sums_to_zero : (bs : List ℕ) → total (bs ++ (checksum bs ∷ [])) % 256 ≡ 0
unfolding checksum total
sums_to_zero bs = rw (total_append bs (checksum bs ∷ [])) (omega arith)

-- A record's text as it is written: what stands before the data, the data, the checksum and the newline.
pub record_parts : (bytes : List ℕ) (len : ℕ) (c : Chunk) → record_text bytes len c
    ≡ (ascii ":" ++ hex_bytes (c.count ∷ c.address / 256 ∷ c.address % 256 ∷ 0 ∷ []))
    ++ (hex_bytes (bytes_from bytes len c.from c.count) ++ (byte_text Upper (checksum (record_bytes bytes len c)) ++ ascii "\n"))
unfolding record_text record_bytes
record_parts bytes len c =
    let head : List ℕ = c.count ∷ c.address / 256 ∷ c.address % 256 ∷ 0 ∷ [] in
    let content = bytes_from bytes len c.from c.count in
    let sum = checksum (record_bytes bytes len c) in
    let digits : hex_bytes (head ++ content ++ (sum ∷ [])) ≡ hex_bytes head ++ hex_bytes content ++ byte_text Upper sum =
    hex_append (head ++ content) (sum ∷ []) ∙ rw (hex_append head content, hex_one sum) in
    ap (λ (t : List ℕ). ascii ":" ++ (t ++ ascii "\n")) digits
    ∙ ap (λ (t : List ℕ). ascii ":" ++ t) (append_assoc (hex_bytes head ++ hex_bytes content) (byte_text Upper sum) (ascii "\n"))
    ∙ ap (λ (t : List ℕ). ascii ":" ++ t) (append_assoc (hex_bytes head) (hex_bytes content) (byte_text Upper sum ++ ascii "\n"))

pub record_length : (bytes : List ℕ) (len : ℕ) (c : Chunk) → length (record_text bytes len c) ≡ 12 + 2 * c.count
unfolding record_text record_bytes
record_length bytes len c =
    let bs = record_bytes bytes len c in
    let all = bs ++ (checksum bs ∷ []) in
    omega (arith, length-append (hex_bytes all) (ascii "\n"), hex_length all, length-append bs (checksum bs ∷ []), bytes_length bytes len c.from c.count)

pub hex_none : hex_bytes [] ≡ []
unfolding hex_bytes
hex_none = flat_none (byte_text Upper)
