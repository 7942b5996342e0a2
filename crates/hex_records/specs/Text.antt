-- The text of the records of an Intel HEX file (document 01, module 8; the Rust's `format_intelhex`).
use Rattle.std.specs.Prelude.{ℕ, ◌+◌, ◌-◌, ◌*◌, ◌/◌, ◌%◌, List, [], ◌∷◌, ◌++◌}
use mathlib.Core.List.{flat_map}
use Rattle.bitvec.specs.Bits.{bits_at}
use Rattle.output.specs.Ascii.{ascii}
use Rattle.numbers.specs.declared.Letters.TheVariants.{Upper}
use Rattle.numbers.specs.Digits.{byte_text}
use Rattle.output.specs.Lists.{table}
use Rattle.hex_records.specs.Plan.{Chunk}

-- The bytes of an image from a bit offset on.
unfoldable pub bytes_from : List ℕ → ℕ → ℕ → ℕ → List ℕ
bytes_from bytes len from count = table (λ k. bits_at bytes len (from + 8 * k) 8) count

-- The sum of numbers.
unfoldable pub total : List ℕ → ℕ
total [] = 0
total (b ∷ rest) = b + total rest

-- The checksum byte: with it all bytes of a record add to 0 modulo 256.
unfoldable pub checksum : List ℕ → ℕ
checksum bs = (256 - total bs % 256) % 256

-- The bytes of a data record: how many data bytes it has, its address in two bytes, its type, and the data.
unfoldable pub record_bytes : List ℕ → ℕ → Chunk → List ℕ
record_bytes bytes len c = c.count ∷ c.address / 256 ∷ c.address % 256 ∷ 0 ∷ bytes_from bytes len c.from c.count

-- Each byte as two digits.
unfoldable pub hex_bytes : List ℕ → List ℕ
hex_bytes bs = flat_map (byte_text Upper) bs

-- A record on its line: a colon, its bytes and the checksum.
unfoldable pub record_text : List ℕ → ℕ → Chunk → List ℕ
record_text bytes len c =
    let bs = record_bytes bytes len c in
    ascii ":" ++ (hex_bytes (bs ++ (checksum bs ∷ [])) ++ ascii "\n")

-- A line for each record of a plan, and the end record, with no newline.
unfoldable pub hex_text : List ℕ → ℕ → List Chunk → List ℕ
hex_text bytes len plan = flat_map (record_text bytes len) plan ++ ascii ":00000001FF"
