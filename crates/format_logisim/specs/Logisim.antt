-- The image file of Logisim (document 01, module 5; the Rust's `format_logisim`).
use Rattle.std.specs.Prelude.{cond, List, ◌++◌, ℕ, ◌+◌, ◌*◌, ◌/◌}
use Rattle.bitvec.specs.Size.{bad_size, ceil_div}
use Rattle.output.specs.Ascii.{ascii}
use Rattle.output.specs.Pieces.{pieces, every}
use Rattle.outcome.specs.Outcome.{Outcome, refused, outside, in_room}
use Rattle.digits.specs.Run.{hex_line}
use Rattle.image_parts.specs.Parts.{part_bits}

-- A chunk of m bits from bit i on, in hexadecimal with the short digit first, and a space; then a newline where (bits written / 8) mod
-- 16 is 0, so also after each chunk that ends below bit 8.
unfoldable pub chunk_text : List ℕ → ℕ → ℕ → ℕ → List ℕ
chunk_text bytes len i m = hex_line bytes len i m ++ (ascii " " ++ every 16 ((i + m) / 8) (ascii "\n"))

-- Chunk k of width bits each, the last one perhaps shorter.
abbrev pub logisim_chunk : List ℕ → ℕ → ℕ → ℕ → List ℕ
logisim_chunk bytes len width k = chunk_text bytes len (k * width) (part_bits len width k)

-- The first line, and the chunks that hold the image.
unfoldable pub logisim_text : List ℕ → ℕ → ℕ → List ℕ
logisim_text bytes len width = ascii "v2.0 raw\n" ++ pieces (logisim_chunk bytes len width) (ceil_div len width)

unfoldable pub logisim_outcome : List ℕ → ℕ → ℕ → ℕ → Outcome
logisim_outcome bytes len width room =
    cond (bad_size bytes len) (refused 1 0)
    (cond (outside 1 4096 width) (refused 2 0)
    (in_room room (logisim_text bytes len width)))
