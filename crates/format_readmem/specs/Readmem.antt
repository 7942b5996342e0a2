-- The files of Verilog's `$readmemb` and `$readmemh` (document 01, module 3; the Rust's `format_readmemb` and `format_readmemh`).
use Rattle.std.specs.Prelude.{cond, List, ◌++◌, ℕ, ◌*◌}
use Rattle.bitvec.specs.Size.{bad_size, ceil_div}
use Rattle.output.specs.Ascii.{ascii}
use Rattle.output.specs.Pieces.{pieces}
use Rattle.outcome.specs.Outcome.{Outcome, refused, outside, in_room}
use Rattle.digits.specs.Run.{line_text}
use Rattle.image_parts.specs.Parts.{part_bits}
use Rattle.digits.specs.declared.ByteDigits.{ByteDigits}
use Rattle.digits.specs.declared.ByteDigits.TheVariants.{Binary, Hex}

-- Line i with its newline, the last one perhaps shorter.
unfoldable pub line_at : ByteDigits → List ℕ → ℕ → ℕ → ℕ → List ℕ
line_at kind bytes len width i = line_text kind bytes len (i * width) (part_bits len width i) ++ ascii "\n"

-- A line for each width bits.
unfoldable pub readmem_text : ByteDigits → List ℕ → ℕ → ℕ → List ℕ
readmem_text kind bytes len width = pieces (line_at kind bytes len width) (ceil_div len width)

unfoldable pub readmem_outcome : ByteDigits → List ℕ → ℕ → ℕ → ℕ → Outcome
readmem_outcome kind bytes len width room =
    cond (bad_size bytes len) (refused 1 0)
    (cond (outside 1 4096 width) (refused 2 0)
    (in_room room (readmem_text kind bytes len width)))

abbrev pub readmemb_outcome : List ℕ → ℕ → ℕ → ℕ → Outcome
readmemb_outcome = readmem_outcome Binary

abbrev pub readmemh_outcome : List ℕ → ℕ → ℕ → ℕ → Outcome
readmemh_outcome = readmem_outcome Hex
