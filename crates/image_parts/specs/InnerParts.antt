-- The text of an image's parts as the code has it, and how their digits are written as runs. No format is defined by it.
use Rattle.std.specs.Prelude.{◌≡◌, List, ◌++◌, ℕ, ◌+◌, ◌*◌, ◌/◌, ◌≤◌, ◌<◌}
use Rattle.output.specs.Pieces.{pieces}
use Rattle.digits.specs.declared.ByteDigits.{ByteDigits}
use Rattle.digits.specs.Run.{run, line_text}
use Rattle.image_parts.specs.Parts.{part_bits}

-- The digits of part k and what stands behind them, and the text of the first n parts.
unfoldable pub part_text : ByteDigits → List ℕ → ℕ → ℕ → (ℕ → List ℕ) → ℕ → List ℕ
part_text kind bytes len width tail k =
    line_text kind bytes len (k * width) (part_bits len width k) ++ tail (k * width + part_bits len width k)

abbrev pub parts_text : ByteDigits → List ℕ → ℕ → ℕ → (ℕ → List ℕ) → ℕ → List ℕ
parts_text kind bytes len width tail n = pieces (part_text kind bytes len width tail) n

-- A line of `width` bits is a run of at most 1,024 digits, of w bits each.
abbrev pub Runs : ByteDigits → ℕ → ℕ → Type 0
Runs kind width w =
    (0 < w)
    × (0 < width / w)
    × (width / w ≤ 1024)
    × (width / w * w ≡ width)
    × ((bytes : List ℕ) (len i : ℕ) → line_text kind bytes len i width ≡ run bytes len w i (width / w))
