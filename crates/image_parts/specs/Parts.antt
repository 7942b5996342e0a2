-- An image cut into parts of one width, the last one perhaps shorter: the lines of `readmemb` and `readmemh`, the chunks of Logisim
-- (document 01, modules 3 and 5).
use Rattle.std.specs.Prelude.{ℕ, ◌-◌, ◌*◌, min}

-- How many of len bits part i of width bits has.
unfoldable pub part_bits : ℕ → ℕ → ℕ → ℕ
part_bits len width i = min width (len - i * width)
