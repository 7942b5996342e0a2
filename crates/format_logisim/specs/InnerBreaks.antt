-- How many newlines the image file of Logisim has, of which its length is computed. No format is defined by it.
use Rattle.std.specs.Prelude.{cond, ℕ, zero, suc, ◌+◌, ◌*◌, ◌/◌, ◌%◌, eqb}

-- How many newlines follow the first n chunks, all of them whole.
unfoldable pub breaks : ℕ → ℕ → ℕ
breaks width zero = 0
breaks width (suc n) = breaks width n + cond (eqb ((n * width + width) / 8 % 16) 0) 1 0
