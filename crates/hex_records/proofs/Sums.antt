-- Laws of sums.
-- Assumes nothing.
use Rattle.std.proofs.Common.{◌≡◌, ℕ, ◌+◌, List, [], ◌∷◌, ◌++◌, arith}
use Rattle.hex_records.specs.Text.{total}

pub total_append : (a b : List ℕ) → total (a ++ b) ≡ total a + total b
unfolding total
total_append [] b = omega arith
total_append (x ∷ a) b = omega (arith, total_append a b)
