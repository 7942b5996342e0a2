-- What the pass over the spans stores. No format is defined by it.
use Rattle.std.specs.Prelude.{◌≡◌, List, map, ℕ, ◌+◌, length}
use Rattle.std.proofs.lemmas.List.Edits.{sets}
use Rattle.blocks.specs.Blocks.{Block}

-- Blocks are stored in two slices behind the first `at`, as many as these have places for, and `count` blocks are there.
pub record Stores (blocks : List Block) (at : ℕ) (offsets₀ offsets₁ sizes₀ sizes₁ : List ℕ) (count : ℕ) : Type 0 where
  pub counted : count ≡ at + length blocks
  pub offsets : offsets₁ ≡ sets offsets₀ at (map (λ b. b.offset) blocks)
  pub sizes : sizes₁ ≡ sets sizes₀ at (map (λ b. b.size) blocks)
