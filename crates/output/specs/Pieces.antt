-- A text made of numbered pieces, one after the other, and of numbered items with a text between each two.
use Rattle.std.specs.Prelude.{cond, List, [], ◌++◌, ℕ, zero, suc, ◌%◌, eqb}

-- Piece 0, piece 1, .. piece (n - 1).
unfoldable pub pieces : (ℕ → List ℕ) → ℕ → List ℕ
pieces f zero = []
pieces f (suc n) = pieces f n ++ f n

-- What stands before item k: nothing before the first, between k before any other.
unfoldable pub leading : (ℕ → List ℕ) → ℕ → List ℕ
leading between k = cond (eqb k 0) [] (between k)

-- Item 0, item 1, .. item (n - 1), with between k before each item k but the first.
unfoldable pub joined : (ℕ → List ℕ) → (ℕ → List ℕ) → ℕ → List ℕ
joined between item n = pieces (λ k. leading between k ++ item k) n

-- The text t at each k that n divides, and nothing at any other.
unfoldable pub every : ℕ → ℕ → List ℕ → List ℕ
every n k t = cond (eqb (k % n) 0) t []
