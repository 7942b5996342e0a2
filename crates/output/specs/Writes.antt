-- What a writer does to the output buffer.
use Rattle.std.specs.Prelude.{◌≡◌, List, ℕ, ◌+◌, length}
use Rattle.std.proofs.lemmas.List.Edits.{sets}

-- A writer of the text t at a place: it answers the place behind the text, and the buffer has the text there and is as it was elsewhere.
pub record Writes (t : List ℕ) (before : List ℕ) (at : ℕ) (after : List ℕ) (r : ℕ) : Type 0 where
  pub next : r ≡ at + length t
  pub stored : after ≡ sets before at t
