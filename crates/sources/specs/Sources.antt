-- The two source texts of a listing (document 01, "What an exporter is lent" and module 9; the Rust's `get_excerpt`), and refusal 6.
use Rattle.std.specs.Prelude.{Bool, cond, ◌||◌, List, ℕ, ◌-◌, eqb, ltb, length, get_or, take, drop}
use Rattle.output.specs.Lists.{first}

-- The start that says that a span has no location.
abbrev pub no_location : ℕ
no_location = 18446744073709551615

-- The text of a file: 0 is the firmware's, 1 the protocol's.
unfoldable pub source : List ℕ → List ℕ → ℕ → List ℕ
source firmware protocol file = cond (eqb file 0) firmware protocol

-- The part of a text from start to end.
unfoldable pub excerpt_of : List ℕ → List ℕ → ℕ → ℕ → ℕ → List ℕ
excerpt_of firmware protocol file start end = take (end - start) (drop start (source firmware protocol file))

-- The cause of refusal 6: a text of more than 1,048,576 bytes, or one that is not ASCII: it has a first byte of 128 or more.
unfoldable pub bad_text : List ℕ → Bool
bad_text t = ltb 1048576 (length t) || ltb (first (λ k. ltb 127 (get_or t k 0)) (length t)) (length t)
