-- The size of an image (document 01, refusal 1, and module 1; the Rust's `len`).
use Rattle.std.specs.Prelude.{Bool, ◌||◌, List, ℕ, ◌+◌, ◌-◌, ◌*◌, ◌/◌, ltb, length}

-- The largest image has 16,777,216 bits.
abbrev pub max_bits : ℕ
max_bits = 16777216

-- The cause of refusal 1: a bit length above the largest, or above 8 times the image bytes.
unfoldable pub bad_size : List ℕ → ℕ → Bool
bad_size bytes len = ltb max_bits len || ltb (8 * length bytes) len

-- n / d, rounded up: how many parts of d make n, the last one perhaps shorter.
unfoldable pub ceil_div : ℕ → ℕ → ℕ
ceil_div n d = (n + (d - 1)) / d
