-- The list of an image's bytes with a separator (document 01, module 4; the Rust's `format_separator`).
use Rattle.std.specs.Prelude.{cond, ◌||◌, List, ℕ}
use Rattle.bitvec.specs.Size.{bad_size}
use Rattle.output.specs.Ascii.{ascii}
use Rattle.outcome.specs.Outcome.{Outcome, refused, too_long, in_room}
use Rattle.format_bytes.specs.Bytes.{bad_radix, byte_list}

unfoldable pub separator_text : ℕ → List ℕ → List ℕ → ℕ → List ℕ
separator_text radix separator bytes len = byte_list radix separator (λ k. ascii "\n") bytes len

unfoldable pub separator_outcome : List ℕ → ℕ → ℕ → List ℕ → ℕ → Outcome
separator_outcome bytes len radix separator room =
    cond (bad_size bytes len) (refused 1 0)
    (cond (bad_radix radix || too_long separator) (refused 2 0)
    (in_room room (separator_text radix separator bytes len)))
