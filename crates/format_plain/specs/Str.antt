-- The digits of an image (document 01, module 2; the Rust's `format_str`, `format_binstr` and `format_hexstr`).
use Rattle.std.specs.Prelude.{cond, List, ℕ}
use Rattle.bitvec.specs.Size.{bad_size, ceil_div}
use Rattle.outcome.specs.Outcome.{Outcome, refused, outside, in_room}
use Rattle.digits.specs.Run.{run}

-- Digits of w bits each, the last one filled with zeros.
unfoldable pub str_text : List ℕ → ℕ → ℕ → List ℕ
str_text bytes len w = run bytes len w 0 (ceil_div len w)

unfoldable pub str_outcome : List ℕ → ℕ → ℕ → ℕ → Outcome
str_outcome bytes len w room =
    cond (bad_size bytes len) (refused 1 0)
    (cond (outside 1 5 w) (refused 2 0)
    (in_room room (str_text bytes len w)))
