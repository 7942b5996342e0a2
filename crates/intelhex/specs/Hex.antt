-- The Intel HEX export (document 01, module 8; the Rust's `format_intelhex`).
use Rattle.std.specs.Prelude.{cond, List, ℕ}
use Rattle.bitvec.specs.Size.{bad_size}
use Rattle.outcome.specs.Outcome.{Outcome, refused, outside, in_room}
use Rattle.span_list.specs.Range.{spans_checked}
use Rattle.blocks.specs.Blocks.{blocks_of}
use Rattle.hex_records.specs.Plan.{Chunk, hex_plan, too_high}
use Rattle.hex_records.specs.Text.{hex_text}

-- The text of a plan of records, unless an address does not fit.
unfoldable pub plan_outcome : List ℕ → ℕ → List Chunk → ℕ → Outcome
plan_outcome bytes len plan room = cond (too_high plan) (refused 5 0) (in_room room (hex_text bytes len plan))

unfoldable pub hex_outcome : List ℕ → ℕ → List ℕ → List ℕ → ℕ → ℕ → Outcome
hex_outcome bytes len offsets sizes unit room =
    cond (bad_size bytes len) (refused 1 0)
    (cond (outside 1 64 unit) (refused 2 0)
    (spans_checked refused offsets sizes
    (plan_outcome bytes len (hex_plan unit (blocks_of offsets sizes)) room)))
