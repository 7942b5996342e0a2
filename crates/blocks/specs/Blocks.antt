-- The blocks of a span list (document 01, module 7; the Rust's `get_blocks`).
use Rattle.std.specs.Prelude.{cond, ◌||◌, List, [], ◌∷◌, map, ℕ, ◌+◌, eqb, ltb, length, get_or}
use Rattle.outcome.specs.Outcome.{Finding, found, unfound}
use Rattle.ordering.specs.Order.{absent, in_order}
use Rattle.span_list.specs.Range.{spans_checked}

-- Document 01's block: so many bits from an offset on. A span with an offset is one too.
pub record Block : Type 0 where
  pub offset : ℕ
  pub size : ℕ

-- The spans at the given places, those with an absent offset left out.
unfoldable pub present : List ℕ → List ℕ → List ℕ → List Block
present offsets sizes [] = []
present offsets sizes (p ∷ rest) =
    let others = present offsets sizes rest in
    cond (eqb (get_or offsets p 0) absent) others (record { offset = get_or offsets p 0; size = get_or sizes p 0 } ∷ others)

-- A closed block before the others. It is dropped if its size is 0.
unfoldable pub closed : ℕ → ℕ → List Block → List Block
closed origin size others = cond (eqb size 0) others (record { offset = origin; size = size } ∷ others)

-- The blocks from a running block on. A span joins it exactly when its offset equals the block's end; otherwise the block is closed and the
-- span opens the next. The last block is closed after the last span.
unfoldable pub running : ℕ → ℕ → List Block → List Block
running origin size [] = closed origin size []
running origin size (s ∷ rest) =
    cond (eqb s.offset (origin + size))
    (running origin (size + s.size) rest)
    (closed origin size (running s.offset s.size rest))

-- The first span opens a block with its own offset and size.
unfoldable pub blocks_in : List Block → List Block
blocks_in [] = []
blocks_in (s ∷ rest) = running s.offset s.size rest

-- The blocks of the lent spans.
unfoldable pub blocks_of : List ℕ → List ℕ → List Block
blocks_of offsets sizes = blocks_in (present offsets sizes (in_order offsets))

-- What `get_blocks` gives: the offsets and the sizes of the blocks, or a refusal. It is refusal 8 with the number of blocks where one of the slices is too
-- short for them.
unfoldable pub blocks_found : List ℕ → List ℕ → ℕ → ℕ → Finding
blocks_found offsets sizes room room₂ =
    let blocks = blocks_of offsets sizes in
    let n = length blocks in
    spans_checked unfound offsets sizes
    (cond (ltb room n || ltb room₂ n) (unfound 8 n) (found (map (λ b. b.offset) blocks) (map (λ b. b.size) blocks)))
