-- The export of the annotated listing (document 01, module 9; the Rust's `format_annotated`): the spans that it cannot show, its refusals,
-- and its text.
use Rattle.std.specs.Prelude.{Bool, cond, not, ◌||◌, ◌&&◌, List, ℕ, eqb, ltb, length, get_or}
use Rattle.bitvec.specs.Size.{bad_size}
use Rattle.output.specs.Lists.{first}
use Rattle.outcome.specs.Outcome.{Outcome, refused, in_room}
use Rattle.ordering.specs.Order.{absent}
use Rattle.span_list.specs.Range.{spans_checked}
use Rattle.sources.specs.Sources.{no_location, source, bad_text}
use Rattle.listing.specs.declared.FormatAnnotatedOptions.{FormatAnnotatedOptions}
use Rattle.listing.specs.Listing.{bad_annotated, unequal, Spans, shown, annotated_text}

-- A file above 1, no location, a start after the end, or an end past the text.
unfoldable pub misplaced : List ℕ → List ℕ → ℕ → ℕ → ℕ → Bool
misplaced firmware protocol file start end =
    ltb 1 file || (eqb start no_location || (ltb end start || ltb (length (source firmware protocol file)) end))

-- A span that is shown has one of these faults, or its offset is absent and its size is not 0.
unfoldable pub faulty : FormatAnnotatedOptions → List ℕ → List ℕ → ℕ → ℕ → ℕ → ℕ → ℕ → Bool
faulty o firmware protocol offset size file start end =
    shown o size && (misplaced firmware protocol file start end || (eqb offset absent && not (eqb size 0)))

-- The place of the first such span as lent, or the number of spans where there is none.
unfoldable pub span_fault : FormatAnnotatedOptions → Spans → List ℕ → List ℕ → ℕ
span_fault o s firmware protocol =
    first
    (λ p. faulty o firmware protocol (get_or s.offsets p 0) (get_or s.sizes p 0) (get_or s.files p 0) (get_or s.starts p 0) (get_or s.ends p 0))
    (length s.offsets)

-- Refusals 6, 7 and 8, and the text, of spans in their range.
unfoldable pub listed_outcome : List ℕ → ℕ → FormatAnnotatedOptions → Spans → List ℕ → List ℕ → ℕ → Outcome
listed_outcome bytes len o s firmware protocol room =
    let fault = span_fault o s firmware protocol in
    cond (bad_text firmware || bad_text protocol) (refused 6 0)
    (cond (ltb fault (length s.offsets)) (refused 7 fault)
    (in_room room (annotated_text o bytes len s firmware protocol)))

unfoldable pub annotated_outcome : List ℕ → ℕ → FormatAnnotatedOptions → Spans → List ℕ → List ℕ → ℕ → Outcome
annotated_outcome bytes len o s firmware protocol room =
    cond (bad_size bytes len) (refused 1 0)
    (cond (bad_annotated o) (refused 2 0)
    (cond (unequal s) (refused 3 4096)
    (spans_checked refused s.offsets s.sizes
    (listed_outcome bytes len o s firmware protocol room))))
