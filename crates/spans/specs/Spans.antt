-- The span record as the numbers of the core (document 01, "What an exporter is lent"; the Rust's `BitVecSpan`).
use Rattle.std.specs.Prelude.{Bool, false, cond, Option, None, Some, List, map, ℕ, ◌+◌, min, eqb, ltb}
use Rattle.bitvec.specs.Size.{max_bits}
use Rattle.ordering.specs.Order.{absent}
use Rattle.sources.specs.Sources.{no_location}
use Rattle.spans.specs.declared.Location.{Location}
use Rattle.spans.specs.declared.Span.{Span}

-- A present offset is its own number, but for the one that says absent: it is too large, as the number below it is.
abbrev pub offset_number : Option ℕ → ℕ
offset_number (Some bits) = min bits 4294967294
offset_number None = absent

-- No location is the Rust's, the largest number.
abbrev pub start_number : Option Location → ℕ
start_number (Some l) = l.start
start_number None = no_location

abbrev pub end_number : Option Location → ℕ
end_number (Some l) = l.end
end_number None = no_location

-- The other way: the location that the core's numbers stand for (`offset_from`, which `ordering` has, is the offset).
unfoldable pub location_from : ℕ → ℕ → Option Location
location_from start end = cond (eqb start no_location) None (Some (record { start = start; end = end }))

-- The cause of refusal 3 in one record: a present offset plus size above 16,777,216 (proofs/Meaning: it is the core's, of these numbers).
unfoldable pub ends_past : Option ℕ → ℕ → Bool
ends_past (Some bits) size = ltb max_bits (bits + size)
ends_past None size = false

-- The numbers of a span list, read off its records.
abbrev pub offsets_of : List Span → List ℕ
offsets_of spans = map (λ s. offset_number s.offset) spans

abbrev pub sizes_of : List Span → List ℕ
sizes_of spans = map (λ s. s.size) spans

abbrev pub addrs_of : List Span → List ℕ
addrs_of spans = map (λ s. s.addr) spans

abbrev pub files_of : List Span → List ℕ
files_of spans = map (λ s. s.file_handle) spans

abbrev pub starts_of : List Span → List ℕ
starts_of spans = map (λ s. start_number s.location) spans

abbrev pub ends_of : List Span → List ℕ
ends_of spans = map (λ s. end_number s.location) spans
