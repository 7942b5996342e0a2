-- The range of a span list: refusal 3 of Intel HEX and of the listing (document 01, "When an export is refused").
use Rattle.std.specs.Prelude.{◌≡◌, Bool, cond, not, ◌||◌, ◌&&◌, List, ℕ, ◌+◌, ◌<◌, eqb, ltb, length, get_or, MatchBool}
use Rattle.outcome.specs.declared.Refusal.{Refusal}
use Rattle.outcome.specs.declared.Refusal.TheVariants.{SpanRange}
use Rattle.bitvec.specs.Size.{max_bits}
use Rattle.output.specs.Lists.{first}
use Rattle.ordering.specs.Order.{absent}

-- The causes of refusal 3: over 4,096 spans, or slices of unequal length; and, after these, a present offset plus size above 16,777,216.
unfoldable pub long_list : List ℕ → List ℕ → Bool
long_list offsets sizes = ltb 4096 (length offsets) || not (eqb (length offsets) (length sizes))

unfoldable pub bad_span : ℕ → ℕ → Bool
bad_span offset size = not (eqb offset absent) && ltb max_bits (offset + size)

-- The place of the first bad span as lent, or their number where there is none.
unfoldable pub fault_at : List ℕ → List ℕ → ℕ
fault_at offsets sizes = first (λ p. bad_span (get_or offsets p 0) (get_or sizes p 0)) (length offsets)

-- Refusal 3 with its place, or what follows where the spans are good.
abbrev pub spans_checked : {A : Type 0} → (ℕ → ℕ → A) → List ℕ → List ℕ → A → A
spans_checked refuse offsets sizes good =
    cond (long_list offsets sizes) (refuse 3 4096)
    (cond (ltb (fault_at offsets sizes) (length offsets)) (refuse 3 (fault_at offsets sizes)) good)

-- The refusal of spans that are not good: its place is 4,096 where the list is long, and else that of the first bad span.
abbrev pub IsCause : List ℕ → List ℕ → Refusal → Type 0
IsCause offsets sizes r =
    MatchBool (long_list offsets sizes)
    (r ≡ SpanRange 4096)
    ((fault_at offsets sizes < length offsets) × (r ≡ SpanRange (fault_at offsets sizes)))
