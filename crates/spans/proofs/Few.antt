-- The first 4,097 records tell the core all that it looks at: a list that was cut is too long, and is refused as the whole list is.
-- Assumes nothing.
use mathlib.Core.Path.{◌≡◌, refl, sym, ap, ◌∙◌}
use mathlib.Core.Bool.{true}
use mathlib.Core.List.{List, map}
use Prim.Native.Nat.{ℕ, ◌<◌, min}
use native.Mathlib.Nat.{zero-add}
use native.Mathlib.Omega.{arith}
use lib.ListN.{length, take, replicate, length-take}
use lib.Seq.{paste, take_all, take-take}
use borrow.Author.Tests.{lt-ltb}
use Rattle.std.proofs.lemmas.List.{length-map, take-map}
use Rattle.std.proofs.lemmas.List.Edits.{take-paste}
use Rattle.output.proofs.Order.{by_order}
use Rattle.span_list.specs.Range.{long_list, spans_checked}
use Rattle.spans.specs.declared.Span.{Span}
use Rattle.spans.specs.InnerCopies.{copied_column}
use Rattle.spans.specs.Spans.{offset_number, offsets_of, sizes_of}

-- As many of a list as it has are all of it.
take_most : {A : Type 0} (l : List A) (k : ℕ) → take (min (length l) k) l ≡ take k l
take_most l k = sym (take-take (min (length l) k) k l (omega arith)) ∙ take_all (min (length l) k) (take k l) (omega (arith, length-take k l))

-- The front of a column is the numbers of the first 4,097 records.
pub front : (w : Span → ℕ) (xs : List Span) {n : ℕ} {numbers : List ℕ} → n ≡ min (length xs) 4097 → numbers ≡ copied_column xs (map w xs) → take n numbers ≡ map w (take 4097 xs)
unfolding copied_column
front w xs e f =
    let n = min (length xs) 4097 in
    rw (e, f)
    (ap (λ (k : ℕ). take k (paste (replicate 4097 0) 0 (map w xs) n)) (sym (zero-add n))
    ∙ take-paste (replicate 4097 0) 0 (map w xs) n (omega arith) (omega (arith, length-map xs w))
    ∙ take-map w n xs
    ∙ ap (map w) (take_most xs 4097))

-- A list of over 4,096 spans is long.
long : (xs : List Span) → 4096 < length xs → long_list (offsets_of xs) (sizes_of xs) ≡ true
unfolding long_list
long xs l = rw (length-map xs (λ s. offset_number s.offset), lt-ltb 4096 (length xs) l) refl

-- What is told of spans in their range is told of the first 4,097.
pub checked_few : {A : Type 0} (refuse : ℕ → ℕ → A) (good : List Span → A) (xs : List Span)
    → spans_checked refuse (offsets_of (take 4097 xs)) (sizes_of (take 4097 xs)) (good (take 4097 xs)) ≡ spans_checked refuse (offsets_of xs) (sizes_of xs) (good xs)
checked_few refuse good xs =
    by_order 4097 (length xs)
    (λ l. rw (long (take 4097 xs) (omega (arith, length-take 4097 xs)), long xs (omega arith)) refl)
    (λ l. rw (take_all 4097 xs l) refl)
