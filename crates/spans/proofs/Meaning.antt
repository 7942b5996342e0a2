-- What the core's numbers say of a record: a present offset never reads as absent, refusal 3 is that of the records themselves, and the record of
-- numbers has these numbers.
-- Assumes nothing.
use mathlib.Core.Path.{◌≡◌, refl, sym, ap, ◌∙◌}
use mathlib.Core.Bool.{Bool, true, false}
use mathlib.Core.List.{List}
use Prim.Native.Nat.{ℕ, zero, suc, ◌+◌, ◌<◌, ◌≤◌, min}
use native.Mathlib.Omega.{arith}
use lib.Dec.{eqb, ltb}
use lib.ListN.{length, get_or}
use borrow.Author.Tests.{lt-ltb, ne_eqb, eqb-true, eqb-false}
use Rattle.std.proofs.lemmas.List.{length-map, get_or-map}
use Rattle.output.proofs.Order.{by_order}
use Rattle.bitvec.specs.Size.{max_bits}
use Rattle.output.specs.Lists.{first}
use Rattle.ordering.specs.Order.{absent, offset_from}
use Rattle.sources.specs.Sources.{no_location}
use Rattle.span_list.specs.Range.{bad_span, fault_at}
use Rattle.std.specs.Prelude.{Option, None, Some}
use Rattle.spans.specs.declared.Span.{Span}
use Rattle.spans.specs.Spans.{offset_number, start_number, end_number, location_from, offsets_of, sizes_of, ends_past}

-- The record that stands past the end of a list.
abbrev pub no_span : Span
no_span = record { offset = None; size = 0; addr = 0; file_handle = 0; location = None }

-- Only an absent offset has the number of one.
pub absent_only : (o : Option ℕ) → offset_number o ≡ absent → o ≡ None
absent_only (Some bits) e = absurd (omega (arith, e))
absent_only None e = refl

-- The core's test of one span is the record's.
bad_is : (o : Option ℕ) (size : ℕ) → bad_span (offset_number o) size ≡ ends_past o size
unfolding bad_span ends_past
bad_is (Some bits) size =
    rw (ne_eqb (min bits 4294967294) absent (λ e. omega (arith, e)))
    (by_order bits 4294967295 (λ l. ap (λ (b : ℕ). ltb max_bits (b + size)) (omega arith))
    (λ h. lt-ltb max_bits (min bits 4294967294 + size) (omega arith) ∙ sym (lt-ltb max_bits (bits + size) (omega arith))))
bad_is None size = refl

first_same : (f g : ℕ → Bool) (n : ℕ) → ((k : ℕ) → k < n → f k ≡ g k) → first f n ≡ first g n
unfolding first
first_same f g zero h = refl
first_same f g (suc n) h = rw (first_same f g n (λ k l. h k (omega arith)), h n (omega arith)) refl

-- Refusal 3 names the first record that ends past the largest image.
pub fault_is : (xs : List Span) → fault_at (offsets_of xs) (sizes_of xs) ≡ first (λ p. ends_past (get_or xs p no_span).offset (get_or xs p no_span).size) (length xs)
unfolding fault_at
fault_is xs =
    ap (first (λ p. bad_span (get_or (offsets_of xs) p 0) (get_or (sizes_of xs) p 0))) (length-map xs (λ s. offset_number s.offset))
    ∙ first_same (λ p. bad_span (get_or (offsets_of xs) p 0) (get_or (sizes_of xs) p 0)) (λ p. ends_past (get_or xs p no_span).offset (get_or xs p no_span).size) (length xs)
    (λ p l. rw (get_or-map (λ s. offset_number s.offset) xs p no_span 0 l, get_or-map (λ s. s.size) xs p no_span 0 l) (bad_is (get_or xs p no_span).offset (get_or xs p no_span).size))

-- The record of the core's numbers has these numbers; no location has its own end.
by_eqb : {P : Type 0} (a b : ℕ) → (eqb a b ≡ true → P) → (eqb a b ≡ false → P) → P
by_eqb {P = P} a b f g = go (eqb a b) refl
  where
    go : (t : Bool) → eqb a b ≡ t → P
    go true e = f e
    go false e = g e

pub offset_back : (n : ℕ) → n ≤ absent → offset_number (offset_from n) ≡ n
unfolding offset_from
offset_back n h = by_eqb n absent (λ e. rw e (sym (eqb-true n absent e))) (λ e. rw e (differs (eqb-false n absent e)))
  where
    differs : (n ≡ absent → ⊥) → min n 4294967294 ≡ n
    differs ne = by_order n absent (λ l. omega arith) (λ l. absurd (ne (omega arith)))

pub start_back : (start end : ℕ) → start_number (location_from start end) ≡ start
unfolding location_from
start_back start end = by_eqb start no_location (λ e. rw e (sym (eqb-true start no_location e))) (λ e. rw e refl)

pub end_back : (start end : ℕ) → eqb start no_location ≡ false → end_number (location_from start end) ≡ end
unfolding location_from
end_back start end e = rw e refl
