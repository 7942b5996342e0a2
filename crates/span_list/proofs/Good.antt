-- Laws of a span list that is in its range.
-- Assumes nothing.
use mathlib.Core.Path.{◌≡◌, refl, sym, ◌∙◌}
use mathlib.Core.Bool.{Bool, true, false, not, ◌||◌, ◌&&◌, false≢true}
use mathlib.Core.List.{List}
use mathlib.Core.Logic.{◌≢◌}
use Prim.Native.Nat.{ℕ, ◌+◌, ◌≤◌, ◌<◌}
use native.Mathlib.Omega.{arith}
use lib.Dec.{eqb, ltb}
use lib.ListN.{length, get_or}
use borrow.Author.Tests.{lt-ltb, le-ltb, ltb-false, eqb-true, ne_eqb}
use Rattle.std.specs.Prelude.{Option, Some, None, MatchOption, MatchBool}
use Rattle.std.specs.List.{zip, AllWithin, HoldsAt}
use Rattle.std.proofs.lemmas.Slice.Zip.{length-zip, get_or-zip}
use Rattle.bitvec.specs.Size.{max_bits}
use Rattle.outcome.specs.declared.Refusal.{Refusal}
use Rattle.outcome.specs.declared.Refusal.TheVariants.{SpanRange}
use Rattle.outcome.specs.Outcome.{refusal_of}
use Rattle.ordering.specs.Order.{absent}
use Rattle.output.proofs.Lists.{first_all, first_at, first_none}
use Rattle.span_list.specs.Range.{long_list, bad_span, fault_at, spans_checked, IsCause}

-- A good span that has an offset ends within the largest image.
pub good_span : (offsets sizes : List ℕ) → fault_at offsets sizes ≡ length offsets → (p : ℕ) → p < length offsets → get_or offsets p 0 ≢ absent
    → get_or offsets p 0 + get_or sizes p 0 ≤ max_bits
unfolding fault_at bad_span
good_span offsets sizes e p h n =
    ltb-false max_bits (get_or offsets p 0 + get_or sizes p 0)
    (sym (simp (ne_eqb _ _ n)) ∙ first_none (λ p. not (eqb (get_or offsets p 0) absent) && ltb max_bits (get_or offsets p 0 + get_or sizes p 0)) (length offsets) e p h)

-- A list that is not long has at most 4,096 spans, and slices of one length.
pub short_list : (offsets sizes : List ℕ) → long_list offsets sizes ≡ false → (length offsets ≤ 4096) × (length offsets ≡ length sizes)
unfolding long_list
short_list offsets sizes e = go (ltb 4096 (length offsets)) (eqb (length offsets) (length sizes)) refl refl e
  where
    go : (a b : Bool) → ltb 4096 (length offsets) ≡ a → eqb (length offsets) (length sizes) ≡ b → (a || not b) ≡ false
        → (length offsets ≤ 4096) × (length offsets ≡ length sizes)
    go true b p q e = absurd (false≢true (sym e))
    go false true p q e = (ltb-false _ _ p, eqb-true _ _ q)
    go false false p q e = absurd (false≢true (sym e))

-- What a list of spans is checked to: its refusal, with the number and the value of it, and what follows where there is none.
module _ {A : Type 0} (refuse : ℕ → ℕ → A) (good : A) (offsets sizes : List ℕ) where
  pub checked_refused : (r : Refusal) → IsCause offsets sizes r → spans_checked refuse offsets sizes good ≡ refuse (refusal_of r).number (refusal_of r).value
  checked_refused r c = go (long_list offsets sizes) refl c
    where
      go : (t : Bool) → long_list offsets sizes ≡ t → MatchBool t (r ≡ SpanRange 4096) ((fault_at offsets sizes < length offsets) × (r ≡ SpanRange (fault_at offsets sizes)))
          → spans_checked refuse offsets sizes good ≡ refuse (refusal_of r).number (refusal_of r).value
      go true e c = rw c (simp e)
      go false e c = rw c.1 (simp (e, lt-ltb (fault_at offsets sizes) (length offsets) c.0))

  pub checked_good : long_list offsets sizes ≡ false → fault_at offsets sizes ≡ length offsets → spans_checked refuse offsets sizes good ≡ good
  checked_good e g = simp (e, g, le-ltb (length offsets) (length offsets) (omega arith))

-- The first pair of an offset and a size that is bad, or none, is the first bad span.
pub fault_found : (offsets sizes : List ℕ) → length sizes ≡ length offsets → (r : Option ℕ)
    → MatchOption r
    (AllWithin (λ p. bad_span p.0 p.1 ≡ false) (zip offsets sizes) 0 (length (zip offsets sizes)))
    (λ i. (i < length (zip offsets sizes)) × HoldsAt (λ p. bad_span p.0 p.1 ≡ true) (zip offsets sizes) i × AllWithin (λ p. bad_span p.0 p.1 ≡ false) (zip offsets sizes) 0 i)
    → MatchOption r (fault_at offsets sizes ≡ length offsets) (λ p. (p < length offsets) × (p ≡ fault_at offsets sizes))
unfolding fault_at
fault_found offsets sizes e r h = go r h
  where
    Bad : ℕ × ℕ → Bool → Type 0
    Bad p t = bad_span p.0 p.1 ≡ t

    at : (t : Bool) (k : ℕ) → k < length offsets → Bad (get_or (zip offsets sizes) k (0, 0)) t → bad_span (get_or offsets k 0) (get_or sizes k 0) ≡ t
    at t k l b = rw (get_or-zip offsets sizes k (0, 0) l (omega (arith, e))) at b

    go : (r : Option ℕ) → MatchOption r (AllWithin (λ p. Bad p false) (zip offsets sizes) 0 (length (zip offsets sizes)))
        (λ i. (i < length (zip offsets sizes)) × HoldsAt (λ p. Bad p true) (zip offsets sizes) i × AllWithin (λ p. Bad p false) (zip offsets sizes) 0 i)
        → MatchOption r (fault_at offsets sizes ≡ length offsets) (λ p. (p < length offsets) × (p ≡ fault_at offsets sizes))
    go None h = first_all _ (length offsets) (λ k l. at false k l (h k (0, 0) (omega arith) (omega (arith, e, length-zip offsets sizes))))
    go (Some i) h =
        let here : i < length offsets = omega (arith, h.0, length-zip offsets sizes) in
        (here, sym (first_at _ (length offsets) i here (λ k l. at false k (omega arith) (h.2 k (0, 0) (omega arith) l)) (at true i here (h.1 (0, 0)))))
