-- Laws of spans that can be shown.
-- Assumes nothing.
use mathlib.Core.Path.{◌≡◌, refl, sym, subst}
use mathlib.Core.Bool.{Bool, true, false, cond, not, ◌&&◌, ◌||◌}
use mathlib.Core.List.{List}
use mathlib.Mathlib.Data.Bool.Basic.{or-eq-false-eq-eq-false-and-eq-false}
use mathlib.Core.Logic.{◌≢◌}
use Prim.Native.Nat.{ℕ, ◌-◌, ◌≤◌, ◌<◌}
use native.Mathlib.Omega.{arith}
use lib.Dec.{eqb, ltb}
use lib.ListN.{length, get_or, drop, length-take, length-drop}
use borrow.Author.Tests.{eq-eqb, ne_eqb}
use Rattle.std.specs.Option.{MatchOption, is_some}
use Rattle.std.specs.Prelude.{Option, None, Some}
use Rattle.ordering.specs.Order.{absent, offset_from}
use Rattle.output.proofs.Lists.{first_none}
use Rattle.sources.specs.Sources.{source, excerpt_of, no_location}
use Rattle.listing.specs.declared.FormatAnnotatedOptions.{FormatAnnotatedOptions}
use Rattle.listing.specs.Listing.{Spans, shown}
use Rattle.annotated.specs.Annotated.{misplaced, faulty, span_fault}

-- What is not the case where the first of two things is.
and_left : (a b : Bool) → a && b ≡ false → a ≡ true → b ≡ false
and_left a b e h = rw h at e

-- The location of a span that is shown and has no fault is that of a text.
pub placed : (o : FormatAnnotatedOptions) (firmware protocol : List ℕ) (offset size file start end : ℕ)
    → faulty o firmware protocol offset size file start end ≡ false → shown o size ≡ true
    → misplaced firmware protocol file start end ≡ false
unfolding faulty
placed o firmware protocol offset size file start end e h =
    ((or-eq-false-eq-eq-false-and-eq-false (misplaced firmware protocol file start end) _).0 (and_left (shown o size) _ e h)).0

-- No location is that of a text, and one that is there has three causes left.
pub misplaced_none : (firmware protocol : List ℕ) (file start end : ℕ) → start ≡ no_location → misplaced firmware protocol file start end ≡ true
unfolding misplaced
misplaced_none firmware protocol file start end e = rw (eq-eqb start no_location e) (go (ltb 1 file))
  where
    go : (b : Bool) → b || true ≡ true
    go true = refl
    go false = refl

pub misplaced_there : (firmware protocol : List ℕ) (file start end : ℕ) → start ≢ no_location
    → misplaced firmware protocol file start end ≡ (ltb 1 file || (ltb end start || ltb (length (source firmware protocol file)) end))
unfolding misplaced
misplaced_there firmware protocol file start end h = rw (ne_eqb start no_location h) refl

pub differ : true ≡ false → ⊥
differ e = subst (λ (b : Bool). cond b (Unit {0}) ⊥) e tt

-- What is told of a value that is there where a test is false is told of none where it is true.
pub none_is : {X : Type 0} (Q : X → Type 0) (o : Option X) (r m : Bool) → is_some o ≡ not r → MatchOption o (m ≡ true) (λ t. (m ≡ false) × Q t) → r ≡ m
none_is Q None true m e h = sym h
none_is Q None false m e h = absurd (differ (sym e))
none_is Q (Some x) true m e h = absurd (differ e)
none_is Q (Some x) false m e h = sym h.0

pub offset_is : (n : ℕ) (o : Option ℕ) (r : Bool) → is_some o ≡ not r → o ≡ offset_from n → r ≡ eqb n absent
unfolding offset_from
offset_is n o r e f = go (eqb n absent) r (rw f at e)
  where
    go : (b r : Bool) → is_some (cond {A = Option ℕ} b None (Some n)) ≡ not r → r ≡ b
    go true true h = refl
    go true false h = absurd (differ (sym h))
    go false true h = absurd (differ h)
    go false false h = refl

-- Where no span has a fault, the span at a place has none.
pub sound_at : (o : FormatAnnotatedOptions) (s : Spans) (firmware protocol : List ℕ) → span_fault o s firmware protocol ≡ length s.offsets → (p : ℕ) → p < length s.offsets
    → faulty o firmware protocol (get_or s.offsets p 0) (get_or s.sizes p 0) (get_or s.files p 0) (get_or s.starts p 0) (get_or s.ends p 0) ≡ false
unfolding span_fault
sound_at o s firmware protocol e p h = first_none _ (length s.offsets) e p h

-- An excerpt is short where both texts are.
pub excerpt_short : (firmware protocol : List ℕ) (file start end most : ℕ) → length firmware ≤ most → length protocol ≤ most
    → length (excerpt_of firmware protocol file start end) ≤ most
unfolding source excerpt_of
excerpt_short firmware protocol file start end most f p =
    omega (arith, go (eqb file 0), length-take (end - start) (drop start (source firmware protocol file)), length-drop start (source firmware protocol file))
  where
    go : (b : Bool) → length (cond b firmware protocol) ≤ most
    go true = f
    go false = p
