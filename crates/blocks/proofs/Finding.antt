-- What the answer of `get_blocks` tells: that refusal 3 applies, with its place, or that the spans are good and the blocks are there.
-- Assumes nothing.
use mathlib.Core.Path.{◌≡◌, refl, sym, ap, ◌∙◌}
use mathlib.Core.Bool.{Bool, true, false, cond, ◌||◌, false≢true}
use mathlib.Core.List.{List, map}
use Prim.Native.Nat.{ℕ, ◌≤◌}
use native.Mathlib.Omega.{arith}
use lib.Dec.{ltb}
use lib.ListN.{length}
use borrow.Author.Tests.{le-ltb}
use Rattle.std.specs.Prelude.{Ok, Err}
use Rattle.outcome.specs.declared.Refusal.{Refusal}
use Rattle.outcome.specs.declared.Refusal.TheVariants.{ImageSize, OptionRange, SpanRange, EmptyImage, AddressRange, SourceText, SpanFault, NoRoom}
use Rattle.outcome.specs.Outcome.{Answer, refusal_of, answer_of, Finding, found, unfound, Finds}
use Rattle.output.proofs.Lists.{map_length}
use Rattle.span_list.specs.Range.{long_list, fault_at, spans_checked, IsCause}
use Rattle.blocks.specs.Blocks.{Block, blocks_of, blocks_found}
use Rattle.blocks.specs.InnerStores.{Stores}
use Rattle.span_list.proofs.Good.{short_list, checked_refused}
use Rattle.blocks.proofs.Running.{blocks_few}

-- A refusal's number is not 0.
refusal_some : (r : Refusal) → (refusal_of r).number ≡ 0 → ⊥
refusal_some ImageSize e = omega (arith, e)
refusal_some OptionRange e = omega (arith, e)
refusal_some (SpanRange p) e = omega (arith, e)
refusal_some EmptyImage e = omega (arith, e)
refusal_some AddressRange e = omega (arith, e)
refusal_some SourceText e = omega (arith, e)
refusal_some (SpanFault p) e = omega (arith, e)
refusal_some (NoRoom n) e = omega (arith, e)

module _ (offsets sizes offsets₀ offsets₁ sizes₀ sizes₁ : List ℕ) where
  abbrev all : List Block
  all = blocks_of offsets sizes

  abbrev cases : Bool → Bool → Bool → Finding
  cases a b c =
      cond a (unfound 3 4096)
      (cond b (unfound 3 (fault_at offsets sizes)) (cond c (unfound 8 (length all)) (found (map (λ b. b.offset) all) (map (λ b. b.size) all))))

  abbrev given : Finding
  given = blocks_found offsets sizes (length offsets₀) (length sizes₀)

  abbrev short : Bool
  short = ltb (length offsets₀) (length all) || ltb (length sizes₀) (length all)

  -- Slices with a place for each span are never too short.
  enough : (long_list offsets sizes ≡ false → (length offsets ≤ length offsets₀) × (length offsets ≤ length sizes₀)) → long_list offsets sizes ≡ false → short ≡ false
  enough h e =
      let few = blocks_few offsets sizes in
      let places = h e in
      simp (le-ltb (length offsets₀) (length all) (omega (arith, few, places.0)), le-ltb (length sizes₀) (length all) (omega (arith, few, places.1)))

  -- A refusal where the slices have a place for each span is refusal 3, which is what any other check of the spans gives.
  pub refused_found : {A : Type 0} (refuse : ℕ → ℕ → A) (good : A) (r : Refusal)
      → (long_list offsets sizes ≡ false → (length offsets ≤ length offsets₀) × (length offsets ≤ length sizes₀))
      → Finds given (Err r) offsets₀ offsets₁ sizes₀ sizes₁
      → spans_checked refuse offsets sizes good ≡ refuse (refusal_of r).number (refusal_of r).value
  unfolding blocks_found
  refused_found {A} refuse good r h f = go (long_list offsets sizes) (ltb (fault_at offsets sizes) (length offsets)) short refl (enough h) f
    where
      go : (a b c : Bool) → long_list offsets sizes ≡ a → (long_list offsets sizes ≡ false → c ≡ false) → Finds (cases a b c) (Err r) offsets₀ offsets₁ sizes₀ sizes₁
          → cond a (refuse 3 4096) (cond b (refuse 3 (fault_at offsets sizes)) good) ≡ refuse (refusal_of r).number (refusal_of r).value
      go true b c p e f = ap (λ (a : Answer). refuse a.number a.value) (sym f.answered)
      go false true c p e f = ap (λ (a : Answer). refuse a.number a.value) (sym f.answered)
      go false false true p e f = absurd (false≢true (sym (e p)))
      go false false false p e f = absurd (refusal_some r (ap (λ (a : Answer). a.number) f.answered))

  -- Refusal 3 with this place is what any other check of the spans gives, whatever the slices have places for.
  pub range_found : {A : Type 0} (refuse : ℕ → ℕ → A) (good : A) (p : ℕ) → Finds given (Err (SpanRange p)) offsets₀ offsets₁ sizes₀ sizes₁
      → spans_checked refuse offsets sizes good ≡ refuse 3 p
  unfolding blocks_found
  range_found {A} refuse good p f = go (long_list offsets sizes) (ltb (fault_at offsets sizes) (length offsets)) short f
    where
      go : (a b c : Bool) → Finds (cases a b c) (Err (SpanRange p)) offsets₀ offsets₁ sizes₀ sizes₁
          → cond a (refuse 3 4096) (cond b (refuse 3 (fault_at offsets sizes)) good) ≡ refuse 3 p
      go true b c f = ap (refuse 3) (sym (ap (λ (a : Answer). a.value) f.answered))
      go false true c f = ap (refuse 3) (sym (ap (λ (a : Answer). a.value) f.answered))
      go false false true f = absurd (omega (arith, ap (λ (a : Answer). a.number) f.answered))
      go false false false f = absurd (omega (arith, ap (λ (a : Answer). a.number) f.answered))

  -- Where blocks are found, the spans are good,
  pub good_found : {A : Type 0} (refuse : ℕ → ℕ → A) (good : A) (n : ℕ) → Finds given (Ok n) offsets₀ offsets₁ sizes₀ sizes₁
      → spans_checked refuse offsets sizes good ≡ good
  unfolding blocks_found
  good_found refuse good n f = go (long_list offsets sizes) (ltb (fault_at offsets sizes) (length offsets)) short f
    where
      go : (a b c : Bool) → Finds (cases a b c) (Ok n) offsets₀ offsets₁ sizes₀ sizes₁
          → cond a (refuse 3 4096) (cond b (refuse 3 (fault_at offsets sizes)) good) ≡ good
      go true b c f = absurd (omega (arith, ap (λ (a : Answer). a.number) f.answered))
      go false true c f = absurd (omega (arith, ap (λ (a : Answer). a.number) f.answered))
      go false false c f = refl

  -- there are at most 4,096 blocks, the slices' fronts hold them, and the list is not long.
  pub blocks_found_lem : (n : ℕ) → Finds given (Ok n) offsets₀ offsets₁ sizes₀ sizes₁
      → (n ≤ 4096) × Stores (blocks_of offsets sizes) 0 offsets₀ offsets₁ sizes₀ sizes₁ n × (long_list offsets sizes ≡ false)
  unfolding blocks_found
  blocks_found_lem n f = go (long_list offsets sizes) (ltb (fault_at offsets sizes) (length offsets)) short refl f
    where
      go : (a b c : Bool) → long_list offsets sizes ≡ a → Finds (cases a b c) (Ok n) offsets₀ offsets₁ sizes₀ sizes₁
          → (n ≤ 4096) × Stores all 0 offsets₀ offsets₁ sizes₀ sizes₁ n × (long_list offsets sizes ≡ false)
      go true b c p f = absurd (omega (arith, ap (λ (a : Answer). a.number) f.answered))
      go false true c p f = absurd (omega (arith, ap (λ (a : Answer). a.number) f.answered))
      go false false true p f = absurd (omega (arith, ap (λ (a : Answer). a.number) f.answered))
      go false false false p f =
          let many : n ≡ length all = ap (λ (a : Answer). a.value) f.answered ∙ map_length (λ b. b.offset) all in
          (omega (arith, blocks_few offsets sizes, (short_list offsets sizes p).0), record { counted = omega (arith, many); offsets = f.firsts; sizes = f.seconds }, p)

  -- What good spans give, in the terms of the code: their blocks, or refusal 8.
  pub finds_blocks : long_list offsets sizes ≡ false → fault_at offsets sizes ≡ length offsets → length (blocks_of offsets sizes) ≤ length offsets₀ → length (blocks_of offsets sizes) ≤ length sizes₀
      → (n : ℕ) → Stores (blocks_of offsets sizes) 0 offsets₀ offsets₁ sizes₀ sizes₁ n
      → Finds (blocks_found offsets sizes (length offsets₀) (length sizes₀)) (Ok n) offsets₀ offsets₁ sizes₀ sizes₁
  unfolding blocks_found
  finds_blocks e g h k n s =
      simp (e, g, le-ltb (length offsets) (length offsets) (omega arith), le-ltb (length offsets₀) (length all) h, le-ltb (length sizes₀) (length all) k)
      record { answered = ap (λ (n : ℕ). answer_of (Ok n)) (omega (arith, s.counted, map_length (λ b. b.offset) all)); firsts = s.offsets; seconds = s.sizes }

pub finds_no_room : (offsets sizes offsets₀ sizes₀ : List ℕ) → long_list offsets sizes ≡ false → fault_at offsets sizes ≡ length offsets → (n : ℕ) → n ≡ length (blocks_of offsets sizes)
    → (ltb (length offsets₀) n || ltb (length sizes₀) n) ≡ true → Finds (blocks_found offsets sizes (length offsets₀) (length sizes₀)) (Err (NoRoom n)) offsets₀ offsets₀ sizes₀ sizes₀
unfolding blocks_found
finds_no_room offsets sizes offsets₀ sizes₀ e g n m r =
    simp (e, g, le-ltb (length offsets) (length offsets) (omega arith), ← m, r)
    record { answered = refl; firsts = refl; seconds = refl }

-- Spans that are refused give no blocks.
pub finds_refused : (offsets sizes offsets₀ sizes₀ : List ℕ) (r : Refusal) → IsCause offsets sizes r → Finds (blocks_found offsets sizes (length offsets₀) (length sizes₀)) (Err r) offsets₀ offsets₀ sizes₀ sizes₀
unfolding blocks_found
finds_refused offsets sizes offsets₀ sizes₀ r c = rw (checked_refused unfound _ offsets sizes r c) record { answered = refl; firsts = refl; seconds = refl }
