-- Laws of blocks: how the pass goes on from a running block, how many blocks there are, and what a good span is.
-- Assumes nothing.
use mathlib.Core.Path.{◌≡◌, refl, ◌∙◌}
use mathlib.Core.Bool.{Bool, true, false, cond}
use mathlib.Core.Logic.{◌≢◌}
use mathlib.Core.List.{List, [], ◌∷◌, ◌++◌}
use Prim.Native.Nat.{ℕ, ◌+◌, ◌≤◌}
use native.Mathlib.Nat.{zero-add}
use native.Mathlib.Omega.{arith}
use lib.Dec.{eqb}
use lib.ListN.{length, get_or, length-append}
use borrow.Author.Tests.{eq-eqb, ne_eqb, eqb-true}
use Rattle.output.proofs.Order.{by_order}
use Rattle.ordering.specs.Order.{absent, in_order}
use Rattle.ordering.proofs.Keys.{in_order_length}
use Rattle.blocks.specs.Blocks.{Block, present, closed, running, blocks_in, blocks_of}

-- A span with an absent offset is left out, any other stands before the rest.
pub present_absent : (offsets sizes : List ℕ) (p : ℕ) (rest : List ℕ) → get_or offsets p 0 ≡ absent → present offsets sizes (p ∷ rest) ≡ present offsets sizes rest
unfolding present
present_absent offsets sizes p rest e = simp (eq-eqb _ _ e)

pub present_next : (offsets sizes : List ℕ) (p : ℕ) (rest : List ℕ) → get_or offsets p 0 ≢ absent
    → present offsets sizes (p ∷ rest) ≡ record { offset = get_or offsets p 0; size = get_or sizes p 0 } ∷ present offsets sizes rest
unfolding present
present_next offsets sizes p rest e = simp (ne_eqb _ _ e)

pub present_none : (offsets sizes : List ℕ) → present offsets sizes [] ≡ []
unfolding present
present_none offsets sizes = refl

-- A closed block before others.
pub closed_before : (origin size : ℕ) (others : List Block) → closed origin size others ≡ closed origin size [] ++ others
unfolding closed
closed_before origin size others = go (eqb size 0)
  where
    block : Block
    block = record { offset = origin; size = size }

    go : (t : Bool) → cond t others (block ∷ others) ≡ cond t [] (block ∷ []) ++ others
    go true = refl
    go false = refl

closed_few : (origin size : ℕ) → length (closed origin size []) ≤ 1
unfolding closed
closed_few origin size = go (eqb size 0)
  where
    block : Block
    block = record { offset = origin; size = size }

    go : (t : Bool) → length {A = Block} (cond t [] (block ∷ [])) ≤ 1
    go true = omega arith
    go false = omega arith

-- A span joins the running block, or closes it and opens the next.
pub running_joins : (origin size : ℕ) (s : Block) (rest : List Block) → s.offset ≡ origin + size → running origin size (s ∷ rest) ≡ running origin (size + s.size) rest
unfolding running
running_joins origin size s rest e = simp (eq-eqb _ _ e)

pub running_closes : (origin size : ℕ) (s : Block) (rest : List Block) → s.offset ≢ origin + size
    → running origin size (s ∷ rest) ≡ closed origin size [] ++ running s.offset s.size rest
unfolding running
running_closes origin size s rest e = (simp (ne_eqb _ _ e)) ∙ closed_before origin size (running s.offset s.size rest)

pub running_last : (origin size : ℕ) → running origin size [] ≡ closed origin size []
unfolding running
running_last origin size = refl

-- Before the first span a block of size 0 at offset 0 may be running.
pub running_first : (spans : List Block) → blocks_in spans ≡ running 0 0 spans
unfolding blocks_in running closed
running_first [] = refl
running_first (s ∷ rest) = go (eqb s.offset 0) refl
  where
    go : (t : Bool) → eqb s.offset 0 ≡ t
        → running s.offset s.size rest ≡ cond t (running 0 (0 + s.size) rest) (cond (eqb 0 0) (running s.offset s.size rest) (record { offset = 0; size = 0 } ∷ running s.offset s.size rest))
    go true e = rw (eqb-true s.offset 0 e, zero-add s.size)
    go false e = refl

running_few : (origin size : ℕ) (spans : List Block) → length (running origin size spans) ≤ length spans + 1
running_few origin size [] = rw (running_last origin size) (omega (arith, closed_few origin size))
running_few origin size (s ∷ rest) =
    by_order s.offset (origin + size)
    (λ l. closes (running_few s.offset s.size rest) (λ e. omega arith))
    (λ l. by_order (origin + size) s.offset
    (λ m. closes (running_few s.offset s.size rest) (λ e. omega arith))
    (λ m. rw (running_joins origin size s rest (omega arith)) (omega (arith, running_few origin (size + s.size) rest))))
  where
    closes : length (running s.offset s.size rest) ≤ length rest + 1 → s.offset ≢ origin + size → length (running origin size (s ∷ rest)) ≤ length (s ∷ rest) + 1
    closes h n =
        rw (running_closes origin size s rest n)
        (omega (arith, length-append (closed origin size []) (running s.offset s.size rest), closed_few origin size))

in_few : (spans : List Block) → length (blocks_in spans) ≤ length spans
unfolding blocks_in
in_few [] = omega arith
in_few (s ∷ rest) = omega (arith, running_few s.offset s.size rest)

present_few : (offsets sizes places : List ℕ) → length (present offsets sizes places) ≤ length places
unfolding present
present_few offsets sizes [] = omega arith
present_few offsets sizes (p ∷ rest) = go (eqb (get_or offsets p 0) absent) (present_few offsets sizes rest)
  where
    block : Block
    block = record { offset = get_or offsets p 0; size = get_or sizes p 0 }

    others : List Block
    others = present offsets sizes rest

    go : (t : Bool) → length others ≤ length rest → length {A = Block} (cond t others (block ∷ others)) ≤ length (p ∷ rest)
    go true h = omega arith
    go false h = omega arith

-- There are no more blocks than spans.
pub blocks_few : (offsets sizes : List ℕ) → length (blocks_of offsets sizes) ≤ length offsets
unfolding blocks_of
blocks_few offsets sizes =
    omega (arith, in_few (present offsets sizes (in_order offsets)), present_few offsets sizes (in_order offsets), in_order_length offsets)
