-- Laws of a run of stores and of writers.
-- Assumes nothing.
use mathlib.Core.Path.{◌≡◌, refl, sym, ap, ◌∙◌}
use mathlib.Core.List.{List, [], ◌∷◌, ◌++◌, append_assoc}
use Prim.Native.Nat.{ℕ, suc, ◌+◌, ◌-◌, ◌<◌, ◌≤◌}
use native.Mathlib.Nat.{add-zero, add-suc, suc-add}
use native.Mathlib.Numerals.{add-one}
use native.Mathlib.Omega.{arith}
use lib.ListN.{length, set, take, drop, replicate, length-append, length-replicate}
use lib.Seq.{sets, sets-eq, length-sets, set_comm, set-set, drop-drop}
use borrow.Rule.Slice.PartMut.{put_mid}
use Rattle.output.specs.Writes.{Writes}

-- A run of stores goes on where the last one ended.
pub sets_append : (a b l : List ℕ) (i : ℕ) → sets (sets l i a) (i + length a) b ≡ sets l i (a ++ b)
sets_append [] b l i = ap (λ (k : ℕ). sets l k b) (add-zero i)
sets_append (x ∷ a) b l i =
    ap (λ (k : ℕ). sets (sets (set l i x) (suc i) a) k b) (add-suc i (length a) ∙ sym (suc-add i (length a))) ∙ sets_append a b (set l i x) (suc i)

-- A store before a run can be made after it.
set_sets : (t l : List ℕ) (i j x : ℕ) → i < j → set (sets l j t) i x ≡ sets (set l i x) j t
set_sets [] l i j x h = refl
set_sets (y ∷ t) l i j x h =
    set_sets t (set l j y) i (suc j) x (omega arith) ∙ ap (λ (m : List ℕ). sets m (suc j) t) (set_comm l j i y x (omega arith))

-- A run of stores that grows at its front.
pub sets_before : (t l : List ℕ) (i j x : ℕ) → j ≡ i + 1 → set (sets l j t) i x ≡ sets l i (x ∷ t)
sets_before t l i j x e = rw (e, add-one) (set_sets t l i (suc i) x (omega arith))

-- Nothing written.
pub writes_nothing : (l : List ℕ) (at : ℕ) → Writes [] l at l at
writes_nothing l at = record { next = omega arith; stored = refl }

-- One writer after another.
pub writes_then : {a b l₀ l₁ l₂ : List ℕ} {at at₁ at₂ : ℕ} → Writes a l₀ at l₁ at₁ → Writes b l₁ at₁ l₂ at₂ → Writes (a ++ b) l₀ at l₂ at₂
writes_then {a} {b} {l₀} {at = at} p q =
    record {
      next = simp length-append (omega (arith, p.next, q.next));
      stored = q.stored ∙ rw (p.next, p.stored) (sets_append a b l₀ at);
    }

-- A writer leaves the buffer's length.
pub writes_length : {t l₀ l₁ : List ℕ} {at r : ℕ} → Writes t l₀ at l₁ r → length l₁ ≡ length l₀
writes_length p = ap length p.stored ∙ simp length-sets

-- A writer leaves room for the text behind its own.
pub room_then : {t l₀ l₁ : List ℕ} {at r : ℕ} (u : List ℕ) → Writes t l₀ at l₁ r → at + length (t ++ u) ≤ length l₀ → r + length u ≤ length l₁
room_then {t} u w h = omega (arith, w.next, writes_length w, length-append t u)

-- A store at a place within a run of stores, made again: the last one counts.
set_over : (a l : List ℕ) (i x y : ℕ) → set (sets (set l i x) (suc i) a) i y ≡ sets (set l i y) (suc i) a
set_over a l i x y = set_sets a (set l i x) i (suc i) y (omega arith) ∙ ap (λ (m : List ℕ). sets m (suc i) a) (set-set l i x y)

-- A run of stores over another that is not longer.
sets_over : (a b l : List ℕ) (i : ℕ) → length a ≤ length b → sets (sets l i a) i b ≡ sets l i b
sets_over [] b l i h = refl
sets_over (x ∷ a) [] l i h = absurd (omega arith)
sets_over (x ∷ a) (y ∷ b) l i h = ap (λ (m : List ℕ). sets m (suc i) b) (set_over a l i x y) ∙ sets_over a b (set l i y) (suc i) (omega arith)

-- The end of a text that is written over by one that is not shorter.
pub writes_over : {l₀ l₁ l₂ : List ℕ} {at r s : ℕ} (t a b : List ℕ) → length a ≤ length b → Writes (t ++ a) l₀ at l₁ r → Writes b l₁ (r - length a) l₂ s → Writes (t ++ b) l₀ at l₂ s
writes_over {l₀} {at = at} {r = r} t a b h p q =
    let place : r - length a ≡ at + length t = omega (arith, p.next, length-append t a) in
    record {
      next = omega (arith, q.next, place, length-append t b);
      stored = q.stored ∙ rw (place, p.stored, ← sets_append t a l₀ at) (sets_over a b (sets l₀ at t) (at + length t) h ∙ sets_append t b l₀ at);
    }

-- A part of the buffer that is filled at once.
pub part_filled : (t l : List ℕ) (at k : ℕ) (ys : List ℕ) → ys ≡ t → k ≡ length t → at + length t ≤ length l → put_mid at k l ys ≡ sets l at t
part_filled t l at k ys e h room = rw (e, h, drop-drop (length t) at l, ← append_assoc (take at l) t (drop (at + length t) l)) (sym (sets-eq t l at room))

-- A part that is filled with one byte.
pub part_same : (l : List ℕ) (at n x : ℕ) → at + n ≤ length l → put_mid at n l (replicate n x) ≡ sets l at (replicate n x)
part_same l at n x room = part_filled (replicate n x) l at n (replicate n x) refl (sym (length-replicate n x)) (omega (arith, length-replicate n x))
