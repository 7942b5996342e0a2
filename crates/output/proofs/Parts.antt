-- Laws of a text that is written at the start of an array, or by two stores.
-- Assumes nothing.
use mathlib.Core.Path.{◌≡◌, ap, ◌∙◌}
use mathlib.Core.List.{List, ◌++◌, append-nil}
use Prim.Native.Nat.{ℕ, ◌+◌, ◌-◌, ◌≤◌}
use native.Mathlib.Omega.{arith}
use native.Mathlib.Nat.{zero-add}
use lib.ListN.{length, take, drop, length-drop, drop_of_length-le, take-append-drop}
use lib.Seq.{sets, sets-eq, length-take-le, take-add}
use Rattle.output.specs.Writes.{Writes}
use Rattle.output.proofs.Writes.{writes_over}

-- A text that is written as its first and its last m characters, which may overlap.
pub writes_twice : {l₀ l₁ l₂ : List ℕ} {at r₁ r₂ : ℕ} (s : List ℕ) (m : ℕ) → m ≤ length s → length s ≤ m + m
    → Writes (take m s) l₀ at l₁ r₁ → Writes (drop (length s - m) s) l₁ (at + (length s - m)) l₂ r₂
    → Writes s l₀ at l₂ r₂
writes_twice {at = at} {r₁ = r₁} s m h l p q =
    let n = length s in
    let last = drop (n - m) s in
    let again = take (m + m - n) last in
    let last_length : length last ≡ m = omega (arith, length-drop (n - m) s) in
    let again-length : length again ≡ m + m - n = length-take-le (m + m - n) last (omega (arith, last_length)) in
    let front_again : n - m + (m + m - n) ≡ m = omega arith in
    let first : take m s ≡ take (n - m) s ++ again = rw front_again at (take-add (n - m) (m + m - n) s) in
    let place : at + (n - m) ≡ r₁ - length again = omega (arith, p.next, length-take-le m s h, again-length) in
    rw (take-append-drop (n - m) s) at (writes_over (take (n - m) s) again last (omega (arith, again-length, last_length)) (rw first at p) (rw place at q))

-- A text that is written at the start of another.
pub front : (l t : List ℕ) → length t ≤ length l → sets l 0 t ≡ t ++ drop (length t) l
front l t h = sets-eq t l 0 (omega arith) ∙ ap (λ (n : ℕ). t ++ drop n l) (zero-add (length t))

-- A text that is written over all of another.
whole : (l t : List ℕ) → length t ≡ length l → sets l 0 t ≡ t
whole l t e = front l t (omega arith) ∙ ap (λ (u : List ℕ). t ++ u) (drop_of_length-le l {i = length t} (omega arith)) ∙ append-nil t

-- A text that is written into an array of its length and from there again.
pub writes_copied : {s l₀ l₁ out₀ out₁ : List ℕ} {at r₁ r₂ : ℕ} → length s ≡ length l₀ → Writes s l₀ 0 l₁ r₁ → Writes l₁ out₀ at out₁ r₂ → Writes s out₀ at out₁ r₂
writes_copied {s} {l₀} e p q = rw (p.stored ∙ whole l₀ s e) at q
