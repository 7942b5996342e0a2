-- Texts stored from the back.
-- Assumes nothing.
use mathlib.Core.Path.{◌≡◌, refl, ap, ◌∙◌}
use mathlib.Core.List.{List, [], ◌∷◌, ◌++◌}
use Prim.Native.Nat.{ℕ, suc, ◌+◌, ◌<◌}
use native.Mathlib.Omega.{arith}
use native.Mathlib.Nat.{add-zero}
use lib.ListN.{length, set, length-append}
use lib.Seq.{sets, set_comm}
use Rattle.output.specs.Writes.{Writes}

-- A store before a run can be made before it.
set_earlier : (t l : List ℕ) (i j x : ℕ) → i < j → set (sets l j t) i x ≡ sets (set l i x) j t
set_earlier [] l i j x h = refl
set_earlier (y ∷ t) l i j x h =
    set_earlier t (set l j y) i (suc j) x (omega arith) ∙ ap (λ (m : List ℕ). sets m (suc j) t) (set_comm l j i y x (omega arith))

pub sets_earlier : (a b l : List ℕ) (i : ℕ) → sets (sets l (i + length a) b) i a ≡ sets l i (a ++ b)
sets_earlier [] b l i = ap (λ (k : ℕ). sets l k b) (add-zero i)
sets_earlier (x ∷ a) b l i =
    let next : i + suc (length a) ≡ suc i + length a = omega arith in
    ap (λ (m : List ℕ). sets m (suc i) a) (set_earlier b l i (i + suc (length a)) x (omega arith))
    ∙ ap (λ (k : ℕ). sets (sets (set l i x) k b) (suc i) a) next
    ∙ sets_earlier a b (set l i x) (suc i)

-- One writer after another that wrote behind it.
pub writes_earlier : {a b l₀ l₁ l₂ : List ℕ} {at place end r : ℕ} → Writes b l₀ place l₁ end → Writes a l₁ at l₂ r → place ≡ at + length a → Writes (a ++ b) l₀ at l₂ end
writes_earlier {a} {b} {l₀} {at = at} p q e =
    record {
      next = simp length-append (omega (arith, p.next, e));
      stored = q.stored ∙ ap (λ (m : List ℕ). sets m at a) p.stored ∙ rw e (sets_earlier a b l₀ at);
    }
