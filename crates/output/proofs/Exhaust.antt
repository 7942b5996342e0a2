-- Two functions that give the same list at each number below some number, as a byte, found by computing all.
-- Assumes nothing.
use mathlib.Core.Path.{◌≡◌, refl, ap₂}
use mathlib.Core.Bool.{Bool, true, false}
use mathlib.Core.List.{List, [], ◌∷◌}
use Prim.Native.Nat.{ℕ, zero, suc, ◌<◌}
use native.Mathlib.Omega.{arith}
use lib.Dec.{T, eqb, eqb→eq}
use Rattle.output.proofs.Order.{by_order}

abbrev pub both : Bool → Bool → Bool
both true b = b
both false b = false

both_left : (a b : Bool) → T (both a b) → T a
both_left true b t = tt
both_left false b t = t

both_right : (a b : Bool) → T (both a b) → T b
both_right true b t = t
both_right false b t = absurd t

-- whether two lists are the same
abbrev pub same : List ℕ → List ℕ → Bool
same [] [] = true
same [] (y ∷ ys) = false
same (x ∷ xs) [] = false
same (x ∷ xs) (y ∷ ys) = both (eqb x y) (same xs ys)

same_is : (xs ys : List ℕ) → T (same xs ys) → xs ≡ ys
same_is [] [] t = refl
same_is [] (y ∷ ys) t = absurd t
same_is (x ∷ xs) [] t = absurd t
same_is (x ∷ xs) (y ∷ ys) t =
    ap₂ (λ (a : ℕ) (l : List ℕ). a ∷ l) (eqb→eq x y (both_left (eqb x y) (same xs ys) t)) (same_is xs ys (both_right (eqb x y) (same xs ys) t))

-- whether a test passes at each number below n
abbrev pub all : (ℕ → Bool) → ℕ → Bool
all p zero = true
all p (suc n) = both (p n) (all p n)

all_at : (p : ℕ → Bool) (n : ℕ) → T (all p n) → (k : ℕ) → k < n → T (p k)
all_at p zero t k h = absurd (omega arith)
all_at p (suc n) t k h =
    by_order k n
    (λ l. all_at p n (both_right (p n) (all p n) t) k l)
    (λ l. let e : k ≡ n = omega arith in rw e (both_left (p n) (all p n) t))

pub exhaust : (f g : ℕ → List ℕ) (n : ℕ) → T (all (λ k. same (f k) (g k)) n) → (k : ℕ) → k < n → f k ≡ g k
exhaust f g n t k h = same_is (f k) (g k) (all_at (λ j. same (f j) (g j)) n t k h)
