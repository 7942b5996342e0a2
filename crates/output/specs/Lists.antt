-- Lists by number: a list of numbered things, what holds of each thing in a list, and the first number with a fault.
use Rattle.std.specs.Prelude.{Bool, cond, List, [], ◌∷◌, ◌++◌, ℕ, zero, suc, ltb}

module _ {A : Type 0} where
  -- f 0, f 1, .. f (n - 1).
  unfoldable pub table : (ℕ → A) → ℕ → List A
  table f zero = []
  table f (suc n) = table f n ++ (f n ∷ [])

  -- P holds of each thing in a list.
  abbrev pub Each : (A → Type 0) → List A → Type 0
  Each P [] = Unit {0}
  Each P (x ∷ rest) = P x × Each P rest

-- 0, 1, .. n - 1.
abbrev pub up_to : ℕ → List ℕ
up_to n = table (λ k. k) n

-- The first number below n that has the fault, or n where none has.
unfoldable pub first : (ℕ → Bool) → ℕ → ℕ
first fault zero = 0
first fault (suc n) = cond (ltb (first fault n) n) (first fault n) (cond (fault n) n (suc n))
