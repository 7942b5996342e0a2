-- Laws of the offsets that lent numbers say: none for an absent one, and its own number for each other.
-- Assumes nothing.
use mathlib.Core.Path.{◌≡◌, refl, sym, ap, subst}
use mathlib.Core.Bool.{Bool, true, false, cond}
use mathlib.Core.Logic.{◌≢◌}
use Prim.Native.Nat.{ℕ}
use lib.Dec.{eqb}
use borrow.Author.Tests.{eqb-true, eqb-false}
use Rattle.std.specs.Option.{unwrap_or, MatchOption}
use Rattle.std.specs.Prelude.{Option, None, Some}
use Rattle.ordering.specs.Order.{absent, offset_from}

-- It was lent by its number.
pub offset_lent : (n : ℕ) → unwrap_or (offset_from n) absent ≡ n
unfolding offset_from
offset_lent n = go (eqb n absent) refl
  where
    go : (b : Bool) → eqb n absent ≡ b → unwrap_or (cond b None (Some n)) absent ≡ n
    go true e = sym (eqb-true n absent e)
    go false e = refl

-- The number of one that is there, and of none.
pub offset_some : (n m : ℕ) → offset_from n ≡ Some m → (n ≡ m) × (n ≢ absent)
unfolding offset_from
offset_some n m = go (eqb n absent) refl
  where
    go : (b : Bool) → eqb n absent ≡ b → cond b None (Some n) ≡ Some m → (n ≡ m) × (n ≢ absent)
    go true f e = absurd (subst (λ (o : Option ℕ). MatchOption o (Unit {0}) (λ _. ⊥)) e tt)
    go false f e = (ap (λ (o : Option ℕ). unwrap_or o 0) e, eqb-false n absent f)

pub offset_none : (n : ℕ) → offset_from n ≡ None → n ≡ absent
unfolding offset_from
offset_none n = go (eqb n absent) refl
  where
    go : (b : Bool) → eqb n absent ≡ b → cond b None (Some n) ≡ None → n ≡ absent
    go true f e = eqb-true n absent f
    go false f e = absurd (subst (λ (o : Option ℕ). MatchOption o ⊥ (λ _. Unit {0})) e tt)

-- One that is there has not the number of an absent one.
pub offset_there : (n m : ℕ) → offset_from n ≡ Some m → m ≢ absent
offset_there n m e = let there = offset_some n m e in rw there.0 at there.1
