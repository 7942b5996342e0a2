-- Laws of the locations that lent numbers say.
-- Assumes nothing.
use mathlib.Core.Path.{◌≡◌, refl, sym, ap, subst}
use mathlib.Core.Bool.{Bool, true, false, cond}
use mathlib.Core.Logic.{◌≢◌}
use Prim.Native.Nat.{ℕ}
use lib.Dec.{eqb}
use borrow.Author.Tests.{eqb-true, eqb-false}
use Rattle.std.specs.Option.{unwrap_or, MatchOption}
use Rattle.std.specs.Prelude.{Option, None, Some}
use Rattle.sources.specs.Sources.{no_location}
use Rattle.listing.specs.declared.Location.{Location}
use Rattle.listing.specs.Listing.{location_from}

-- The numbers of one that is there, and the start of none.
pub record Said (file start end : ℕ) (l : Location) : Type 0 where
  pub place : l ≡ record { file = file; start = start; end = end }
  pub there : start ≢ no_location

pub location_some : (file start end : ℕ) (l : Location) → location_from file start end ≡ Some l → Said file start end l
unfolding location_from
location_some file start end l = go (eqb start no_location) refl
  where
    go : (b : Bool) → eqb start no_location ≡ b → cond {A = Option Location} b None (Some (record { file = file; start = start; end = end })) ≡ Some l → Said file start end l
    go true f e = absurd (subst (λ (o : Option Location). MatchOption o (Unit {0}) (λ _. ⊥)) e tt)
    go false f e = record { place = ap (λ (o : Option Location). unwrap_or o l) (sym e); there = eqb-false start no_location f }

pub location_none : (file start end : ℕ) → location_from file start end ≡ None → start ≡ no_location
unfolding location_from
location_none file start end = go (eqb start no_location) refl
  where
    go : (b : Bool) → eqb start no_location ≡ b → cond {A = Option Location} b None (Some (record { file = file; start = start; end = end })) ≡ None → start ≡ no_location
    go true f e = eqb-true start no_location f
    go false f e = absurd (subst (λ (o : Option Location). MatchOption o ⊥ (λ _. Unit {0})) e tt)
