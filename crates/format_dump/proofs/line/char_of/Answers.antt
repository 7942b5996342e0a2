-- `format_dump::line::char_of` meets its contract: a test for the one or the other is two choices.
-- Assumes nothing.
use mathlib.Core.Path.{◌≡◌, refl}
use mathlib.Core.Bool.{Bool, true, false, cond, ◌||◌}
use Prim.Native.Nat.{ℕ}
use Rattle.format_dump.specs.Dump.{char_of}
use Rattle.format_dump.proofs.line.char_of.Goals as goal

-- one of two tests
either : (s t : Bool) (x y : ℕ) → cond (s || t) x y ≡ cond s x (cond t x y)
either true t x y = refl
either false t x y = refl

pub returns : goal.returns
unfolding char_of
returns c =
    rw (
      c.choose.ensures,
      c.choose-shown-6.ensures,
      c.choose-shown-5.ensures,
      c.choose-shown-4.ensures,
      c.choose-shown-3.ensures,
      c.choose-shown-2.ensures,
      c.choose-shown.ensures,
    )
    (simp either)
