-- Laws of the parts that an image is cut into, and of texts with a piece for each part.
-- Assumes nothing.
use mathlib.Core.Path.{◌≡◌, refl, ap, ◌∙◌}
use mathlib.Core.Bool.{Bool, true, false, cond}
use mathlib.Core.List.{List}
use Prim.Native.Nat.{ℕ, ◌+◌, ◌*◌, ◌/◌, ◌%◌, ◌<◌, ◌≤◌}
use native.Mathlib.Omega.{arith}
use native.Mathlib.Nat.{div-add-mod', mod-lt, le_of_mul-le-mul_right, div-mul-le_self}
use lib.Dec.{eqb}
use lib.ListN.{length, length-append}
use borrow.Author.Tests.{eqb-true, eqb-false}
use Rattle.bitvec.specs.Size.{ceil_div}
use Rattle.bitvec.proofs.Size.{ceil_whole, ceil_short, ceil_covers}
use Rattle.output.specs.Pieces.{pieces}
use Rattle.output.proofs.Order.{stride}
use Rattle.output.proofs.Pieces.{pieces_next, pieces_length}
use Rattle.image_parts.specs.Parts.{part_bits}

-- A part before the last whole one is whole.
whole : (len width i : ℕ) → 0 < width → i < len / width → part_bits len width i ≡ width
unfolding part_bits
whole len width i p h = omega (arith, stride i (len / width) width h, div-add-mod' len width)

-- The part behind the whole ones has what is left.
short : (len width : ℕ) → 0 < width → part_bits len width (len / width) ≡ len % width
unfolding part_bits
short len width p = omega (arith, div-add-mod' len width, mod-lt len p)

-- The length of a text with a piece for each part, where a piece's length goes by its number of bits.
pub parts_length : (f : ℕ → List ℕ) (g : ℕ → ℕ) (len width : ℕ) → 0 < width
    → ((i : ℕ) → length (f i) ≡ g (part_bits len width i))
    → length (pieces f (ceil_div len width)) ≡ len / width * g width + cond (eqb (len % width) 0) 0 (g (len % width))
parts_length f g len width p e = go (eqb (len % width) 0) refl
  where
    front : length (pieces f (len / width)) ≡ len / width * g width
    front = pieces_length f (g width) (len / width) (λ i h. e i ∙ ap g (whole len width i p h))

    go : (t : Bool) → eqb (len % width) 0 ≡ t
        → length (pieces f (ceil_div len width)) ≡ len / width * g width + cond t 0 (g (len % width))
    go true h = rw (ceil_whole len width p (eqb-true (len % width) 0 h)) (omega (arith, front))
    go false h =
        rw (ceil_short len width p (omega (arith, eqb-false (len % width) 0 h)), pieces_next)
        (length-append (pieces f (len / width)) (f (len / width))
        ∙ rw (front, e (len / width), short len width p))

-- The parts that the image fills are not more than all.
pub parts_most : (len width : ℕ) → 0 < width → len / width ≤ ceil_div len width
parts_most len width p = le_of_mul-le-mul_right {k = width} (omega (arith, ceil_covers len width p, div-mul-le_self len width)) p
