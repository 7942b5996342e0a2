-- Parts whose digits have one width are runs of digits.
-- Assumes nothing.
use mathlib.Core.Path.{◌≡◌, refl, sym, ap, ◌∙◌}
use mathlib.Core.Bool.{Bool, true, false, cond}
use mathlib.Core.List.{List, [], ◌∷◌, ◌++◌, append-nil}
use Prim.Native.Nat.{ℕ, ◌+◌, ◌-◌, ◌*◌, ◌/◌, ◌%◌, ◌<◌, ◌≤◌, min}
use native.Mathlib.Omega.{arith}
use native.Mathlib.Nat.{zero-add, div_self, one-mul}
use lib.Dec.{eqb}
use borrow.Author.Tests.{eqb-true}
use Rattle.output.specs.Pieces.{pieces}
use Rattle.output.proofs.Order.{stride}
use Rattle.output.proofs.Pieces.{pieces_equal}
use Rattle.digits.specs.declared.ByteDigits.{ByteDigits}
use Rattle.digits.specs.declared.ByteDigits.TheVariants.{Binary, Hex}
use Rattle.digits.specs.Run.{digit_at, run, short_digit, hex_line, line_text}
use Rattle.digits.proofs.Run.{run_none}
use Rattle.image_parts.specs.Parts.{part_bits}
use Rattle.image_parts.specs.InnerParts.{part_text, Runs}

-- Each bit is a digit.
pub runs_binary : (width : ℕ) → 0 < width → width ≤ 1024 → Runs Binary width 1
unfolding line_text
runs_binary width h l =
    let all : width / 1 ≡ width = omega arith in
    (omega arith, omega arith, omega arith, omega arith, λ bytes len i. rw all)

-- Each four bits are one.
pub runs_whole : (width : ℕ) → 0 < width → width ≤ 4096 → width % 4 ≡ 0 → Runs Hex width 4
unfolding line_text hex_line short_digit
runs_whole width h l e =
    (omega arith, omega arith, omega arith, omega arith, λ bytes len i. let start : i + 0 ≡ i = omega arith in rw (e, start))

-- A short digit is a run.
short_run : (bytes : List ℕ) (len w i : ℕ) → 0 < w → short_digit bytes len w i ≡ run bytes len w i 1
unfolding short_digit run pieces
short_run bytes len w i h = go (eqb w 0) refl
  where
    go : (t : Bool) → eqb w 0 ≡ t → cond t [] (digit_at bytes len w i ∷ []) ≡ run bytes len w i 1
    go true e = absurd (omega (arith, eqb-true w 0 e))
    go false e = ap (λ (x : ℕ). digit_at bytes len w x ∷ []) (omega arith)

-- Less than four bits are one.
pub runs_short : (width : ℕ) → 0 < width → width < 4 → Runs Hex width width
unfolding line_text hex_line
runs_short width h l =
    let one : width / width ≡ 1 = div_self h in
    let short : width % 4 ≡ width = omega arith in
    let none : width / 4 ≡ 0 = omega arith in (
      h,
      omega (arith, one),
      omega (arith, one),
      rw one (one-mul width),
      λ bytes len i. rw (one, short, none, run_none bytes len 4 (i + width)) (append-nil (short_digit bytes len width i) ∙ short_run bytes len width i h),
    )

-- Such parts that the image fills.
pub whole_parts : (kind : ByteDigits) (bytes : List ℕ) (len width w : ℕ) (tail : ℕ → List ℕ) (n : ℕ) → Runs kind width w → n * width ≤ len
    → pieces (λ k. run bytes len w (0 + k * (width / w * w)) (width / w) ++ tail (k * width + width)) n ≡ pieces (part_text kind bytes len width tail) n
unfolding part_text part_bits
whole_parts kind bytes len width w tail n r h =
    pieces_equal _ _ n
    (λ k l.
    let all : min width (len - k * width) ≡ width = omega (arith, stride k n width l) in
    let place : 0 + k * (width / w * w) ≡ k * width = rw r.3 (zero-add (k * width)) in
    rw (all, place) (ap (λ (t : List ℕ). t ++ tail (k * width + width)) (sym (r.4 bytes len (k * width)))))
