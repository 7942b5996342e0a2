-- `format_logisim::whole_length` meets its contract: the newlines of each 128 chunks are counted once, and nothing wraps.
-- Assumes nothing.
use mathlib.Core.Path.{◌≡◌}
use Prim.Native.Nat.{ℕ, ◌+◌, ◌*◌, ◌/◌, ◌%◌, ◌≤◌}
use native.Mathlib.Nat.{mul-le-mul, div-le_self}
use native.Mathlib.Omega.{arith}
use Rattle.bitvec.specs.Size.{ceil_div}
use Rattle.format_logisim.proofs.Lengths.{breaks_lines}
use Rattle.format_logisim.proofs.whole_length.Goals as goal

-- at most so many digits, chunks and lines
digits_few : (width : ℕ) → width ≤ 4096 → ceil_div width 4 + 1 ≤ 1025
unfolding ceil_div
digits_few width h = omega arith

chunks_few : (len width : ℕ) → width ≤ 4096 → len ≤ 16777216 → len / width * (ceil_div width 4 + 1) ≤ 16777216 * 1025
chunks_few len width h l = mul-le-mul {n₂ = 16777216} {m₂ = 1025} (omega (arith, div-le_self len width)) (digits_few width h)

pub overflow_add-result : goal.overflow_add-result
overflow_add-result c = omega (arith, c.parts-digits.ensures, digits_few c.args.parts.width c.args.parts.in_range.1)

pub overflow_mul-result : goal.overflow_mul-result
overflow_mul-result c =
    let p = c.args.parts in
    rw c.parts-digits.ensures (omega (arith, chunks_few p.good.image.len p.width p.in_range.1 p.good.few))

pub overflow_add-result-3 : goal.overflow_add-result-3
overflow_add-result-3 c =
    let p = c.args.parts in
    let lines_small : p.good.image.len / p.width / 128 * c.breaks.result ≤ 131072 * 128 =
    mul-le-mul {n₂ = 131072} {m₂ = 128} (omega (arith, div-le_self p.good.image.len p.width, p.good.few)) c.breaks.ensures.1 in
    rw c.parts-digits.ensures (omega (arith, lines_small, chunks_few p.good.image.len p.width p.in_range.1 p.good.few, c.breaks-2.ensures.1))

pub returns : goal.returns
unfolding ceil_div
returns c =
    let p = c.args.parts in
    let count = p.good.image.len / p.width in
    let all : count / 128 * 128 + count % 128 ≡ count = omega arith in
    rw (c.parts-digits.ensures, c.breaks.ensures.0, c.breaks-2.ensures.0)
    (omega (arith, rw all at (breaks_lines p.width (count / 128) (count % 128))))
