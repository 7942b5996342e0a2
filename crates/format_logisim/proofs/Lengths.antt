-- The lengths of the chunks of Logisim's image, which the exporter computes before it writes.
-- Assumes nothing.
use mathlib.Core.Path.{◌≡◌, refl, ap, ◌∙◌}
use mathlib.Core.Bool.{Bool, true, false, cond}
use mathlib.Core.List.{List, ◌++◌}
use Prim.Native.Nat.{ℕ, zero, suc, ◌+◌, ◌-◌, ◌*◌, ◌/◌, ◌%◌, ◌^◌, ◌≤◌, ◌<◌, min}
use native.Mathlib.Omega.{arith}
use native.Mathlib.Numerals.{add-one}
use native.Mathlib.Nat.{zero-mul, suc-mul, add-mul, mul-le-mul, div-le_self, div-mul-le_self, div-add-mod', mod-lt}
use mir.Val.{bool_byte}
use lib.Dec.{eqb}
use lib.ListN.{length, length-append}
use Rattle.bitvec.specs.Size.{ceil_div}
use Rattle.bitvec.proofs.Size.{ceil_whole, ceil_short}
use Rattle.output.specs.Ascii.{ascii}
use Rattle.output.specs.Pieces.{pieces, every}
use Rattle.output.proofs.Pieces.{pieces_next}
use Rattle.output.proofs.Joined.{every_length}
use Rattle.image_parts.specs.Parts.{part_bits}
use Rattle.digits.specs.declared.ByteDigits.TheVariants.{Hex}
use Rattle.digits.specs.Run.{line_text}
use Rattle.digits.proofs.Run.{line_length}
use Rattle.image_parts.specs.InnerParts.{part_text, parts_text}
use Rattle.format_logisim.specs.Logisim.{chunk_text, logisim_chunk, logisim_text}
use Rattle.format_logisim.specs.InnerBreaks.{breaks}

-- The file is the first line and the parts of the image, with what stands behind each.
pub logisim_parts : (bytes : List ℕ) (len width : ℕ)
    → logisim_text bytes len width ≡ ascii "v2.0 raw\n" ++ parts_text Hex bytes len width (λ end. ascii " " ++ every 16 (end / 8) (ascii "\n")) (ceil_div len width)
unfolding logisim_text chunk_text part_text line_text
logisim_parts bytes len width = refl

-- A chunk of Logisim: a digit for each four bits, a space, and what follows it.
pub chunk_parts : (bytes : List ℕ) (len i m : ℕ)
    → length (chunk_text bytes len i m) ≡ (m + 3) / 4 + (1 + length (every 16 ((i + m) / 8) (ascii "\n")))
unfolding chunk_text
chunk_parts bytes len i m = simp (length-append, line_length) (omega arith)

-- That is a newline, or nothing.
pub chunk_length : (bytes : List ℕ) (len i m : ℕ) → length (chunk_text bytes len i m) ≡ (m + 3) / 4 + 1 + cond (eqb ((i + m) / 8 % 16) 0) 1 0
chunk_length bytes len i m = chunk_parts bytes len i m ∙ omega (arith, every_length 16 ((i + m) / 8) (ascii "\n"))

-- A truth value as a number.
pub as_number : (b : Bool) → bool_byte b ≡ cond b 1 0
as_number true = refl
as_number false = refl

pub one_most : (b : Bool) → cond b 1 0 ≤ 1
one_most true = omega arith
one_most false = omega arith

pub chunk_most : (bytes : List ℕ) (len i m : ℕ) → length (chunk_text bytes len i m) ≤ (m + 3) / 4 + 2
chunk_most bytes len i m = omega (arith, chunk_length bytes len i m, one_most (eqb ((i + m) / 8 % 16) 0))

-- One chunk more.
pub breaks_next : (width n : ℕ) → breaks width (n + 1) ≡ breaks width n + cond (eqb ((n * width + width) / 8 % 16) 0) 1 0
unfolding breaks
breaks_next width n = rw add-one

pub breaks_none : (width : ℕ) → breaks width 0 ≡ 0
unfolding breaks
breaks_none width = refl

-- No more than one follows a chunk.
pub breaks_most : (width n : ℕ) → breaks width n ≤ n
unfolding breaks
breaks_most width zero = omega arith
breaks_most width (suc n) = omega (arith, breaks_most width n, one_most (eqb ((n * width + width) / 8 % 16) 0))

-- Newlines follow the next 128 chunks where they follow the first.
breaks_more : (width n : ℕ) → breaks width (128 + n) ≡ breaks width 128 + breaks width n
breaks_more width zero =
    let none : 128 + zero ≡ 128 = omega arith in
    ap (breaks width) none ∙ omega (arith, breaks_none width)
breaks_more width (suc n) =
    let step : 128 + suc n ≡ 128 + n + 1 = omega arith in
    let more : suc n ≡ n + 1 = omega arith in
    let place : ((128 + n) * width + width) / 8 % 16 ≡ (n * width + width) / 8 % 16 = omega (arith, add-mul 128 n width) in
    ap (breaks width) step
    ∙ breaks_next width (128 + n)
    ∙ rw (place, breaks_more width n) (omega (arith, ap (breaks width) more, breaks_next width n))

pub breaks_lines : (width q r : ℕ) → breaks width (q * 128 + r) ≡ q * breaks width 128 + breaks width r
breaks_lines width zero r =
    let none : zero * 128 + r ≡ r = omega arith in
    ap (breaks width) none ∙ omega (arith, zero-mul (breaks width 128))
breaks_lines width (suc q) r =
    let more : suc q * 128 + r ≡ 128 + (q * 128 + r) = omega arith in
    ap (breaks width) more
    ∙ breaks_more width (q * 128 + r)
    ∙ rw (breaks_lines width q r) (omega (arith, suc-mul q (breaks width 128)))

-- The length of n chunks, all of them whole.
pub whole_length : (bytes : List ℕ) (len width n : ℕ) → n * width ≤ len
    → length (pieces (logisim_chunk bytes len width) n) ≡ n * ((width + 3) / 4 + 1) + breaks width n
unfolding pieces breaks part_bits
whole_length bytes len width zero h = rw zero-mul
whole_length bytes len width (suc n) h =
    let more = suc-mul n width in
    let all : min width (len - n * width) ≡ width = omega arith in
    length-append (pieces (logisim_chunk bytes len width) n) (logisim_chunk bytes len width n)
    ∙ rw (whole_length bytes len width n (omega arith), all, chunk_length bytes len (n * width) width) (omega (arith, suc-mul n ((width + 3) / 4 + 1)))

-- The chunks that the image fills are not long.
pub whole_few : (len width : ℕ) → width ≤ 4096 → len ≤ 16777216 → len / width * ((width + 3) / 4 + 1) + breaks width (len / width) < 2 ^ 39
whole_few len width h l =
    let few : len / width ≤ 16777216 = omega (arith, div-le_self len width) in
    let digits : (width + 3) / 4 + 1 ≤ 1025 = omega arith in
    omega (arith, few, breaks_most width (len / width), mul-le-mul {n₂ = 16777216} {m₂ = 1025} few digits)

-- The file, where the image fills its chunks.
pub text_whole : (bytes : List ℕ) (len width : ℕ) → 0 < width → len % width ≡ 0
    → length (logisim_text bytes len width) ≡ 9 + (len / width * ((width + 3) / 4 + 1) + breaks width (len / width))
unfolding logisim_text
text_whole bytes len width p e =
    rw (ceil_whole len width p e)
    (length-append (ascii "v2.0 raw\n") (pieces (logisim_chunk bytes len width) (len / width))
    ∙ omega (arith, whole_length bytes len width (len / width) (div-mul-le_self len width)))

-- The file, where the last one is shorter.
pub text_short : (bytes : List ℕ) (len width : ℕ) → 0 < width → (len % width ≡ 0 → ⊥)
    → length (logisim_text bytes len width)
    ≡ 9 + (len / width * ((width + 3) / 4 + 1) + breaks width (len / width)) + length (chunk_text bytes len (len - len % width) (len % width))
unfolding logisim_text part_bits
text_short bytes len width p n =
    let start : len / width * width ≡ len - len % width = omega (arith, div-add-mod' len width) in
    let short : min width (len - (len - len % width)) ≡ len % width = omega (arith, div-add-mod' len width, mod-lt len p) in
    let front = pieces (logisim_chunk bytes len width) (len / width) in
    let last = chunk_text bytes len (len - len % width) (len % width) in
    rw (ceil_short len width p (omega (arith, n)), pieces_next, start, short)
    (omega (arith, length-append (ascii "v2.0 raw\n") (front ++ last), length-append front last, whole_length bytes len width (len / width) (div-mul-le_self len width)))
