-- The lengths of a line, of its parts and of the dump, and how many lines it has.
-- Assumes nothing.
use mathlib.Core.Path.{◌≡◌, refl, ap}
use mathlib.Core.List.{List, [], ◌∷◌}
use Prim.Native.Nat.{ℕ, ◌+◌, ◌-◌, ◌*◌, ◌/◌, ◌^◌, ◌≤◌, ◌<◌}
use native.Mathlib.Nat.{mul-le-mul, mul-le-mul_left, mul-le-mul_right, le-div_iff_mul-le, div-mul-le_self}
use native.Mathlib.Omega.{arith}
use lib.ListN.{length, length-append}
use borrow.Author.Tests.{lt-ltb, le-ltb}
use Rattle.output.specs.Ascii.{ascii}
use Rattle.output.specs.Pieces.{pieces, every}
use Rattle.output.proofs.Order.{by_order, stride}
use Rattle.output.proofs.Pieces.{pieces_length, pieces_room}
use Rattle.output.proofs.Joined.{joined_length, every_length, between_length}
use Rattle.numbers.specs.declared.Letters.TheVariants.{Lower}
use Rattle.numbers.specs.Digits.{digit_count, number_text, padded}
use Rattle.numbers.proofs.Digits.{number_length, padded_length, count_rises, count_small, count_some}
use Rattle.digits.specs.declared.ByteDigits.{ByteDigits}
use Rattle.digits.specs.declared.ByteDigits.TheVariants.{Binary, Hex}
use Rattle.digits.specs.Bytes.{digits_per_byte, digit_bits}
use Rattle.format_dump.specs.Dump.{dump_char, dump_byte, digit_column, char_column, dump_line, dump_lines, dump_text}
use Rattle.format_dump.proofs.Bytes.{byte_length}

-- What stands between two bytes, and the bytes of a line in digits.
abbrev pub gap : ℕ → List ℕ
gap j = every 4 j (ascii " ")

abbrev pub line_byte : List ℕ → ℕ → ℕ → ℕ → ℕ → List ℕ
line_byte bytes len w first j = dump_byte bytes len w ((first + j) * 8)

-- The length of a line whose parts are written one after another, its address no longer than the width that it is filled to: all but
-- its digits have a known one.
pub line_written : (bytes : List ℕ) (len w n width first : ℕ) → digit_count 16 first ≤ width
    → (length (dump_line bytes len w n width first) ≡ width + length (digit_column bytes len w first n) + n + 9)
    × (length (padded 48 width (number_text Lower 16 first)) ≡ width)
    × (length (char_column bytes len first n) ≡ n)
unfolding dump_line
line_written bytes len w n width first h =
    let address = padded_length 48 width (number_text Lower 16 first) in
    let number = number_length Lower 16 first in
    let chars = pieces_length (λ j. dump_char bytes len ((first + j) * 8) ∷ []) 1 n (λ j h. refl) in
    (simp length-append (omega arith), omega arith, omega arith)

-- The length of a line.
pub line_length : (bytes : List ℕ) (len : ℕ) (kind : ByteDigits) (n width first : ℕ) → digit_count 16 first ≤ width
    → length (dump_line bytes len (digit_bits kind) n width first)
    ≡ width + ((n - 1) / 4 * 1 + ((n - 1) - (n - 1) / 4) * 0) + n * (digits_per_byte kind + 2) + 9
line_length bytes len kind n width first l =
    let item = line_byte bytes len (digit_bits kind) first in
    let parts = line_written bytes len (digit_bits kind) n width first l in
    let column = joined_length gap item n in
    let gaps = between_length gap 4 1 0 n (omega arith) (λ k h. every_length 4 k (ascii " ")) in
    let items = pieces_length item (digits_per_byte kind + 1) n (λ j h. byte_length kind bytes len ((first + j) * 8)) in
    omega arith

-- Its digits, spaces and characters are at most 10 for each of 64 bytes.
pub columns_small : (kind : ByteDigits) (n : ℕ) → n ≤ 64 → n * (digits_per_byte kind + 2) ≤ 64 * 10
columns_small kind n h = mul-le-mul {n₂ = 64} {m₂ = 10} h (per_small kind)
  where
    per_small : (kind : ByteDigits) → digits_per_byte kind + 2 ≤ 10
    per_small Binary = omega arith
    per_small Hex = omega arith

-- The dump of a number of lines, their addresses filled to the digits of the last one.
pub text_lines : (bytes : List ℕ) (len w n lines address : ℕ) → lines ≡ dump_lines len n → address ≡ digit_count 16 ((lines - 1) * n)
    → dump_text bytes len w n ≡ pieces (λ k. dump_line bytes len w n address (k * n)) lines
unfolding dump_text
text_lines bytes len w n lines address e f = rw (f, e)

-- There is a line.
lines_some : (len n : ℕ) → 0 < n → 1 ≤ dump_lines len n
unfolding dump_lines
lines_some len n h =
    by_order len 8
    (λ l. simp (lt-ltb len 8 l) (omega arith))
    (λ l. simp (le-ltb len 8 l) ((le-div_iff_mul-le {k = 8 * n} (omega arith)).1 (omega arith)))

-- The lines reach past the end by at most one.
lines_reach : (len n : ℕ) → 0 < n → dump_lines len n * (8 * n) ≤ len + 8 * n
unfolding dump_lines
lines_reach len n h =
    by_order len 8
    (λ l. simp (lt-ltb len 8 l) (omega arith))
    (λ l. simp (le-ltb len 8 l) (omega (arith, div-mul-le_self (len + 8 * (n - 1)) (8 * n))))

-- What line k of it needs: its first byte is low, its address fits, and it has room.
pub line_fits : (bytes : List ℕ) (len w n lines address k : ℕ) → lines ≡ dump_lines len n → address ≡ digit_count 16 ((lines - 1) * n)
    → 0 < n → n ≤ 64 → len ≤ 16777216 → k < lines
    → (k * n < 2 ^ 32)
    × (digit_count 16 (k * n) ≤ address)
    × (length (pieces (λ k. dump_line bytes len w n address (k * n)) k) + length (dump_line bytes len w n address (k * n)) ≤ length (dump_text bytes len w n))
line_fits bytes len w n lines address k e f h m s l = (
  omega (arith, rw (← e) at (lines_reach len n h), stride k lines n l),
  rw f (count_rises 16 (omega arith) (k * n) ((lines - 1) * n) (mul-le-mul_right n (omega arith))),
  omega (arith, ap length (text_lines bytes len w n lines address e f), pieces_room (λ k. dump_line bytes len w n address (k * n)) k lines l),
)

-- Its length, by what the length of a line is promised to be.
pub text_length : (bytes : List ℕ) (len w n lines address r : ℕ) → lines ≡ dump_lines len n → address ≡ digit_count 16 ((lines - 1) * n)
    → ((b : List ℕ) (l first : ℕ) → digit_count 16 first ≤ address → length (dump_line b l w n address first) ≡ r)
    → length (dump_text bytes len w n) ≡ lines * r
text_length bytes len w n lines address r e f h =
    rw (text_lines bytes len w n lines address e f)
    (pieces_length _ r lines
    (λ k l. h bytes len (k * n) (omega (arith, f, count_rises 16 (omega arith) (k * n) ((lines - 1) * n) (mul-le-mul_right n (omega arith))))))

-- The lines are few, and so are the digits of the last address.
pub lines_few : (len n : ℕ) → 1 ≤ n → n ≤ 64 → len ≤ 16777216
    → (1 ≤ dump_lines len n)
    × (dump_lines len n ≤ 2 ^ 22)
    × ((dump_lines len n - 1) * n < 2 ^ 22)
    × (1 ≤ digit_count 16 ((dump_lines len n - 1) * n))
    × (digit_count 16 ((dump_lines len n - 1) * n) ≤ 22)
lines_few len n h m l =
    let lines = dump_lines len n in
    let last = (lines - 1) * n in
    let some : 1 ≤ lines = lines_some len n h in
    let reach : lines * n < 2 ^ 22 = omega (arith, lines_reach len n h) in
    let small : last < 2 ^ 22 = omega (arith, stride (lines - 1) lines n (omega arith)) in
    (some, omega (arith, mul-le-mul_left lines h), small, count_some 16 last (omega arith), count_small 16 (omega arith) 21 last small)
