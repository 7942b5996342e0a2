-- Laws of a byte in decimal: how many digits it has, and which.
-- Assumes nothing.
use mathlib.Core.Path.{◌≡◌}
use mathlib.Core.List.{List, [], ◌∷◌}
use Prim.Native.Nat.{ℕ, suc, ◌+◌, ◌/◌, ◌%◌, ◌-◌, ◌≤◌, ◌<◌}
use native.Mathlib.Numerals.{add-one}
use native.Mathlib.Omega.{arith}
use native.Mathlib.Nat.{add-zero, mod-eq_of_lt}
use lib.Dec.{ltb}
use lib.ListN.{set}
use lib.Seq.{sets, set-set}
use borrow.Author.Tests.{lt-ltb, le-ltb}
use Rattle.std.specs.Int.{from_bool}
use Rattle.output.proofs.Order.{by_order}
use Rattle.numbers.specs.declared.Letters.TheVariants.{Lower}
use Rattle.numbers.specs.Digits.{digit_char, digit_count, number_text}
use Rattle.numbers.proofs.Digits.{count_last, count_more, number_last, number_more}

pub count_two : (b : ℕ) → 10 ≤ b → b < 100 → digit_count 10 b ≡ 2
count_two b p q = omega (arith, count_more 10 b (omega arith) p, count_last 10 (b / 10) (omega arith))

pub count_three : (b : ℕ) → 100 ≤ b → b < 1000 → digit_count 10 b ≡ 3
count_three b p q = omega (arith, count_more 10 b (omega arith) (omega arith), count_two (b / 10) (omega arith) (omega arith))

number_two : (b : ℕ) → 10 ≤ b → b < 100 → number_text Lower 10 b ≡ digit_char Lower (b / 10 % 10) ∷ digit_char Lower (b % 10) ∷ []
number_two b p q =
    let tens : b / 10 % 10 ≡ b / 10 = omega arith in
    rw (number_more Lower 10 b (omega arith) p, number_last Lower 10 (b / 10) (omega arith), tens)

number_three : (b : ℕ) → 100 ≤ b → b < 1000 → number_text Lower 10 b ≡ digit_char Lower (b / 100) ∷ digit_char Lower (b / 10 % 10) ∷ digit_char Lower (b % 10) ∷ []
number_three b p q =
    let hundreds : b / 10 / 10 ≡ b / 100 = omega arith in
    rw (number_more Lower 10 b (omega arith) (omega arith), number_more Lower 10 (b / 10) (omega arith) (omega arith), number_last Lower 10 (b / 10 / 10) (omega arith), hundreds)

-- Three stores, each of which may take the place of the one before, leave the number.
pub three_stored : (l : List ℕ) (at b : ℕ) → b < 1000
    → (let n = digit_count 10 b in
    set (set (set l at (digit_char Lower (b / 100))) (at + (n - 2)) (digit_char Lower (b / 10 % 10))) (at + (n - 1)) (digit_char Lower (b % 10)) ≡ sets l at (number_text Lower 10 b))
three_stored l at b h =
    by_order b 10
    (λ p. rw (count_last 10 b p, number_last Lower 10 b p, mod-eq_of_lt p, add-zero at, set-set (set l at (digit_char Lower (b / 100))), set-set l))
    (λ p.
    by_order b 100
    (λ q. rw (count_two b p q, number_two b p q, add-zero at, set-set, add-one at))
    (λ q.
    let third : at + 2 ≡ suc (suc at) = omega arith in
    rw (count_three b q h, number_three b q h, add-one at, third)))

-- Where the tens and the ones are: a place further for each digit before them.
pub tens_place : (b : ℕ) → b < 1000 → from_bool (ltb 99 b) ≡ digit_count 10 b - 2
tens_place b h =
    by_order b 100
    (λ p.
    simp (le-ltb 99 b (omega arith))
    (by_order b 10 (λ q. omega (arith, count_last 10 b q)) (λ q. omega (arith, count_two b q p))))
    (λ p. simp (lt-ltb 99 b (omega arith)) (omega (arith, count_three b p h)))

pub ones_place : (b : ℕ) → b < 1000 → from_bool (ltb 99 b) + from_bool (ltb 9 b) ≡ digit_count 10 b - 1
ones_place b h =
    by_order b 10
    (λ p. simp (le-ltb 99 b (omega arith), le-ltb 9 b (omega arith)) (omega (arith, count_last 10 b p)))
    (λ p.
    by_order b 100
    (λ q. simp (le-ltb 99 b (omega arith), lt-ltb 9 b (omega arith)) (omega (arith, count_two b p q)))
    (λ q. simp (lt-ltb 99 b (omega arith), lt-ltb 9 b (omega arith)) (omega (arith, count_three b q h))))

-- A digit below ten.
pub digit_small : (d : ℕ) → d < 10 → digit_char Lower d ≡ 48 + d
unfolding digit_char
digit_small d h = simp (lt-ltb d 10 h)
