-- Laws of the digits of a number, each for every radix from 2 on.
-- Assumes nothing.
use mathlib.Core.Path.{◌≡◌, refl, sym, ap, ◌∙◌}
use mathlib.Core.Bool.{Bool, true, false, cond}
use mathlib.Core.List.{List, [], ◌∷◌, ◌++◌, map, map-append}
use Prim.Native.Nat.{ℕ, zero, suc, ◌+◌, ◌*◌, ◌/◌, ◌%◌, ◌^◌, ◌≤◌, ◌<◌, ◌-◌, max}
use native.Mathlib.Omega.{arith}
use native.Mathlib.Nat.{mod-lt, mul-one, pow-suc, pow-zero, div-lt_self, div-lt_iff_lt-mul, div-eq_of_lt, mod-eq_of_lt, lt_of_lt_of_le, mul-le-mul_left, mul-le-mul_right, mul_comm, le-div_iff_mul-le, div-mul-le_self}
use lib.Dec.{ltb}
use lib.ListN.{length, replicate, length-append, length-map, length-replicate}
use borrow.Author.Tests.{lt-ltb, le-ltb, ltb-false}
use Rattle.output.proofs.Order.{by_order}
use Rattle.output.proofs.Pieces.{pieces_length}
use Rattle.numbers.specs.declared.Letters.{Letters}
use Rattle.numbers.specs.declared.Letters.TheVariants.{Lower, Upper}
use Rattle.numbers.specs.Digits.{letter_ten, digit_char, byte_text, digits_of, digits_in, digits, digit_count, number_text, padded}

pub letter_small : (letters : Letters) → letter_ten letters ≤ 97
letter_small Lower = omega arith
letter_small Upper = omega arith

-- A number of m digits of some bits each has a character for each.
pub digits_length : (w m v : ℕ) → length (digits_of w m v) ≡ m
unfolding digits_of
digits_length w m v = pieces_length _ 1 m (λ k h. refl) ∙ mul-one m

-- A number below the radix is its own digit.
pub digits_last : (radix n : ℕ) → n < radix → digits radix n ≡ n ∷ []
unfolding digits digits_in
digits_last radix n h = simp (lt-ltb n radix h)

-- A division makes it smaller.
pub smaller : (radix n : ℕ) → 2 ≤ radix → radix ≤ n → n / radix < n
smaller radix n h l = div-lt_self (omega arith) (omega arith)

-- What is left behind it is a digit.
pub remainder_small : (radix n : ℕ) → 2 ≤ radix → n % radix < radix
remainder_small radix n h = mod-lt n (omega arith)

-- Any number of steps above the value is enough.
enough : (radix : ℕ) → 2 ≤ radix → (s t n : ℕ) → n < s → n < t → digits_in s radix n ≡ digits_in t radix n
unfolding digits_in
enough radix h zero t n p q = absurd (omega arith)
enough radix h (suc s) zero n p q = absurd (omega arith)
enough radix h (suc s) (suc t) n p q = go (enough radix h s t (n / radix)) (ltb n radix) refl
  where
    go : (n / radix < s → n / radix < t → digits_in s radix (n / radix) ≡ digits_in t radix (n / radix))
        → (b : Bool) → ltb n radix ≡ b
        → cond b (n ∷ []) (digits_in s radix (n / radix) ++ (n % radix ∷ [])) ≡ cond b (n ∷ []) (digits_in t radix (n / radix) ++ (n % radix ∷ []))
    go ih true e = refl
    go ih false e =
        let l = smaller radix n h (ltb-false n radix e) in
        ap (λ (d : List ℕ). d ++ (n % radix ∷ [])) (ih (omega arith) (omega arith))

-- Any other has the digits of its quotient by the radix and then its remainder.
pub digits_more : (radix n : ℕ) → 2 ≤ radix → radix ≤ n → digits radix n ≡ digits radix (n / radix) ++ (n % radix ∷ [])
unfolding digits digits_in
digits_more radix n h l =
    simp (le-ltb n radix l)
    (ap (λ (d : List ℕ). d ++ (n % radix ∷ [])) (enough radix h n (suc (n / radix)) (n / radix) (smaller radix n h l) (omega arith)))

pub count_last : (radix n : ℕ) → n < radix → digit_count radix n ≡ 1
unfolding digit_count
count_last radix n h = rw (digits_last radix n h)

pub count_more : (radix n : ℕ) → 2 ≤ radix → radix ≤ n → digit_count radix n ≡ digit_count radix (n / radix) + 1
unfolding digit_count
count_more radix n h l = ap length (digits_more radix n h l) ∙ length-append (digits radix (n / radix)) (n % radix ∷ [])

quotient_below : (radix : ℕ) → 2 ≤ radix → (k n : ℕ) → n < 2 ^ suc k → n / radix < 2 ^ k
quotient_below radix h k n l = (div-lt_iff_lt-mul {k = radix} (omega arith)).1 (lt_of_lt_of_le (rw pow-suc at l) (mul-le-mul_left (2 ^ k) h))

-- A number of k + 1 bits has at most as many digits.
pub count_small : (radix : ℕ) → 2 ≤ radix → (k n : ℕ) → n < 2 ^ suc k → digit_count radix n ≤ suc k
count_small radix h zero n l = omega (arith, count_last radix n (omega arith))
count_small radix h (suc k) n l =
    by_order n radix
    (λ p. omega (arith, count_last radix n p))
    (λ p. omega (arith, count_more radix n h p, count_small radix h k (n / radix) (quotient_below radix h (suc k) n l)))

-- There is a digit.
pub count_some : (radix n : ℕ) → 2 ≤ radix → 1 ≤ digit_count radix n
count_some radix n h =
    by_order n radix (λ p. omega (arith, count_last radix n p)) (λ p. omega (arith, count_more radix n h p))

pub number_last : (letters : Letters) (radix n : ℕ) → n < radix → number_text letters radix n ≡ digit_char letters n ∷ []
unfolding number_text
number_last letters radix n h = rw (digits_last radix n h)

pub number_more : (letters : Letters) (radix n : ℕ) → 2 ≤ radix → radix ≤ n
    → number_text letters radix n ≡ number_text letters radix (n / radix) ++ (digit_char letters (n % radix) ∷ [])
unfolding number_text
number_more letters radix n h l =
    ap (map (digit_char letters)) (digits_more radix n h l) ∙ map-append (digit_char letters) (digits radix (n / radix)) (n % radix ∷ [])

-- A byte as two digits is the number in radix 16, filled with zeros to width 2: the Rust's `{:02x}` and `{:02X}`.
pub byte_padded : (letters : Letters) (b : ℕ) → b < 256 → byte_text letters b ≡ padded 48 2 (number_text letters 16 b)
unfolding byte_text padded digit_char
byte_padded letters b h =
    by_order b 16
    (λ p. rw (number_last letters 16 b p, div-eq_of_lt p, mod-eq_of_lt p))
    (λ p. rw (number_more letters 16 b (omega arith) p, number_last letters 16 (b / 16) (omega arith)))

-- The text of a number has a character for each digit.
pub number_length : (letters : Letters) (radix n : ℕ) → length (number_text letters radix n) ≡ digit_count radix n
unfolding number_text digit_count
number_length letters radix n = length-map (digits radix n) (digit_char letters)

-- A larger number has no fewer digits. Any number of steps above the smaller one is enough.
count_rises_in : (radix : ℕ) → 2 ≤ radix → (steps m n : ℕ) → m < steps → m ≤ n → digit_count radix m ≤ digit_count radix n
count_rises_in radix h zero m n s l = absurd (omega arith)
count_rises_in radix h (suc steps) m n s l =
    by_order m radix
    (λ p. omega (arith, count_last radix m p, count_some radix n h))
    (λ p.
    let fewer = smaller radix m h p in
    let below : m / radix ≤ n / radix = (le-div_iff_mul-le (omega arith)).1 (omega (arith, div-mul-le_self m radix)) in
    let quotients = count_rises_in radix h steps (m / radix) (n / radix) (omega arith) below in
    omega (arith, count_more radix m h p, count_more radix n h (omega arith)))

pub count_rises : (radix : ℕ) → 2 ≤ radix → (m n : ℕ) → m ≤ n → digit_count radix m ≤ digit_count radix n
count_rises radix h m n l = count_rises_in radix h (suc m) m n (omega arith) l

-- A text that is filled to a width has it, or its own where that is larger.
pub padded_length : (fill width : ℕ) (t : List ℕ) → length (padded fill width t) ≡ max width (length t)
unfolding padded
padded_length fill width t =
    length-append (replicate (width - length t) fill) t ∙ rw (length-replicate (width - length t) fill) (omega arith)

-- A text is not filled to a width that it has, and fills a larger one as it does the larger of both.
pub padded_none : (letters : Letters) (radix n fill : ℕ) → padded fill (digit_count radix n) (number_text letters radix n) ≡ number_text letters radix n
unfolding padded
padded_none letters radix n fill =
    let none : digit_count radix n - length (number_text letters radix n) ≡ 0 = omega (arith, number_length letters radix n) in
    rw none

pub padded_wider : (letters : Letters) (radix n fill width : ℕ)
    → padded fill (max width (digit_count radix n)) (number_text letters radix n) ≡ padded fill width (number_text letters radix n)
unfolding padded
padded_wider letters radix n fill width =
    let same : max width (digit_count radix n) - length (number_text letters radix n) ≡ width - length (number_text letters radix n) = omega (arith, number_length letters radix n) in
    rw same

-- A power of the radix is not zero.
power_some : (radix : ℕ) → 2 ≤ radix → (k : ℕ) → 1 ≤ radix ^ k
power_some radix h zero = omega (arith, pow-zero radix)
power_some radix h (suc k) = rw pow-suc (omega (arith, mul-le-mul_right radix (power_some radix h k)))

-- A number between two powers of the radix has one digit more than the power.
count_between : (radix : ℕ) → 2 ≤ radix → (k n : ℕ) → radix ^ k ≤ n → n < radix ^ k * radix → digit_count radix n ≡ k + 1
count_between radix h zero n p q = count_last radix n (omega (arith, rw pow-zero at q))
count_between radix h (suc k) n p q =
    let least = rw pow-suc at p in
    let most = rw pow-suc at q in
    let low : radix ^ k ≤ n / radix = (le-div_iff_mul-le {k = radix} (omega arith)).1 least in
    let high : n / radix < radix ^ k * radix = (div-lt_iff_lt-mul {k = radix} (omega arith)).1 most in
    let many : radix ≤ n = omega (arith, least, mul-le-mul_right radix (power_some radix h k)) in
    omega (arith, count_more radix n h many, count_between radix h k (n / radix) low high)

-- The same of the library's logarithm, where zero counts as one.
pub count_power : (radix n k : ℕ) → 2 ≤ radix → radix ^ k ≤ max n 1 → max n 1 < radix * radix ^ k → k + 1 ≡ digit_count radix n
count_power radix n k h p q =
    let counted : digit_count radix (max n 1) ≡ k + 1 = count_between radix h k (max n 1) p (rw mul_comm at q) in
    by_order n 1
    (λ l.
    let none : n ≡ 0 = omega arith in
    omega (arith, count_last radix n (omega arith), count_last radix (max n 1) (omega arith), counted))
    (λ l.
    let same : max n 1 ≡ n = omega arith in
    sym (rw same at counted))
