-- Laws of items with a text between each two.
-- Assumes nothing.
use mathlib.Core.Path.{◌≡◌, refl, sym, ap, ◌∙◌}
use mathlib.Core.Bool.{Bool, true, false, cond}
use mathlib.Core.List.{List, [], ◌++◌, append_assoc}
use Prim.Native.Nat.{ℕ, zero, suc, ◌+◌, ◌-◌, ◌*◌, ◌/◌, ◌%◌, ◌≤◌, ◌<◌, ◌^◌}
use native.Mathlib.Numerals.{add-one}
use native.Mathlib.Nat.{div-add-mod', mod-lt, div-eq_of_lt-le, suc-mul, zero-div, div-le_self, mul-le-mul, add-zero, add-sub_cancel}
use native.Mathlib.Omega.{arith}
use lib.Dec.{eqb}
use lib.ListN.{length, length-append}
use borrow.Author.Tests.{eq-eqb, ne_eqb}
use Rattle.output.specs.Pieces.{pieces, leading, joined, every}
use Rattle.output.proofs.Order.{by_order}
use Rattle.output.proofs.Pieces.{pieces_none, pieces_next, pieces_room}

pub joined_none : (between item : ℕ → List ℕ) → joined between item 0 ≡ []
unfolding joined
joined_none between item = pieces_none _

-- One item more.
pub joined_next : (between item : ℕ → List ℕ) (n : ℕ) → joined between item (n + 1) ≡ joined between item n ++ (leading between n ++ item n)
unfolding joined
joined_next between item n = pieces_next _ n

-- An item has room, with what stands before it, where all have.
pub joined_room : (between item : ℕ → List ℕ) (i n : ℕ) → i < n
    → length (joined between item i) + (length (leading between i) + length (item i)) ≤ length (joined between item n)
unfolding joined
joined_room between item i n h =
    omega (arith, pieces_room (λ k. leading between k ++ item k) i n h, length-append (leading between i) (item i))

-- The length: the items and what stands between them.
pub joined_length : (between item : ℕ → List ℕ) (n : ℕ) → length (joined between item n) ≡ length (pieces (leading between) n) + length (pieces item n)
unfolding joined pieces
joined_length between item zero = refl
joined_length between item (suc n) =
    let texts = length-append (pieces (λ k. leading between k ++ item k) n) (leading between n ++ item n) in
    let last = length-append (leading between n) (item n) in
    let leads = length-append (pieces (leading between) n) (leading between n) in
    let items = length-append (pieces item n) (item n) in
    omega (arith, joined_length between item n)

-- The length of the one text or the other.
pub either_length : (b : Bool) (s t : List ℕ) → length (cond b s t) ≡ cond b (length s) (length t)
either_length true s t = refl
either_length false s t = refl

-- A text at each place that n divides has its own length there and else none.
pub every_length : (n k : ℕ) (t : List ℕ) → length (every n k t) ≡ cond (eqb (k % n) 0) (length t) 0
unfolding every
every_length n k t = either_length (eqb (k % n) 0) t []

-- The quotient grows by one where the divisor divides.
quotient_next : (n d : ℕ) → 0 < d → (n + 1) / d ≡ n / d + cond (eqb ((n + 1) % d) 0) 1 0
quotient_next n d h =
    let whole = div-add-mod' n d in
    let more = suc-mul (n / d) d in
    let twice = suc-mul (n / d + 1) d in
    by_order (n % d + 1) d
    (λ l.
    let same : (n + 1) / d ≡ n / d = div-eq_of_lt-le d (omega arith) (omega arith) in
    let rest = rw same at (div-add-mod' (n + 1) d) in
    simp (ne_eqb ((n + 1) % d) 0 (λ e. absurd (omega arith))) (omega arith))
    (λ l.
    let last = mod-lt n h in
    let next : (n + 1) / d ≡ n / d + 1 = div-eq_of_lt-le d (omega arith) (omega arith) in
    let rest = rw next at (div-add-mod' (n + 1) d) in
    simp (eq-eqb ((n + 1) % d) 0 (omega arith)) next)

-- Before any item but the first stands the text between.
leading_more : (between : ℕ → List ℕ) (k : ℕ) → leading between (k + 1) ≡ between (k + 1)
unfolding leading
leading_more between k = simp (ne_eqb (k + 1) 0 (λ e. absurd (omega arith)))

-- One text more between the items, whose length goes by whether d divides its place.
gap_next : (d a b m : ℕ) (t : Bool)
    → m / d * a + (m - m / d) * b + cond t a b ≡ (m / d + cond t 1 0) * a + (m + 1 - (m / d + cond t 1 0)) * b
gap_next d a b m true =
    let same : m + 1 - (m / d + 1) ≡ m - m / d = omega arith in
    rw same (omega (arith, suc-mul (m / d) a))
gap_next d a b m false =
    let most = div-le_self m d in
    let more : m + 1 - (m / d + 0) ≡ m - m / d + 1 = omega arith in
    rw (more, add-zero) (omega (arith, suc-mul (m - m / d) b))

gaps : (between : ℕ → List ℕ) (d a b : ℕ) → 0 < d → (m : ℕ)
    → ((k : ℕ) → k < m + 1 → length (between k) ≡ cond (eqb (k % d) 0) a b)
    → length (pieces (leading between) (m + 1)) ≡ m / d * a + (m - m / d) * b
unfolding pieces leading
gaps between d a b h zero e = rw (zero-div d) (omega arith)
gaps between d a b h (suc m) e =
    rw (← add-one m, pieces_next (leading between) (m + 1))
    (length-append (pieces (leading between) (m + 1)) (leading between (m + 1))
    ∙ rw (gaps between d a b h m (λ k l. e k (omega arith)), leading_more between m, e (m + 1) (omega arith), quotient_next m d h)
    (gap_next d a b m (eqb ((m + 1) % d) 0)))

-- How long the texts between n items are, where each has the length a at the places that d divides and b at the others.
pub between_length : (between : ℕ → List ℕ) (d a b n : ℕ) → 0 < d
    → ((k : ℕ) → k < n → length (between k) ≡ cond (eqb (k % d) 0) a b)
    → length (pieces (leading between) n) ≡ (n - 1) / d * a + ((n - 1) - (n - 1) / d) * b
between_length between d a b zero h e = rw (pieces_none, zero-div d) (omega arith)
between_length between d a b (suc m) h e = rw (← add-one m, add-sub_cancel) (gaps between d a b h m (λ k l. e k (omega arith)))

-- They are short where there are few of them and each is.
pub between_small : (d a b n m c : ℕ) → n ≤ m → a ≤ c → b ≤ c → (n - 1) / d * a + ((n - 1) - (n - 1) / d) * b ≤ m * c + m * c
between_small d a b n m c l p q =
    let most = div-le_self (n - 1) d in
    omega (
      arith,
      mul-le-mul {n₁ = (n - 1) / d} {m₁ = a} {n₂ = m} {m₂ = c} (omega arith) p,
      mul-le-mul {n₁ = (n - 1) - (n - 1) / d} {m₁ = b} {n₂ = m} {m₂ = c} (omega arith) q,
    )

-- So short that they fit a word.
pub between_few : (d a b n : ℕ) → n < 2 ^ 32 → a < 2 ^ 31 → b < 2 ^ 31 → (n - 1) / d * a + ((n - 1) - (n - 1) / d) * b < 2 ^ 64
between_few d a b n l p q = omega (arith, between_small d a b n (2 ^ 32 - 1) (2 ^ 31 - 1) (omega arith) (omega arith) (omega arith))

-- Items with one text s between them, behind what stands before the first of them.
pub joined_alike : (between item : ℕ → List ℕ) (s : List ℕ) (k n : ℕ) → ((j : ℕ) → k < j → j ≤ k + n → leading between j ≡ s)
    → joined between item (k + n + 1) ≡ (joined between item k ++ leading between k) ++ (pieces (λ j. item (k + j) ++ s) n ++ item (k + n))
unfolding pieces
joined_alike between item s k zero e = rw (add-zero k, joined_next) (sym (append_assoc (joined between item k) (leading between k) (item k)))
joined_alike between item s k (suc n) e =
    let place : k + suc n ≡ k + n + 1 = omega arith in
    let front = joined between item k ++ leading between k in
    let rows = pieces (λ j. item (k + j) ++ s) n in
    let last = item (k + n + 1) in
    rw (place, joined_next, e (k + n + 1) (omega arith) (omega arith), joined_alike between item s k n (λ j l m. e j l (omega arith)))
    (append_assoc front (rows ++ item (k + n)) (s ++ last)
    ∙ ap (λ (t : List ℕ). front ++ t)
    (append_assoc rows (item (k + n)) (s ++ last)
    ∙ ap (λ (t : List ℕ). rows ++ t) (sym (append_assoc (item (k + n)) s last))
    ∙ sym (append_assoc rows (item (k + n) ++ s) last)))
