-- Laws of texts that are made of numbered pieces.
-- Assumes nothing.
use mathlib.Core.Path.{◌≡◌, refl, sym, ap, ◌∙◌}
use mathlib.Core.List.{List, [], ◌∷◌, ◌++◌, append-nil, append_assoc}
use mathlib.Core.Logic.{◌↔◌}
use Prim.Native.Nat.{ℕ, zero, suc, ◌+◌, ◌-◌, ◌*◌, ◌≤◌, ◌<◌}
use native.Mathlib.Omega.{arith}
use native.Mathlib.Numerals.{add-one}
use native.Mathlib.Nat.{add-zero, add-suc, suc-mul, zero-mul, mul-le-mul_right}
use lib.ListN.{length, get_or, take, drop, length-append, get_or-append}
use lib.Seq.{take_at, drop_at, get_or-append-add}
use borrow.Author.Count.{below_none, below_more}
use Rattle.output.specs.Pieces.{pieces}
use Rattle.output.proofs.Order.{by_order}

pub pieces_none : (f : ℕ → List ℕ) → pieces f 0 ≡ []
unfolding pieces
pieces_none f = refl

-- One piece more.
pub pieces_next : (f : ℕ → List ℕ) (n : ℕ) → pieces f (n + 1) ≡ pieces f n ++ f n
unfolding pieces
pieces_next f n = rw add-one

-- More pieces.
pub pieces_append : (f : ℕ → List ℕ) (n m : ℕ) → pieces f (n + m) ≡ pieces f n ++ pieces (λ k. f (n + k)) m
unfolding pieces
pieces_append f n zero = rw add-zero (sym (append-nil (pieces f n)))
pieces_append f n (suc m) = rw (add-suc n m, pieces_append f n m) (append_assoc (pieces f n) (pieces (λ k. f (n + k)) m) (f (n + m)))

-- The length, where each of the pieces has one length.
pub pieces_length : (f : ℕ → List ℕ) (k n : ℕ) → ((i : ℕ) → i < n → length (f i) ≡ k) → length (pieces f n) ≡ n * k
unfolding pieces
pieces_length f k zero e = sym (zero-mul k)
pieces_length f k (suc n) e =
    length-append (pieces f n) (f n) ∙ rw (pieces_length f k n (λ i h. e i (omega arith)), e n (omega arith), suc-mul)

-- A piece has room behind those before it where all have.
pub pieces_room : (f : ℕ → List ℕ) (i n : ℕ) → i < n → length (pieces f i) + length (f i) ≤ length (pieces f n)
unfolding pieces
pieces_room f i zero h = absurd (omega arith)
pieces_room f i (suc n) h =
    rw (length-append (pieces f n) (f n))
    (by_order i n (λ l. omega (arith, pieces_room f i n l)) (λ l. let e : i ≡ n = omega arith in rw e (omega arith)))

-- Fewer pieces are no longer.
pub pieces_most : (f : ℕ → List ℕ) (a n : ℕ) → a ≤ n → length (pieces f a) ≤ length (pieces f n)
pieces_most f a n h =
    let all : a + (n - a) ≡ n = omega arith in
    omega (arith, ap (λ (k : ℕ). length (pieces f k)) all, ap length (pieces_append f a (n - a)), length-append (pieces f a) (pieces (λ k. f (a + k)) (n - a)))

-- Equal pieces make equal texts.
pub pieces_equal : (f g : ℕ → List ℕ) (n : ℕ) → ((i : ℕ) → i < n → f i ≡ g i) → pieces f n ≡ pieces g n
unfolding pieces
pieces_equal f g zero e = refl
pieces_equal f g (suc n) e = rw (pieces_equal f g n (λ i h. e i (omega arith)), e n (omega arith))

-- The lengths are equal where the pieces' are, place by place.
pub pieces_lengths : (f g : ℕ → List ℕ) (n : ℕ) → ((i : ℕ) → i < n → length (f i) ≡ length (g i)) → length (pieces f n) ≡ length (pieces g n)
unfolding pieces
pieces_lengths f g zero e = refl
pieces_lengths f g (suc n) e =
    length-append (pieces f n) (f n)
    ∙ rw (pieces_lengths f g n (λ i h. e i (omega arith)), e n (omega arith)) (sym (length-append (pieces g n) (g n)))

-- Of two texts whose first parts have one length, both parts are equal.
pub append_parts : (a b c d : List ℕ) → length a ≡ length c → a ++ b ≡ c ++ d → (a ≡ c) × (b ≡ d)
append_parts a b c d l e = (
  sym (take_at a b (length c) l) ∙ ap (take (length c)) e ∙ take_at c d (length c) refl,
  sym (drop_at a b (length c) l) ∙ ap (drop (length c)) e ∙ drop_at c d (length c) refl,
)

equal_pieces : (f g : ℕ → List ℕ) (n : ℕ) → ((i : ℕ) → length (f i) ≡ length (g i)) → pieces f n ≡ pieces g n → (i : ℕ) → i < n → f i ≡ g i
unfolding pieces
equal_pieces f g zero l e = below_none _
equal_pieces f g (suc n) l e =
    let both = append_parts (pieces f n) (f n) (pieces g n) (g n) (pieces_lengths f g n (λ i h. l i)) e in
    rw (← add-one n) (below_more _ n (equal_pieces f g n l both.0) both.1)

-- Where the pieces have equal lengths, place by place, two texts are equal exactly when their pieces are.
pub pieces_same : (f g : ℕ → List ℕ) (n : ℕ) → ((i : ℕ) → length (f i) ≡ length (g i)) → (pieces f n ≡ pieces g n) ↔ ((i : ℕ) → i < n → f i ≡ g i)
pieces_same f g n l = (equal_pieces f g n l, pieces_equal f g n)

-- Character j of piece k, where each of the pieces has one length: how a table that holds such a text is read.
pub pieces_at : (f : ℕ → List ℕ) (m n : ℕ) → ((i : ℕ) → i < n → length (f i) ≡ m) → (k j : ℕ) → k < n → j < m
    → get_or (pieces f n) (k * m + j) 0 ≡ get_or (f k) j 0
unfolding pieces
pieces_at f m zero e k j h l = absurd (omega arith)
pieces_at f m (suc n) e k j h l =
    by_order k n
    (λ b.
    get_or-append (pieces f n) (f n) 0 (k * m + j) (omega (arith, before, mul-le-mul_right m b, suc-mul k m))
    ∙ pieces_at f m n (λ i b. e i (omega arith)) k j b l)
    (λ b.
    let last : k ≡ n = omega arith in
    rw (last, ← before) (get_or-append-add (pieces f n) (f n) j 0))
  where
    before : length (pieces f n) ≡ n * m
    before = pieces_length f m n (λ i b. e i (omega arith))

-- A text of one character, and one of two.
pub text_of_one : (s : List ℕ) → length s ≡ 1 → get_or s 0 0 ∷ [] ≡ s
text_of_one [] h = absurd (omega arith)
text_of_one (x ∷ []) h = refl
text_of_one (x ∷ y ∷ s) h = absurd (omega arith)

pub text_of_two : (s : List ℕ) → length s ≡ 2 → get_or s 0 0 ∷ get_or s 1 0 ∷ [] ≡ s
text_of_two [] h = absurd (omega arith)
text_of_two (x ∷ []) h = absurd (omega arith)
text_of_two (x ∷ y ∷ []) h = refl
text_of_two (x ∷ y ∷ z ∷ s) h = absurd (omega arith)
