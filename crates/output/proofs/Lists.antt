-- Laws of lists by number: tables, what holds of each thing in a list, the first number with a fault, and stores at the front of a list.
-- Assumes nothing.
use mathlib.Core.Path.{◌≡◌, refl, sym, ap, ◌∙◌, subst}
use mathlib.Core.Bool.{Bool, true, false, cond}
use mathlib.Core.List.{List, [], ◌∷◌, ◌++◌, map, append-nil}
use Prim.Native.Nat.{ℕ, zero, suc, ◌+◌, ◌≤◌, ◌<◌}
use native.Mathlib.Nat.{zero-add}
use native.Mathlib.Numerals.{add-one}
use native.Mathlib.Omega.{arith}
use lib.Dec.{ltb}
use lib.ListN.{length, get_or, take, drop, set, length-append, get_or-append, drop_of_length-le}
use lib.Seq.{sets, sets-eq, ext_get_or, get_or_at, take_at, take-suc, length-take-le}
use borrow.Author.Tests.{lt-ltb, le-ltb, ltb-false}
use Rattle.output.proofs.Order.{by_order}
use Rattle.output.proofs.Writes.{sets_append}
use Rattle.output.specs.Lists.{table, Each, first}

module _ {A : Type 0} where
  pub table_next : (f : ℕ → A) (n : ℕ) → table f (n + 1) ≡ table f n ++ (f n ∷ [])
  unfolding table
  table_next f n = rw add-one

  pub table_length : (f : ℕ → A) (n : ℕ) → length (table f n) ≡ n
  unfolding table
  table_length f zero = refl
  table_length f (suc n) = length-append (table f n) (f n ∷ []) ∙ omega (arith, table_length f n)

  pub table_get : (f : ℕ → A) (n i : ℕ) (d : A) → i < n → get_or (table f n) i d ≡ f i
  unfolding table
  table_get f zero i d h = absurd (omega arith)
  table_get f (suc n) i d h =
      by_order i n
      (λ l. get_or-append (table f n) (f n ∷ []) d i (omega (arith, table_length f n)) ∙ table_get f n i d l)
      (λ l. let e : i ≡ n = omega arith in rw e (get_or_at (table f n) (f n) [] d n (table_length f n)))

  pub table_equal : (f g : ℕ → A) (n : ℕ) → ((k : ℕ) → k < n → f k ≡ g k) → table f n ≡ table g n
  unfolding table
  table_equal f g zero e = refl
  table_equal f g (suc n) e = rw (table_equal f g n (λ k h. e k (omega arith)), e n (omega arith))

  -- P holds of each thing in two lists, and of each in both together.
  pub each_append : (P : A → Type 0) (a b : List A) → Each P a → Each P b → Each P (a ++ b)
  each_append P [] b p q = q
  each_append P (x ∷ a) b p q = (p.0, each_append P a b p.1 q)

  pub each_parts : (P : A → Type 0) (a b : List A) → Each P (a ++ b) → Each P a × Each P b
  each_parts P [] b p = (tt, p)
  each_parts P (x ∷ a) b p = let q = each_parts P a b p.1 in ((p.0, q.0), q.1)

  pub each_get : (P : A → Type 0) (l : List A) (i : ℕ) (d : A) → Each P l → i < length l → P (get_or l i d)
  each_get P [] i d p h = absurd (omega arith)
  each_get P (x ∷ l) zero d p h = p.0
  each_get P (x ∷ l) (suc i) d p h = each_get P l i d p.1 (omega arith)

  pub each_table : (P : A → Type 0) (f : ℕ → A) (n : ℕ) → ((k : ℕ) → k < n → P (f k)) → Each P (table f n)
  unfolding table
  each_table P f zero p = tt
  each_table P f (suc n) p = each_append P (table f n) (f n ∷ []) (each_table P f n (λ k h. p k (omega arith))) (p n (omega arith), tt)

  pub table_each : (P : A → Type 0) (f : ℕ → A) (n : ℕ) → Each P (table f n) → (k : ℕ) → k < n → P (f k)
  table_each P f n p k h = subst P (table_get f n k (f k) h) (each_get P (table f n) k (f k) p (omega (arith, table_length f n)))

  pub each_map : (P Q : A → Type 0) (l : List A) → ((x : A) → P x → Q x) → Each P l → Each Q l
  each_map P Q [] f p = tt
  each_map P Q (x ∷ l) f p = (f x p.0, each_map P Q l f p.1)

  pub each_both : (P Q R : A → Type 0) (l : List A) → ((x : A) → P x → Q x → R x) → Each P l → Each Q l → Each R l
  each_both P Q R [] f p q = tt
  each_both P Q R (x ∷ l) f p q = (f x p.0 q.0, each_both P Q R l f p.1 q.1)

pub map_append : {A B : Type 0} (g : A → B) (a b : List A) → map g (a ++ b) ≡ map g a ++ map g b
map_append g [] b = refl
map_append {B = B} g (x ∷ a) b = ap (λ (t : List B). g x ∷ t) (map_append g a b)

-- A table is mapped by mapping its function.
pub table_map : {A B : Type 0} (g : A → B) (f : ℕ → A) (n : ℕ) → map g (table f n) ≡ table (λ k. g (f k)) n
unfolding table
table_map g f zero = refl
table_map g f (suc n) = map_append g (table f n) (f n ∷ []) ∙ rw (table_map g f n)

pub map_length : {A B : Type 0} (g : A → B) (l : List A) → length (map g l) ≡ length l
map_length g [] = refl
map_length g (x ∷ l) = ap suc (map_length g l)

-- The first number with a fault.
pub first_all : (fault : ℕ → Bool) (n : ℕ) → ((k : ℕ) → k < n → fault k ≡ false) → first fault n ≡ n
unfolding first
first_all fault zero e = refl
first_all fault (suc n) e = simp (first_all fault n (λ k h. e k (omega arith)), le-ltb n n (omega arith), e n (omega arith))

pub first_at : (fault : ℕ → Bool) (n p : ℕ) → p < n → ((k : ℕ) → k < p → fault k ≡ false) → fault p ≡ true → first fault n ≡ p
unfolding first
first_at fault zero p h e t = absurd (omega arith)
first_at fault (suc n) p h e t =
    by_order p n
    (λ l. simp (first_at fault n p l e t, lt-ltb p n l))
    (λ l. let q : p ≡ n = omega arith in rw (← q) (simp (first_all fault p e, le-ltb p p (omega arith), t)))

pub first_most : (fault : ℕ → Bool) (n : ℕ) → first fault n ≤ n
unfolding first
first_most fault zero = omega arith
first_most fault (suc n) = go (ltb (first fault n) n) (fault n) (first_most fault n)
  where
    go : (a b : Bool) → first fault n ≤ n → cond a (first fault n) (cond b n (suc n)) ≤ suc n
    go true b h = omega arith
    go false true h = omega arith
    go false false h = omega arith

-- Where there is none, no number has it.
pub first_none : (fault : ℕ → Bool) (n : ℕ) → first fault n ≡ n → (k : ℕ) → k < n → fault k ≡ false
unfolding first
first_none fault zero e k h = absurd (omega arith)
first_none fault (suc n) e k h = go (ltb (first fault n) n) (fault n) refl refl e (first_none fault n) (first_most fault n)
  where
    go : (a b : Bool) → ltb (first fault n) n ≡ a → fault n ≡ b → cond a (first fault n) (cond b n (suc n)) ≡ suc n
        → (first fault n ≡ n → (k : ℕ) → k < n → fault k ≡ false) → first fault n ≤ n → fault k ≡ false
    go true b p q e f m = absurd (omega arith)
    go false true p q e f m = absurd (omega arith)
    go false false p q e f m =
        by_order k n (f (omega (arith, ltb-false (first fault n) n p)) k) (λ l. let d : k ≡ n = omega arith in rw d q)

-- Numbers stored from the front of a list that has no more.
pub sets_whole : (l t : List ℕ) → length l ≡ length t → sets l 0 t ≡ t
sets_whole l t e = sets-eq t l 0 (omega arith) ∙ rw (drop_of_length-le l {i = 0 + length t} (omega arith)) (append-nil t)

-- One number more stored behind those at the front.
pub sets_more : (l t : List ℕ) (k x : ℕ) → k ≡ length t → set (sets l 0 t) k x ≡ sets l 0 (t ++ (x ∷ []))
sets_more l t k x e = rw e (ap (λ (i : ℕ). set (sets l 0 t) i x) (sym (zero-add (length t))) ∙ sets_append t (x ∷ []) l 0)

-- One number more copied to the front.
pub sets_copied : (l s : List ℕ) (k : ℕ) → k < length s → set (sets l 0 (take k s)) k (get_or s k 0) ≡ sets l 0 (take (k + 1) s)
sets_copied l s k h =
    sets_more l (take k s) k (get_or s k 0) (sym (length-take-le k s (omega arith)))
    ∙ ap (sets l 0) (sym (take-suc s k 0 h) ∙ ap (λ (i : ℕ). take i s) (sym (add-one k)))

-- What is stored from the front is there.
pub sets_front : (l t : List ℕ) (n : ℕ) → length t ≤ length l → n ≡ length t → take n (sets l 0 t) ≡ t
sets_front l t n h e = rw (sets-eq t l 0 (omega arith)) (take_at t (drop (0 + length t) l) n (sym e))

-- A list is the table of its own things.
pub table_list : {A : Type 0} (l : List A) (d : A) → table (λ k. get_or l k d) (length l) ≡ l
table_list l d =
    let size = table_length (λ k. get_or l k d) (length l) in
    ext_get_or d (table (λ k. get_or l k d) (length l)) l size (λ i h. table_get (λ k. get_or l k d) (length l) i d (omega (arith, size)))

-- What is stored over the front of a list.
pub front_stored : (l t q : List ℕ) (n : ℕ) → n ≤ length l → length t ≡ n → q ≡ t → q ++ drop n l ≡ sets l 0 t
front_stored l t q n h e f =
    let same : n ≡ 0 + length t = omega arith in
    ap (λ (r : List ℕ). r ++ drop n l) f ∙ ap (λ (i : ℕ). t ++ drop i l) same ∙ sym (sets-eq t l 0 (omega arith))
