-- Laws of lists made of lists: a text for each thing in a list.
-- Assumes nothing.
use mathlib.Core.Path.{◌≡◌, refl, sym, ap, ◌∙◌}
use mathlib.Core.List.{List, [], ◌∷◌, ◌++◌, flat_map, append-nil, append_assoc}
use Prim.Native.Nat.{ℕ, zero, suc}
use lib.ListN.{length, get_or}
use Rattle.output.specs.Pieces.{pieces}
use Rattle.output.specs.Lists.{table}
use Rattle.output.proofs.Lists.{table_list}

pub flat_append : {A B : Type 0} (f : A → List B) (a b : List A) → flat_map f (a ++ b) ≡ flat_map f a ++ flat_map f b
unfolding flat_map
flat_append f [] b = refl
flat_append {B = B} f (x ∷ a) b = ap (λ (t : List B). f x ++ t) (flat_append f a b) ∙ sym (append_assoc (f x) (flat_map f a) (flat_map f b))

pub flat_one : {A B : Type 0} (f : A → List B) (x : A) → flat_map f (x ∷ []) ≡ f x
unfolding flat_map
flat_one f x = append-nil (f x)

pub flat_none : {A B : Type 0} (f : A → List B) → flat_map f [] ≡ []
unfolding flat_map
flat_none f = refl

pub flat_next : {A B : Type 0} (f : A → List B) (x : A) (l : List A) → flat_map f (x ∷ l) ≡ f x ++ flat_map f l
unfolding flat_map
flat_next f x l = refl

-- A text for each entry of a table is a text of pieces.
pub flat_table : {A : Type 0} (f : A → List ℕ) (g : ℕ → A) (n : ℕ) → flat_map f (table g n) ≡ pieces (λ k. f (g k)) n
unfolding table pieces flat_map
flat_table f g zero = refl
flat_table f g (suc n) = flat_append f (table g n) (g n ∷ []) ∙ rw (flat_table f g n, flat_one f (g n))

-- Texts within texts.
pub flat_flat : {A B : Type 0} (f : B → List ℕ) (g : A → List B) (l : List A) → flat_map f (flat_map g l) ≡ flat_map (λ x. flat_map f (g x)) l
unfolding flat_map
flat_flat f g [] = refl
flat_flat f g (x ∷ l) = flat_append f (g x) (flat_map g l) ∙ ap (λ (t : List ℕ). flat_map f (g x) ++ t) (flat_flat f g l)

-- A text for each thing in a list, by its place.
pub flat_places : {A : Type 0} (f : A → List ℕ) (l : List A) (d : A) → flat_map f l ≡ pieces (λ k. f (get_or l k d)) (length l)
flat_places f l d = ap (flat_map f) (sym (table_list l d)) ∙ flat_table f (λ k. get_or l k d) (length l)
