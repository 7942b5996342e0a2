-- Laws of the contents as digits with spaces between groups: what stands before a digit, groups that the image has whole, and the length.
-- Assumes nothing.
use mathlib.Core.Path.{◌≡◌, refl, sym, ap, ◌∙◌}
use mathlib.Core.Bool.{Bool, true, false, cond}
use mathlib.Core.List.{List, [], ◌∷◌, ◌++◌, append_assoc}
use mathlib.Core.Logic.{◌≢◌}
use Prim.Native.Nat.{ℕ, zero, suc, ◌+◌, ◌-◌, ◌*◌, ◌/◌, ◌%◌, ◌≤◌, ◌<◌}
use native.Mathlib.Nat.{mod-add-mod, mod_self, mod-one, mod-eq_of_lt, mod-lt, mul-mod_left, add-zero, zero-add, zero-mul, suc-mul, add-mul, mul_assoc, mul-le-mul_right, div-mul-le_self}
use native.Mathlib.Omega.{arith}
use lib.Dec.{eqb}
use lib.ListN.{length}
use borrow.Author.Tests.{eq-eqb, ne_eqb, le-ltb}
use Rattle.std.proofs.lemmas.Nat.{mod-mul-add}
use Rattle.bitvec.specs.Size.{ceil_div}
use Rattle.bitvec.specs.declared.Image.{Image}
use Rattle.output.specs.Ascii.{ascii}
use Rattle.output.specs.Pieces.{pieces, leading, joined, every}
use Rattle.output.proofs.Order.{stride}
use Rattle.output.proofs.Joined.{joined_length, every_length, between_length}
use Rattle.output.proofs.Pieces.{pieces_append, pieces_length}
use Rattle.digits.specs.Run.{digit_at, run}
use Rattle.listing.specs.declared.ListingOptions.{ListingOptions}
use Rattle.listing.specs.Listing.{content_digits, content_digit, contents}
use Rattle.listing.specs.InnerLine.{gap, spaced_digit, digits_from}

-- Nothing stands before a digit within a group, and a space before the first one of a group but the first.
pub gap_within : (g k turn : ℕ) → turn ≡ k % g → turn ≢ 0 → leading (gap g) k ≡ []
unfolding leading every
gap_within g k turn e h = rw (ne_eqb (k % g) 0 (λ z. h (e ∙ z))) (none (eqb k 0))
  where
    none : (b : Bool) → cond b [] (cond {A = List ℕ} false (ascii " ") []) ≡ []
    none true = refl
    none false = refl

pub gap_between : (g k turn : ℕ) → turn ≡ k % g → k ≢ 0 → turn ≡ 0 → leading (gap g) k ≡ ascii " "
unfolding leading every
gap_between g k turn e h f = simp (ne_eqb k 0 h, eq-eqb (k % g) 0 (sym e ∙ f))

-- Before the first digit of a group stands what stands before the group.
gap_group : (g k : ℕ) → 0 < g → leading (gap g) (k * g) ≡ leading (gap 1) k
unfolding leading
gap_group g zero h = rw (zero-mul g) refl
gap_group g (suc k) h =
    gap_between g (suc k * g) 0 (sym (mul-mod_left (suc k) g)) (λ e. absurd (omega (arith, e, suc-mul k g))) refl
    ∙ sym (gap_between 1 (suc k) 0 (sym (mod-one (suc k))) (λ e. absurd (omega (arith, e))) refl)

-- The place of the next digit in its group, where the group goes on, and where it ends.
pub turn_next : (g k turn : ℕ) → turn ≡ k % g → 0 < g → turn + 1 ≢ g → turn + 1 ≡ (k + 1) % g
turn_next g k turn e h n =
    let below = mod-lt k h in
    sym (mod-eq_of_lt {n = turn + 1} {m = g} (omega arith)) ∙ rw e (mod-add-mod k g 1)

pub turn_anew : (g k turn : ℕ) → turn ≡ k % g → turn + 1 ≡ g → 0 ≡ (k + 1) % g
turn_anew g k turn e n = sym (sym (mod-add-mod k g 1) ∙ ap (λ (x : ℕ). (x + 1) % g) (sym e) ∙ ap (λ (x : ℕ). x % g) n ∙ mod_self g)

-- Pieces of which only the first differs, by a text before it.
pieces_lead : (f h : ℕ → List ℕ) (t : List ℕ) (n : ℕ) → 0 < n → f 0 ≡ t ++ h 0 → ((j : ℕ) → 0 < j → j < n → f j ≡ h j) → pieces f n ≡ t ++ pieces h n
unfolding pieces
pieces_lead f h t zero p e s = absurd (omega arith)
pieces_lead f h t (suc zero) p e s = e
pieces_lead f h t (suc (suc n)) p e s =
    rw (pieces_lead f h t (suc n) (omega arith) e (λ j l m. s j l (omega arith)), s (suc n) (omega arith) (omega arith))
    (append_assoc t (pieces h (suc n)) (h (suc n)))

-- A digit within the image.
inside_digit : (bytes : List ℕ) (len w i : ℕ) → i + w ≤ len → content_digit bytes len w i ≡ digit_at bytes len w i
unfolding content_digit
inside_digit bytes len w i h = simp (le-ltb len (i + w) h)

module _ (o : ListingOptions) (image : Image) (i : ℕ) where
  abbrev w : ℕ
  w = o.width.bits

  abbrev g : ℕ
  g = o.given.digits_per_group

  -- The digits of group k.
  abbrev pub group_at : ℕ → List ℕ
  group_at k = run image.bytes.now image.len w (i + k * (g * w)) g

  -- They are a run where the image has them.
  one_group : (k : ℕ) → i + k * (g * w) + g * w ≤ image.len → pieces (λ j. spaced_digit o image i (k * g + j)) g ≡ leading (gap 1) k ++ group_at k
  unfolding run
  one_group k h =
      pieces_lead
      (λ j. spaced_digit o image i (k * g + j))
      (λ j. digit_at image.bytes.now image.len w (i + k * (g * w) + j * w) ∷ [])
      (leading (gap 1) k)
      g
      o.group.0
      (rw (place 0, inside 0 o.group.0, add-zero (k * g), gap_group g k o.group.0) refl)
      (λ j l m. rw (place j, inside j m, gap_within g (k * g + j) j (sym (mod-mul-add k g j m)) (λ e. absurd (omega (arith, e, l)))) refl)
    where
      place : (j : ℕ) → i + (k * g + j) * w ≡ i + k * (g * w) + j * w
      place j = omega (arith, add-mul (k * g) j w, mul_assoc k g w)

      inside : (j : ℕ) → j < g → content_digit image.bytes.now image.len w (i + k * (g * w) + j * w) ≡ digit_at image.bytes.now image.len w (i + k * (g * w) + j * w)
      inside j l = inside_digit image.bytes.now image.len w (i + k * (g * w) + j * w) (omega (arith, h, stride j g w l))

  -- The digits of whole groups.
  all_groups : (n : ℕ) → (0 < n → i + n * (g * w) ≤ image.len) → pieces (spaced_digit o image i) (n * g) ≡ pieces (λ k. leading (gap 1) k ++ group_at k) n
  unfolding pieces
  all_groups zero h = rw (zero-mul g) refl
  all_groups (suc n) h =
      let reach = h (omega arith) in
      let bits = suc-mul n (g * w) in
      rw (suc-mul n g)
      (pieces_append (spaced_digit o image i) (n * g) g
      ∙ rw (all_groups n (λ l. omega (arith, reach, bits)), one_group n (omega (arith, reach, bits))) refl)

  -- The contents from the first digit on, and after groups that the image has whole.
  pub contents_digits : (size count : ℕ) → count ≡ ceil_div size w → contents o.given image.bytes.now image.len i size ≡ digits_from o image i 0 count
  unfolding contents content_digits joined
  contents_digits size count e = simp zero-add (rw (e, o.bits) refl)

  pub contents_parts : (size count n : ℕ) → count ≡ ceil_div size w → n ≤ count / g → n ≤ (image.len - i) / (g * w)
      → contents o.given image.bytes.now image.len i size ≡ pieces (λ k. leading (gap 1) k ++ group_at k) n ++ digits_from o image i (n * g) (count - n * g)
  contents_parts size count n e l m =
      let few : n * g ≤ count = omega (arith, mul-le-mul_right g l, div-mul-le_self count g) in
      let all : n * g + (count - n * g) ≡ count = omega arith in
      contents_digits size count e
      ∙ simp zero-add (ap (pieces (spaced_digit o image i)) (sym all)
      ∙ pieces_append (spaced_digit o image i) (n * g) (count - n * g)
      ∙ rw (all_groups n (λ p. inside p)) refl)
    where
      inside : 0 < n → i + n * (g * w) ≤ image.len
      inside p = omega (arith, mul-le-mul_right (g * w) m, div-mul-le_self (image.len - i) (g * w), mul-le-mul_right (g * w) p, mul-le-mul_right w o.group.0, o.some)

-- The length: a character for each digit, and a space between groups.
pub contents_length : (o : ListingOptions) (bytes : List ℕ) (len offset size count : ℕ) → count ≡ ceil_div size o.width.bits
    → length (contents o.given bytes len offset size) ≡ (count - 1) / o.given.digits_per_group + count
unfolding contents content_digits
contents_length o bytes len offset size count e =
    let g = o.given.digits_per_group in
    let digit : ℕ → List ℕ = λ k. content_digit bytes len o.width.bits (offset + k * o.width.bits) ∷ [] in
    let all = joined_length (gap g) digit count in
    let gaps = between_length (gap g) g 1 0 count o.group.0 (λ k l. every_length g k (ascii " ")) in
    let digits = pieces_length digit 1 count (λ k l. refl) in
    rw (← o.bits, ← e) (omega (arith, all, gaps, digits))
