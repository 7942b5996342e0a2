-- Laws of the listing's options and of the widths of its columns.
-- Assumes nothing.
use mathlib.Core.Path.{◌≡◌, refl, ap, ◌∙◌}
use mathlib.Core.Bool.{Bool, true, false, ◌||◌}
use mathlib.Core.List.{List, ◌++◌}
use mathlib.Core.Logic.{◌≢◌}
use mathlib.Mathlib.Data.Bool.Basic.{or-eq-false-eq-eq-false-and-eq-false}
use Prim.Native.Nat.{ℕ, ◌+◌, ◌-◌, ◌*◌, ◌/◌, ◌≤◌, ◌<◌, max}
use native.Mathlib.Numerals.{add-one}
use native.Mathlib.Omega.{arith}
use lib.Dec.{eqb}
use lib.ListN.{length, get_or, length-append}
use borrow.Author.Tests.{lt-ltb, le-ltb, ne_eqb, eq-eqb}
use Rattle.std.specs.Prelude.{None, Some}
use Rattle.output.specs.Ascii.{ascii}
use Rattle.output.proofs.Order.{by_order}
use Rattle.outcome.specs.Outcome.{outside}
use Rattle.outcome.proofs.Outcome.{inside}
use Rattle.numbers.specs.declared.Letters.TheVariants.{Lower}
use Rattle.numbers.specs.Digits.{digit_count, number_text}
use Rattle.numbers.proofs.Digits.{count_last, count_more, number_length, padded_length}
use Rattle.digits.specs.Bytes.{base_bits}
use Rattle.ordering.specs.Order.{absent, offset_from}
use Rattle.ordering.proofs.Numbered.{offset_some, offset_none}
use Rattle.listing.specs.declared.FormatAnnotatedOptions.{FormatAnnotatedOptions}
use Rattle.listing.specs.declared.Widths.{Widths}
use Rattle.listing.specs.Listing.{out_of_range, bad_annotated, content_digits, content_need, addr_title, wider, widths_of, at_right, heading}

-- The options are bad where one of them is, and are not where none is.
pub bad_base : (o : FormatAnnotatedOptions) → base_bits o.base ≡ 0 → bad_annotated o ≡ true
unfolding bad_annotated
bad_base o e = simp (eq-eqb (base_bits o.base) 0 e)

pub bad_other : (o : FormatAnnotatedOptions) → out_of_range o ≡ true → bad_annotated o ≡ true
unfolding bad_annotated
bad_other o e = rw e (or_true (eqb (base_bits o.base) 0))
  where
    or_true : (b : Bool) → b || true ≡ true
    or_true true = refl
    or_true false = refl

pub none_bad : (o : FormatAnnotatedOptions) (w : ℕ) → w ≡ base_bits o.base → 0 < w → out_of_range o ≡ false → bad_annotated o ≡ false
unfolding bad_annotated
none_bad o w e h f = simp (ne_eqb (base_bits o.base) 0 (λ z. absurd (omega (arith, e, h, z))), f)

-- What is known of options in their range.
pub radix_inside : (o : FormatAnnotatedOptions) → out_of_range o ≡ false → (2 ≤ o.addr_base) × (o.addr_base ≤ 36)
unfolding out_of_range
radix_inside o e = inside 2 36 o.addr_base ((or-eq-false-eq-eq-false-and-eq-false (outside 2 36 o.addr_base) _).0 e).0

pub group_inside : (o : FormatAnnotatedOptions) → out_of_range o ≡ false → (0 < o.digits_per_group) × (o.digits_per_group ≤ 64)
unfolding out_of_range
group_inside o e =
    let f = ((or-eq-false-eq-eq-false-and-eq-false (outside 2 36 o.addr_base) _).0 e).1 in
    let g = inside 1 64 o.digits_per_group ((or-eq-false-eq-eq-false-and-eq-false (outside 1 64 o.digits_per_group) _).0 f).0 in
    (omega (arith, g), g.1)

-- What a span asks of the contents column, where it asks for nothing and where not.
pub need_few : (o : FormatAnnotatedOptions) (size : ℕ) → content_digits o size + content_digits o size / o.digits_per_group < 2 → content_need o size ≡ 0
unfolding content_need
need_few o size h = simp (lt-ltb _ _ h)

pub need_many : (o : FormatAnnotatedOptions) (size : ℕ)
    → 2 ≤ content_digits o size + content_digits o size / o.digits_per_group
    → (o.digits_per_group + 1) * 5 < content_digits o size + content_digits o size / o.digits_per_group
    → content_need o size ≡ 0
unfolding content_need
need_many o size l h = simp (le-ltb _ _ l, lt-ltb _ _ h)

pub need_own : (o : FormatAnnotatedOptions) (size : ℕ)
    → 2 ≤ content_digits o size + content_digits o size / o.digits_per_group
    → content_digits o size + content_digits o size / o.digits_per_group ≤ (o.digits_per_group + 1) * 5
    → content_need o size ≡ content_digits o size + content_digits o size / o.digits_per_group - 1
unfolding content_need
need_own o size l h = simp (le-ltb _ _ l, le-ltb _ _ h)

-- A number below 100 has at most two digits.
pub two_digits : (n : ℕ) → n < 100 → digit_count 10 n ≤ 2
two_digits n h =
    by_order n 10
    (λ l. omega (arith, count_last 10 n l))
    (λ l. omega (arith, count_more 10 n (omega arith) l, count_last 10 (n / 10) (omega arith)))

-- The title of the address column.
pub title_16 : (base : ℕ) → base ≡ 16 → addr_title base ≡ ascii "addr"
unfolding addr_title
title_16 base e = simp (eq-eqb base 16 e)

pub title_other : (base : ℕ) → base ≢ 16 → addr_title base ≡ ascii "addr (base " ++ (number_text Lower 10 base ++ ascii ")")
unfolding addr_title
title_other base e = simp (ne_eqb base 16 e)

pub title_other_length : (base : ℕ) → base ≢ 16 → length (addr_title base) ≡ 12 + digit_count 10 base
title_other_length base e =
    ap length (title_other base e) ∙ omega (arith, length-append (ascii "addr (base ") (number_text Lower 10 base ++ ascii ")"), length-append (number_text Lower 10 base) (ascii ")"), number_length Lower 10 base)

-- The heading's length.
pub heading_parts : (o : FormatAnnotatedOptions) (w : Widths)
    → length (heading o w) ≡ 21 + max (w.outp + w.outp_bit + 1) 4 + max w.addr (length (addr_title o.addr_base)) + digit_count 10 o.base
unfolding heading
heading_parts o w =
    let outp = padded_length 32 (w.outp + w.outp_bit + 1) (ascii "outp") in
    let addr = padded_length 32 w.addr (addr_title o.addr_base) in
    let base = number_length Lower 10 o.base in
    let t₁ = number_text Lower 10 o.base ++ ascii ")\n\n" in
    let t₂ = ascii " | data (base " ++ t₁ in
    let t₃ = at_right w.addr (addr_title o.addr_base) ++ t₂ in
    let t₄ = ascii " | " ++ t₃ in
    omega (
      arith,
      length-append (number_text Lower 10 o.base) (ascii ")\n\n"),
      length-append (ascii " | data (base ") t₁,
      length-append (at_right w.addr (addr_title o.addr_base)) t₂,
      length-append (ascii " | ") t₃,
      length-append (at_right (w.outp + w.outp_bit + 1) (ascii "outp")) t₄,
      length-append (ascii " ") (at_right (w.outp + w.outp_bit + 1) (ascii "outp") ++ t₄),
    )

-- The widths with one span more: the same where its offset is absent.
pub widths_absent : (o : FormatAnnotatedOptions) (offsets sizes addrs : List ℕ) (n : ℕ) → offset_from (get_or offsets n 0) ≡ None
    → widths_of o offsets sizes addrs (n + 1) ≡ widths_of o offsets sizes addrs n
unfolding widths_of
widths_absent o offsets sizes addrs n e = rw add-one (simp (eq-eqb _ _ (offset_none _ e)))

-- The same of an offset that is there.
pub widths_there : (o : FormatAnnotatedOptions) (offsets sizes addrs : List ℕ) (n m : ℕ) → offset_from (get_or offsets n 0) ≡ Some m
    → widths_of o offsets sizes addrs (n + 1) ≡ wider o (widths_of o offsets sizes addrs n) m (get_or sizes n 0) (get_or addrs n 0)
unfolding widths_of
widths_there o offsets sizes addrs n m e =
    let there = offset_some _ _ e in
    rw (add-one, ← there.0) (simp (ne_eqb _ _ there.1))
