-- Laws of the widths of the columns: no span makes them wider, so that its numbers fit in them.
-- Assumes nothing.
use mathlib.Core.Path.{◌≡◌, refl, ap, ◌∙◌}
use mathlib.Core.Bool.{Bool, true, false, cond}
use mathlib.Core.List.{List}
use mathlib.Core.Logic.{◌≢◌}
use Prim.Native.Nat.{ℕ, zero, suc, ◌<◌}
use native.Mathlib.Omega.{arith}
use lib.Dec.{eqb}
use lib.ListN.{get_or}
use borrow.Author.Tests.{ne_eqb}
use Rattle.output.proofs.Order.{by_order}
use Rattle.ordering.specs.Order.{absent}
use Rattle.listing.specs.declared.FormatAnnotatedOptions.{FormatAnnotatedOptions}
use Rattle.listing.specs.declared.Widths.{Widths}
use Rattle.listing.specs.Listing.{wider, widths_of}

-- A span that has an offset makes the columns as wide as its numbers.
widened : (o : FormatAnnotatedOptions) (offsets sizes addrs : List ℕ) (n : ℕ) → get_or offsets n 0 ≢ absent
    → widths_of o offsets sizes addrs (suc n) ≡ wider o (widths_of o offsets sizes addrs n) (get_or offsets n 0) (get_or sizes n 0) (get_or addrs n 0)
unfolding widths_of
widened o offsets sizes addrs n e = simp (ne_eqb _ _ e)

-- Widths with the same numbers are the same.
abbrev widths : ℕ → ℕ → ℕ → ℕ → Widths
widths outp outp_bit addr content = record { outp = outp; outp_bit = outp_bit; addr = addr; content = content }

same : {a b c d e f g h : ℕ} → a ≡ e → b ≡ f → c ≡ g → d ≡ h → widths a b c d ≡ widths e f g h
same p q r s = rw (p, q, r, s) refl

-- A span widens the columns once, and two spans widen them in each order alike.
once : (o : FormatAnnotatedOptions) (w : Widths) (offset size address : ℕ) → wider o (wider o w offset size address) offset size address ≡ wider o w offset size address
unfolding wider
once o w offset size address = same (omega arith) (omega arith) (omega arith) (omega arith)

swapped : (o : FormatAnnotatedOptions) (w : Widths) (a b c d e f : ℕ) → wider o (wider o w a b c) d e f ≡ wider o (wider o w d e f) a b c
unfolding wider
swapped o w a b c d e f = same (omega arith) (omega arith) (omega arith) (omega arith)

-- A span that makes them no wider does not do so after one span more.
kept : (o : FormatAnnotatedOptions) (offsets sizes addrs : List ℕ) (n offset size address : ℕ)
    → wider o (widths_of o offsets sizes addrs n) offset size address ≡ widths_of o offsets sizes addrs n
    → wider o (widths_of o offsets sizes addrs (suc n)) offset size address ≡ widths_of o offsets sizes addrs (suc n)
unfolding widths_of
kept o offsets sizes addrs n offset size address f = go (eqb (get_or offsets n 0) absent)
  where
    before : Widths
    before = widths_of o offsets sizes addrs n

    more : Widths → Widths
    more w = wider o w (get_or offsets n 0) (get_or sizes n 0) (get_or addrs n 0)

    go : (b : Bool) → wider o (cond b before (more before)) offset size address ≡ cond b before (more before)
    go true = f
    go false = swapped o before _ _ _ offset size address ∙ ap more f

-- A span that is counted makes them no wider.
pub fits_at : (o : FormatAnnotatedOptions) (offsets sizes addrs : List ℕ) (n p : ℕ) → p < n → get_or offsets p 0 ≢ absent
    → wider o (widths_of o offsets sizes addrs n) (get_or offsets p 0) (get_or sizes p 0) (get_or addrs p 0) ≡ widths_of o offsets sizes addrs n
fits_at o offsets sizes addrs zero p h e = absurd (omega arith)
fits_at o offsets sizes addrs (suc n) p h e =
    by_order p n
    (λ l. kept o offsets sizes addrs n _ _ _ (fits_at o offsets sizes addrs n p l e))
    (λ l.
    let last : p ≡ n = omega arith in
    rw (last, widened o offsets sizes addrs n (rw last at e)) (once o (widths_of o offsets sizes addrs n) _ _ _))
