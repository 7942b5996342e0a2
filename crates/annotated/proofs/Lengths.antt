-- Laws of the columns of a span list: whether they are of one length.
-- Assumes nothing.
use mathlib.Core.Path.{◌≡◌, refl, sym}
use mathlib.Core.Bool.{Bool, true, false, cond, not, ◌||◌}
use lib.Dec.{eqb, ltb}
use lib.ListN.{length}
use borrow.Author.Tests.{eq-eqb}
use Rattle.outcome.specs.declared.Refusal.{Refusal}
use Rattle.outcome.specs.Outcome.{Outcome, refused, refusal_of}
use Rattle.span_list.specs.Range.{IsCause, long_list, fault_at, spans_checked}
use Rattle.span_list.proofs.Good.{checked_refused, checked_good}
use Rattle.listing.specs.declared.ListedSpans.{ListedSpans}
use Rattle.listing.specs.Listing.{Spans, lent, unequal}

-- They are not unequal where each is as long as the offsets.
even : (s : ListedSpans) → unequal (lent s.columns) ≡ false
unfolding unequal
even s =
    let c = lent s.columns in
    let n = length c.offsets in
    simp (eq-eqb n (length c.addrs) (sym s.same_addrs), eq-eqb n (length c.files) (sym s.same_files), eq-eqb n (length c.starts) (sym s.same_starts), eq-eqb n (length c.ends) (sym s.same_ends))

-- What columns are checked to, their lengths first.
module _ (good : Outcome) where
  abbrev pub checked : Spans → Outcome
  checked s = cond (unequal s) (refused 3 4096) (spans_checked refused s.offsets s.sizes good)

  -- Those that are not of one length are refused as a long list is.
  pub columns_refused : (s : Spans) → (unequal s || not (eqb (length s.offsets) (length s.sizes))) ≡ true → checked s ≡ refused 3 4096
  unfolding long_list
  columns_refused s = go (unequal s) (ltb 4096 (length s.offsets)) (not (eqb (length s.offsets) (length s.sizes)))
    where
      go : (u l d : Bool) → (u || d) ≡ true
          → cond u (refused 3 4096) (cond (l || d) (refused 3 4096) (cond (ltb (fault_at s.offsets s.sizes) (length s.offsets)) (refused 3 (fault_at s.offsets s.sizes)) good)) ≡ refused 3 4096
      go true l d e = refl
      go false true d e = refl
      go false false d e = rw e refl

  pub list_refused : (s : ListedSpans) (r : Refusal) → IsCause s.columns.offsets.now s.columns.sizes.now r → checked (lent s.columns) ≡ refused (refusal_of r).number (refusal_of r).value
  list_refused s r c = rw (even s) (checked_refused refused good s.columns.offsets.now s.columns.sizes.now r c)

  pub list_good : (s : ListedSpans) → long_list s.columns.offsets.now s.columns.sizes.now ≡ false → fault_at s.columns.offsets.now s.columns.sizes.now ≡ length s.columns.offsets.now
      → checked (lent s.columns) ≡ good
  list_good s l f = rw (even s) (checked_good refused good s.columns.offsets.now s.columns.sizes.now l f)
