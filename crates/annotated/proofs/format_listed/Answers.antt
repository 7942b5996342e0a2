-- `annotated::format_listed` meets its contract: the refusals in their order, and then the listing.
-- Assumes nothing.
use mathlib.Core.Path.{refl, sym, ◌∙◌}
use native.Mathlib.Omega.{arith}
use lib.ListN.{length}
use borrow.Author.Tests.{lt-ltb, le-ltb}
use Rattle.sources.proofs.Files.{short_text}
use Rattle.annotated.specs.Annotated.{listed_outcome}
use Rattle.annotated.proofs.format_listed.Goals.{then-bad_text-via-then-bad_text, then-bad_text-via-else-bad_text+then-bad_text-2}
use Rattle.annotated.proofs.format_listed.Goals as goal

pub returns-then-bad_text : goal.returns-then-bad_text
unfolding listed_outcome
returns-then-bad_text c =
    elim c.then-bad_text.branch [
      | then-bad_text-via-then-bad_text w ↦ simp (sym c.bad_text.ensures ∙ w.if-bad_text.true) record { answered = refl; buffer = refl }
      | then-bad_text-via-else-bad_text+then-bad_text-2 w ↦
          simp (sym c.bad_text.ensures ∙ w.if-bad_text.false, sym w.bad_text-else-bad_text.ensures ∙ w.if-bad_text-2.true) record { answered = refl; buffer = refl }
    ]

pub returns-in-Some : goal.returns-in-Some
unfolding listed_outcome
returns-in-Some c =
    simp (sym c.bad_text.ensures ∙ c.if-bad_text.false, sym c.bad_text-else-bad_text.ensures ∙ c.if-bad_text-2.false, ← c.in-Some.ensures.1, lt-ltb _ _ c.in-Some.ensures.0)
    record { answered = refl; buffer = refl }

pub invariant_of-listed : goal.invariant_of-listed
invariant_of-listed c =
    record {
      few = c.requires;
      wide = c.column_widths-widths.ensures.measured;
      short_firmware = short_text _ (sym c.bad_text.ensures ∙ c.if-bad_text.false);
      short_protocol = short_text _ (sym c.bad_text-else-bad_text.ensures ∙ c.if-bad_text-2.false);
      sound = c.in_default.ensures;
    }

pub returns : goal.returns
unfolding listed_outcome
returns c =
    let n = length c.args.spans.columns.offsets.now in
    simp (sym c.bad_text.ensures ∙ c.if-bad_text.false, sym c.bad_text-else-bad_text.ensures ∙ c.if-bad_text-2.false, c.in_default.ensures, le-ltb n n (omega arith))
    c.list.ensures
