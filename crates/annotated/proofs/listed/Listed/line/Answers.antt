-- `annotated::listed::Listed::line` meets its contract: a span that is shown has an excerpt, since no span has a fault, and its numbers fit in the columns.
-- Assumes nothing.
use mathlib.Core.Path.{◌≡◌, sym, ◌∙◌}
use mathlib.Core.Bool.{true, false}
use Prim.Native.Nat.{ℕ, ◌<◌}
use lib.ListN.{length, get_or}
use Rattle.ordering.proofs.Numbered.{offset_lent}
use Rattle.listing.specs.Listing.{lent, span_line, shown}
use Rattle.annotated.specs.Annotated.{misplaced}
use Rattle.annotated.specs.declared.listed.Listed.{Listed}
use Rattle.annotated.proofs.Fits.{fits_at}
use Rattle.annotated.proofs.Sound.{differ, placed, sound_at, excerpt_short}
use Rattle.annotated.proofs.listed.Listed.line.Goals as goal

-- the location of a span that is shown is in a text
in_text : (s : Listed) (place : ℕ) → place < length s.spans.columns.offsets.now → shown s.layout.options.given (get_or s.spans.columns.sizes.now place 0) ≡ true
    → misplaced s.sources.firmware.now s.sources.protocol.now (get_or s.spans.columns.files.now place 0) (get_or s.spans.columns.starts.now place 0) (get_or s.spans.columns.ends.now place 0) ≡ false
in_text s place h e =
    placed s.layout.options.given s.sources.firmware.now s.sources.protocol.now _ _ _ _ _
    (sound_at s.layout.options.given (lent s.spans.columns) s.sources.firmware.now s.sources.protocol.now s.sound place h)
    e

pub returns-then-not-shown : goal.returns-then-not-shown
unfolding span_line
returns-then-not-shown c = simp (rw c.span-span.ensures.size at (sym c.shown.ensures ∙ c.if-not-shown.true))

pub returns-in_err-excerpt : goal.returns-in_err-excerpt
returns-in_err-excerpt c =
    let seen = rw c.span-span.ensures.size at (sym c.shown.ensures ∙ c.if-not-shown.false) in
    absurd (differ (sym (c.in_err-excerpt.ensures _ _ _ c.span-span.ensures.location) ∙ in_text c.args.self c.args.place c.requires seen))

pub invariant_of-result : goal.invariant_of-result
invariant_of-result c =
    let a = c.args.self in
    let s = a.spans.columns in
    let span = c.span-span.ensures in
    record {
      fits = rw (span.offset, offset_lent (get_or s.offsets.now c.args.place 0), span.size, span.addr, a.wide) (fits_at a.layout.options.given s.offsets.now s.sizes.now s.addrs.now (length s.offsets.now) c.args.place c.requires);
    }

pub returns : goal.returns
unfolding span_line
returns c =
    let a = c.args.self in
    let span = c.span-span.ensures in
    let text = c.in_ok-excerpt.ensures _ _ _ span.location in
    let seen = rw span.size at (sym c.shown.ensures ∙ c.if-not-shown.false) in (
      rw (span.offset, offset_lent (get_or a.spans.columns.offsets.now c.args.place 0), span.size, span.addr, text.1) (simp seen),
      rw text.1 (excerpt_short a.sources.firmware.now a.sources.protocol.now _ _ _ 1048576 a.short_firmware a.short_protocol),
    )
