-- `annotated::faults::excerpt_at` meets its contract: none for no location, and for one that is in no text.
-- Assumes nothing.
use mathlib.Core.Path.{sym, ◌∙◌}
use Rattle.listing.proofs.Locations.{location_some, location_none}
use Rattle.annotated.proofs.Sound.{misplaced_none, misplaced_there}
use Rattle.annotated.proofs.faults.excerpt_at.Goals as goal

pub returns-in_err-location : goal.returns-in_err-location
returns-in_err-location c file start end e =
    rw c.from_residual.ensures (misplaced_none c.args.sources.firmware.now c.args.sources.protocol.now file start end (location_none file start end (sym e ∙ c.in_err-location.was)))

pub returns-then-in_no_text : goal.returns-then-in_no_text
returns-then-in_no_text c file start end e =
    let said = location_some file start end c.in_ok-location.location (sym e ∙ c.in_ok-location.was) in
    misplaced_there c.args.sources.firmware.now c.args.sources.protocol.now file start end said.there
    ∙ (rw said.place at (sym c.in_no_text.ensures ∙ c.if-in_no_text.true))

pub returns : goal.returns
returns c file start end e =
    let said = location_some file start end c.in_ok-location.location (sym e ∙ c.in_ok-location.was) in (
      misplaced_there c.args.sources.firmware.now c.args.sources.protocol.now file start end said.there
          ∙ (rw said.place at (sym c.in_no_text.ensures ∙ c.if-in_no_text.false)),
      rw said.place at c.excerpt.ensures,
    )
