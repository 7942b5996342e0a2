-- `listing::contents::put_gap` meets its contract: a space before the first digit of a group, but not before the first of all.
-- Assumes nothing.
use mathlib.Core.Path.{ap}
use native.Mathlib.Omega.{arith}
use lib.ListN.{length}
use Rattle.output.specs.Pieces.{leading}
use Rattle.output.proofs.Writes.{writes_nothing}
use Rattle.listing.proofs.Digits.{gap_within, gap_between}
use Rattle.listing.proofs.contents.put_gap.Goals.{then-k-eq0-via-then-k-eq0, then-k-eq0-via-else-k-eq0+then-turn-ne0}
use Rattle.listing.proofs.contents.put_gap.Goals as goal

pub returns-then-k-eq0 : goal.returns-then-k-eq0
unfolding leading
returns-then-k-eq0 c =
    let a = c.args in
    elim c.then-k-eq0.branch [
      | then-k-eq0-via-then-k-eq0 w ↦ rw w.if-k-eq0.true (writes_nothing _ _)
      | then-k-eq0-via-else-k-eq0+then-turn-ne0 w ↦ rw (gap_within a.group a.k a.turn c.requires.0 w.if-turn-ne0.true) (writes_nothing _ _)
    ]

pub put-requires : goal.put-requires
put-requires c =
    let a = c.args in
    omega (arith, c.requires.1, ap length (gap_between a.group a.k a.turn c.requires.0 c.if-k-eq0.false c.if-turn-ne0.false))

pub returns : goal.returns
returns c =
    let a = c.args in
    rw (gap_between a.group a.k a.turn c.requires.0 c.if-k-eq0.false c.if-turn-ne0.false) c.put.ensures
