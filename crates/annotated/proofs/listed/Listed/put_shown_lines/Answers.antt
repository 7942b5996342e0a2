-- `annotated::listed::Listed::put_shown_lines` meets its contract: after k turns k lines are written.
-- Assumes nothing.
use mathlib.Core.Path.{◌≡◌, refl, ap}
use mathlib.Core.List.{List, flat_map}
use Prim.Native.Nat.{ℕ, ◌+◌, ◌≤◌, ◌<◌}
use native.Mathlib.Omega.{arith}
use lib.ListN.{length, get_or}
use Rattle.output.proofs.Pieces.{pieces_none, pieces_next, pieces_room}
use Rattle.output.proofs.Writes.{writes_nothing, writes_then, writes_length}
use Rattle.output.proofs.Lists.{each_get}
use Rattle.output.proofs.Flat.{flat_places}
use Rattle.ordering.proofs.Keys.{in_order_below}
use Rattle.annotated.specs.InnerListed.{shown_line}
use Rattle.annotated.proofs.listed.Listed.put_shown_lines.Goals as goal

pub loop-place-init : goal.loop-place-init
loop-place-init c = (rw pieces_none (writes_nothing _ _), refl)

pub put_shown-next-requires : goal.put_shown-next-requires
put_shown-next-requires c =
    let a = c.args in
    let l = c.loop-place in
    let offsets = a.self.spans.columns.offsets.now in
    let line : ℕ → List ℕ = λ k. shown_line a.self (get_or a.places.now k 0) in
    let one = pieces_room line l.place-index (length a.places.now) c.loop-place-test.true in
    let room : a.at + length (flat_map (shown_line a.self) a.places.now) ≤ length a.out.now = rw c.requires.places c.requires.room in
    record {
      place = each_get (λ p. p < length offsets) a.places.now l.place-index 0 (rw c.requires.places (in_order_below offsets)) c.loop-place-test.true;
      room = omega (arith, one, l.invariant.0.next, l.invariant.1, room, ap length (flat_places (shown_line a.self) a.places.now 0));
    }

pub loop-place-preserved : goal.loop-place-preserved
loop-place-preserved c =
    let l = c.loop-place in (
      rw pieces_next (writes_then l.invariant.0 c.put_shown-next.ensures),
      omega (arith, l.invariant.1, writes_length c.put_shown-next.ensures),
    )

pub returns : goal.returns
returns c =
    let l = c.loop-place in
    let a = c.args in
    let done : l.place-index ≡ length a.places.now = omega arith in
    rw (← c.requires.places, flat_places _ a.places.now 0) (rw done at l.invariant.0)
