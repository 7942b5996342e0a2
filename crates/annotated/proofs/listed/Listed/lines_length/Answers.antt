-- `annotated::listed::Listed::lines_length` meets its contract: after k turns the length is that of k lines.
-- Assumes nothing.
use mathlib.Core.Path.{◌≡◌, ap, sym}
use mathlib.Core.List.{List}
use Prim.Native.Nat.{ℕ, ◌≤◌, ◌<◌}
use native.Mathlib.Omega.{arith}
use lib.ListN.{length, get_or, length-append}
use Rattle.output.specs.Pieces.{pieces}
use Rattle.output.proofs.Pieces.{pieces_none, pieces_next}
use Rattle.output.proofs.Lists.{each_get}
use Rattle.output.proofs.Flat.{flat_places}
use Rattle.ordering.proofs.Keys.{in_order_length, in_order_below}
use Rattle.annotated.specs.InnerListed.{shown_line}
use Rattle.annotated.proofs.listed.Listed.lines_length.Goals as goal

pub loop-place-init : goal.loop-place-init
loop-place-init c = (sym (ap length (pieces_none _)), omega arith)

pub shown_length-needed-requires : goal.shown_length-needed-requires
shown_length-needed-requires c =
    let offsets = c.args.self.spans.columns.offsets.now in
    each_get (λ p. p < length offsets) c.args.places.now c.loop-place.place-index 0 (rw c.requires (in_order_below offsets)) c.loop-place-test.true

pub overflow_add-needed : goal.overflow_add-needed
overflow_add-needed c =
    let few = in_order_length c.args.self.spans.columns.offsets.now in
    record { fits = omega (arith, c.loop-place.invariant.1, c.shown_length-needed.ensures.1, c.loop-place-test.true, ap length c.requires, few, c.args.self.few) }

pub loop-place-preserved : goal.loop-place-preserved
loop-place-preserved c =
    let l = c.loop-place in
    let k = l.place-index in
    let line = c.shown_length-needed.ensures in
    let f : ℕ → List ℕ = λ j. shown_line c.args.self (get_or c.args.places.now j 0) in (
      omega (arith, l.invariant.0, line.0, ap length (pieces_next f k), length-append (pieces f k) (f k)),
      omega (arith, l.invariant.1, line.1),
    )

pub returns : goal.returns
returns c =
    let l = c.loop-place in
    let a = c.args in
    let done : l.place-index ≡ length a.places.now = omega arith in
    let few : length a.places.now ≤ 4096 = omega (arith, ap length c.requires, in_order_length a.self.spans.columns.offsets.now, a.self.few) in (
      rw (← c.requires, flat_places _ a.places.now 0, ← done) l.invariant.0,
      omega (arith, l.invariant.1, few),
    )
