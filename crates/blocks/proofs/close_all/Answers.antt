-- `blocks::close_all` meets its contract: at each turn the pass goes on as its definition says (proofs/Closing).
-- Assumes nothing.
use Rattle.std.proofs.Common.{◌≢◌, get_or, arith}
use Rattle.ordering.specs.Order.{absent}
use Rattle.span_list.proofs.Good.{good_span}
use Rattle.blocks.proofs.Closing.{place_below, closing_first, closing_at, closing_few, closing_absent, closing_joins, closing_closes, closing_stores}
use Rattle.blocks.proofs.close_all.Goals as goal
use Rattle.blocks.proofs.close_all.Goals.{then-offset-block, else-offset-block+then-offset, else-offset-block+else-offset}

pub loop-place-init : goal.loop-place-init
loop-place-init c =
    let a = c.args in
    rw c.requires (closing_first a.spans.list.offsets.now a.spans.list.sizes.now a.block_offsets.now a.block_sizes.now)

pub overflow_add-block-then-offset-block : goal.overflow_add-block-then-offset-block
overflow_add-block-then-offset-block c =
    let a = c.args in
    let l = c.loop-place in
    let p = get_or a.places.now l.place-index 0 in
    let e = c.if-offset-block.true in
    let n : get_or a.spans.list.offsets.now p 0 ≢ absent = λ d. omega (arith, e, d, l.invariant.ends) in
    let good = good_span a.spans.list.offsets.now a.spans.list.sizes.now a.spans.good p (place_below a.spans.list.offsets.now a.places.now l.place-index c.requires c.loop-place-test.true) n in
    record { fits = omega (arith, good, e) }

pub close-count-requires : goal.close-count-requires
close-count-requires c = omega (arith, closing_few c.loop-place.invariant, c.args.spans.few)

pub loop-place-preserved : goal.loop-place-preserved
loop-place-preserved c =
    let a = c.args in
    let l = c.loop-place in
    let p = get_or a.places.now l.place-index 0 in
    let turn = closing_at a.places.now l.place-index c.loop-place-test.true l.invariant in
    let good = good_span a.spans.list.offsets.now a.spans.list.sizes.now a.spans.good p (place_below a.spans.list.offsets.now a.places.now l.place-index c.requires c.loop-place-test.true) in
    elim c.if-offset-block.branch [
      | then-offset-block w ↦
          let e = w.if-offset-block.true in
          let n : get_or a.spans.list.offsets.now p 0 ≢ absent = λ d. omega (arith, e, d, l.invariant.ends) in
          rw (w.block_offsets-is, w.block_sizes-is, w.block-is, w.count-is) (closing_joins turn n (good n) e)
      | else-offset-block+then-offset w ↦
          let n = w.if-offset.true in
          rw (w.block_offsets-is, w.block_sizes-is, w.block-is, w.count-is) (closing_closes turn n (good n) w.if-offset-block.false w.close-count.ensures)
      | else-offset-block+else-offset w ↦
          rw (w.block_offsets-is, w.block_sizes-is, w.block-is, w.count-is) (closing_absent turn w.if-offset.false)
    ]

pub close-requires : goal.close-requires
close-requires c = omega (arith, closing_few c.loop-place.invariant, c.args.spans.few)

pub returns : goal.returns
returns c = closing_stores c.args.places.now c.loop-place.place-index (omega arith) c.loop-place.invariant c.close.ensures
