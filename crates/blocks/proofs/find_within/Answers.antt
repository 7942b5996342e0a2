-- `blocks::find_within` meets its contract: the front of the places is the order, in which the blocks are counted and stored.
-- Assumes nothing.
use Rattle.std.proofs.Common.{◌≡◌, ℕ, ◌≤◌, List, length, take, replicate, sym, arith, lt-ltb, le-ltb}
use Rattle.std.proofs.lemmas.List.{length-replicate}
use Rattle.std.proofs.lemmas.List.Edits.{sets}
use Rattle.ordering.specs.Order.{in_order}
use Rattle.output.proofs.Lists.{sets_front}
use Rattle.ordering.proofs.Keys.{in_order_length}
use Rattle.blocks.proofs.Running.{blocks_few}
use Rattle.blocks.proofs.Finding.{finds_blocks, finds_no_room}
use Rattle.blocks.proofs.find_within.Goals as goal
use Rattle.blocks.proofs.find_within.Goals.{then-block_offsets-count-via-then-block_offsets-count, then-block_offsets-count-via-else-block_offsets-count+then-block_sizes-count, then-block_offsets-n+else-block_offsets-count+else-block_sizes-count, else-block_offsets-n+else-block_sizes-n}

places_front : (offsets places : List ℕ) (n : ℕ) → length offsets ≤ n → places ≡ sets (replicate n 0) 0 (in_order offsets) → take (length offsets) places ≡ in_order offsets
places_front offsets places n h s =
    let size = in_order_length offsets in
    rw s (sets_front (replicate n 0) (in_order offsets) (length offsets) (omega (arith, h, size, length-replicate {A = ℕ} n 0)) (sym size))

pub close_all-count-requires : goal.close_all-count-requires
close_all-count-requires g c = places_front c.args.spans.list.offsets.now c.order_within.new.places g.row.N c.requires.0 c.order_within.ensures

pub returns-then-block_offsets-count : goal.returns-then-block_offsets-count
returns-then-block_offsets-count g c =
    let a = c.args in
    let n = c.close_all-count.result in
    let no_room = finds_no_room a.spans.list.offsets.now a.spans.list.sizes.now a.block_offsets.now a.block_sizes.now a.spans.short a.spans.good n (omega (arith, c.close_all-count.ensures.counted)) in
    elim c.then-block_offsets-count.branch [
      | then-block_offsets-count-via-then-block_offsets-count w ↦ no_room (simp (lt-ltb _ _ w.if-block_offsets-count.true))
      | then-block_offsets-count-via-else-block_offsets-count+then-block_sizes-count w ↦
          no_room (simp (le-ltb _ _ w.if-block_offsets-count.false, lt-ltb _ _ w.if-block_sizes-count.true))
    ]

pub close_all-requires : goal.close_all-requires
close_all-requires g c = places_front c.args.spans.list.offsets.now c.order_within.new.places g.row.N c.requires.0 c.order_within.ensures

pub returns : goal.returns
returns g c =
    let a = c.args in
    let l = a.spans.list in
    let few = blocks_few l.offsets.now l.sizes.now in
    let enough = finds_blocks l.offsets.now l.sizes.now a.block_offsets.now c.close_all.new.block_offsets a.block_sizes.now c.close_all.new.block_sizes a.spans.short a.spans.good in
    elim c.if-block_offsets-n.branch [
      | then-block_offsets-n+else-block_offsets-count+else-block_sizes-count w ↦
          let counted = w.close_all-count.ensures.counted in
          enough (omega (arith, counted, w.if-block_offsets-count.false)) (omega (arith, counted, w.if-block_sizes-count.false)) c.close_all.result c.close_all.ensures
      | else-block_offsets-n+else-block_sizes-n w ↦
          enough (omega (arith, few, w.if-block_offsets-n.false)) (omega (arith, few, w.if-block_sizes-n.false)) c.close_all.result c.close_all.ensures
    ]
