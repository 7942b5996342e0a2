-- `intelhex::text::write_hex` meets its contract: after k turns the records of k blocks are written, and behind all of them the end record.
-- Assumes nothing.
use Rattle.std.proofs.Common.{◌≡◌, ◌≤◌, length, min, arith, rules, length-append}
use mathlib.Core.List.{flat_map}
use Rattle.std.proofs.lemmas.Slice.Zip.{zip_turn, zip_end}
use Rattle.output.specs.Ascii.{ascii}
use Rattle.output.specs.Pieces.{pieces}
use Rattle.output.specs.Writes.{Writes}
use Rattle.output.proofs.Pieces.{pieces_none, pieces_next, pieces_room}
use Rattle.output.proofs.Writes.{writes_nothing, writes_then}
use Rattle.hex_records.specs.Plan.{block_plan}
use Rattle.hex_records.specs.Text.{record_text, hex_text}
use Rattle.hex_records.proofs.Plan.{Low, low_each, each_low, block_at, block_text, plan_pieces, plan_each}
use Rattle.intelhex.specs.InnerLent.{plan_of}
use Rattle.intelhex.proofs.text.write_hex.Goals as goal

pub loop-offset-init : goal.loop-offset-init
loop-offset-init c = rw (pieces_none _) (writes_nothing c.args.out.now 0)

pub invariant_of-block : goal.invariant_of-block
invariant_of-block c =
    let p = c.args.plan.plan in
    let l = c.loop-offset in
    let k = length l.yielded in
    let turn = zip_turn p.blocks.offsets.now p.blocks.sizes.now l.yielded _ _ c.next.new.self _ (search rules) (search rules) l.yielded_by (c.in-Some.field-0-0, c.in-Some.field-0-1) c.in-Some.is c.next.ensures.steps in
    let low = each_low (block_plan p.unit.bits (block_at p.blocks.offsets.now p.blocks.sizes.now k))
    (plan_each Low p.unit.bits p.blocks.offsets.now p.blocks.sizes.now (low_each (plan_of p) c.args.plan.low) k turn.0) in
    record { low = rw (turn.2 0, turn.3 0) low }

pub put_records-next-requires : goal.put_records-next-requires
unfolding hex_text
put_records-next-requires c =
    let a = c.args in
    let p = a.plan.plan in
    let l = c.loop-offset in
    let k = length l.yielded in
    let turn = zip_turn p.blocks.offsets.now p.blocks.sizes.now l.yielded _ _ c.next.new.self _ (search rules) (search rules) l.yielded_by (c.in-Some.field-0-0, c.in-Some.field-0-1) c.in-Some.is c.next.ensures.steps in
    let f = block_text a.image.bytes.now a.image.len p.unit.bits p.blocks.offsets.now p.blocks.sizes.now in
    let all = flat_map (record_text a.image.bytes.now a.image.len) (plan_of p) in
    let measured : length all ≤ length a.out.now = omega (arith, c.requires, length-append all (ascii ":00000001FF")) in
    let blocks : length (pieces f (length p.blocks.offsets.now)) ≤ length a.out.now =
    rw (← plan_pieces a.image.bytes.now a.image.len p.unit.bits p.blocks.offsets.now p.blocks.sizes.now) measured in
    rw (turn.2 0, turn.3 0) (omega (arith, pieces_room f k (length p.blocks.offsets.now) turn.0, blocks, l.invariant.next, l.auto.out))

pub loop-offset-preserved : goal.loop-offset-preserved
loop-offset-preserved c =
    let a = c.args in
    let p = a.plan.plan in
    let l = c.loop-offset in
    let turn = zip_turn p.blocks.offsets.now p.blocks.sizes.now l.yielded _ _ c.next.new.self _ (search rules) (search rules) l.yielded_by (c.in-Some.field-0-0, c.in-Some.field-0-1) c.in-Some.is c.next.ensures.steps in
    rw (length-append, pieces_next (block_text a.image.bytes.now a.image.len p.unit.bits p.blocks.offsets.now p.blocks.sizes.now) (length l.yielded), ← turn.2 0, ← turn.3 0)
    (writes_then l.invariant c.put_records-next.ensures)

-- All records are written where the loop ends.
pub put_all-requires : goal.put_all-requires
unfolding hex_text
put_all-requires c =
    let a = c.args in
    let p = a.plan.plan in
    let l = c.loop-offset in
    let end : length l.yielded ≡ min (length p.blocks.offsets.now) (length p.blocks.sizes.now) =
    zip_end p.blocks.offsets.now p.blocks.sizes.now l.yielded _ _ c.next.new.self _ (search rules) (search rules) l.yielded_by c.in-None.is c.next.ensures.steps in
    let done : length l.yielded ≡ length p.blocks.offsets.now = omega (arith, end, p.blocks.same_length) in
    let all = flat_map (record_text a.image.bytes.now a.image.len) (plan_of p) in
    let written : Writes all a.out.now 0 l.out l.next =
    rw (plan_pieces a.image.bytes.now a.image.len p.unit.bits p.blocks.offsets.now p.blocks.sizes.now, ← done) l.invariant in
    omega (arith, c.requires, length-append all (ascii ":00000001FF"), written.next, l.auto.out)

pub returns : goal.returns
unfolding hex_text
returns c =
    let a = c.args in
    let p = a.plan.plan in
    let l = c.loop-offset in
    let end : length l.yielded ≡ min (length p.blocks.offsets.now) (length p.blocks.sizes.now) =
    zip_end p.blocks.offsets.now p.blocks.sizes.now l.yielded _ _ c.next.new.self _ (search rules) (search rules) l.yielded_by c.in-None.is c.next.ensures.steps in
    let done : length l.yielded ≡ length p.blocks.offsets.now = omega (arith, end, p.blocks.same_length) in
    let all = flat_map (record_text a.image.bytes.now a.image.len) (plan_of p) in
    let written : Writes all a.out.now 0 l.out l.next =
    rw (plan_pieces a.image.bytes.now a.image.len p.unit.bits p.blocks.offsets.now p.blocks.sizes.now, ← done) l.invariant in
    writes_then written c.put_all.ensures
