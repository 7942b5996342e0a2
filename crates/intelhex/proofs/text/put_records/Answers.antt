-- `intelhex::text::put_records` meets its contract: after n turns n records are written.
-- Assumes nothing.
use Rattle.std.proofs.Common.{◌≡◌, ℕ, ◌+◌, ◌*◌, ◌<◌, List, length, ap, sym, ◌∙◌, arith}
use Rattle.bitvec.specs.Size.{ceil_div}
use Rattle.output.proofs.Pieces.{pieces_none, pieces_next, pieces_room}
use Rattle.output.proofs.Writes.{writes_nothing, writes_then}
use Rattle.hex_records.specs.InnerLent.{chunk_of}
use Rattle.intelhex.specs.InnerLent.{block_of}
use Rattle.hex_records.specs.Plan.{chunk_at}
use Rattle.hex_records.specs.Text.{record_text}
use Rattle.hex_records.proofs.Text.{record_length}
use Rattle.hex_records.proofs.Plan.{block_pieces}
use Rattle.intelhex.proofs.text.put_records.Goals as goal

pub loop-n-init : goal.loop-n-init
loop-n-init c = rw (pieces_none _) (writes_nothing c.args.out.now c.args.at)

pub put_record-next-requires : goal.put_record-next-requires
put_record-next-requires c =
    let a = c.args in
    let l = c.loop-n in
    let f : ℕ → List ℕ = λ n. record_text a.image.bytes.now a.image.len (chunk_at a.block.unit.bits (block_of a.block.block) n) in
    let size : length (f l.n) ≡ 12 + 2 * c.«record».result.count =
    ap (λ k. length (record_text a.image.bytes.now a.image.len k)) (sym c.«record».ensures) ∙ record_length a.image.bytes.now a.image.len (chunk_of c.«record».result) in
    let more : l.n < ceil_div (ceil_div a.block.block.size 8) 32 = rw (← c.record_count-n-end.ensures) c.loop-n-test.true in
    let whole = ap length (block_pieces a.image.bytes.now a.image.len a.block.unit.bits (block_of a.block.block)) in
    omega (arith, pieces_room f l.n _ more, size, whole, l.invariant.next, l.auto.out, c.requires)

pub loop-n-preserved : goal.loop-n-preserved
loop-n-preserved c = rw (pieces_next _ c.loop-n.n, ← c.«record».ensures) (writes_then c.loop-n.invariant c.put_record-next.ensures)

pub returns : goal.returns
returns c =
    let a = c.args in
    let done : c.loop-n.n ≡ ceil_div (ceil_div a.block.block.size 8) 32 = omega (arith, c.record_count-n-end.ensures) in
    rw (block_pieces a.image.bytes.now a.image.len a.block.unit.bits (block_of a.block.block), ← done) c.loop-n.invariant
