-- `hex_records::put_data_bytes` meets its contract: after k turns k bytes are written and added.
-- Assumes nothing.
use Rattle.std.proofs.Common.{[], ◌∷◌, arith}
use Rattle.numbers.specs.Digits.{byte_text}
use Rattle.output.proofs.Writes.{writes_nothing, writes_then}
use Rattle.hex_records.specs.Text.{bytes_from, total}
use Rattle.hex_records.proofs.Sums.{total_append}
use Rattle.hex_records.proofs.Text.{bytes_none, bytes_next, hex_none, hex_append, hex_one}
use Rattle.hex_records.proofs.put_data_bytes.Goals as goal

pub loop-k-init : goal.loop-k-init
unfolding total
loop-k-init g c =
    let a = c.args in
    let none = bytes_none a.image.bytes.now a.image.len a.data_record.from.0 in
    (omega arith, rw none (omega arith), rw (none, hex_none) (writes_nothing a.out.now a.at))

pub loop-k-preserved : goal.loop-k-preserved
unfolding byte_text total
loop-k-preserved g c =
    let l = c.loop-k in
    let a = c.args in
    let byte = c.byte_at-byte.result in
    let done = bytes_from a.image.bytes.now a.image.len a.data_record.from.0 l.k in
    let next = bytes_next a.image.bytes.now a.image.len a.data_record.from.0 l.k in
    let read = c.requires.bytes l.k byte c.loop-k-test.true c.byte_at-byte.ensures in (
      omega (arith, c.put_byte-next.ensures.next),
      rw (next, ← read, total_append done (byte ∷ [])) (omega (arith, l.invariant.1)),
      rw (next, ← read, hex_append done (byte ∷ []), hex_one) (writes_then l.invariant.2 c.put_byte-next.ensures),
    )
