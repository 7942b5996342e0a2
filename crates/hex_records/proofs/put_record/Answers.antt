-- `hex_records::put_record` meets its contract: the writers one after another; the last sum is the checksum's.
-- Assumes nothing.
use Rattle.std.proofs.Common.{◌≡◌, ℕ, ◌+◌, ◌-◌, ◌/◌, ◌%◌, List, [], ◌∷◌, ◌++◌, arith}
use Rattle.output.proofs.Writes.{writes_then}
use Rattle.hex_records.specs.Text.{checksum, record_bytes}
use Rattle.hex_records.specs.InnerLent.{chunk_of, data_of}
use Rattle.hex_records.proofs.Sums.{total_append}
use Rattle.hex_records.proofs.Text.{checksum_is, record_parts}
use Rattle.hex_records.proofs.put_record.Goals as goal

pub returns : goal.returns
unfolding record_bytes
returns c =
    let image = c.args.image in
    let r = c.args.data_record in
    let head : List ℕ = r.count ∷ r.address.0 / 256 ∷ r.address.0 % 256 ∷ 0 ∷ [] in
    let d = data_of image r in
    let sum = c.put_data-sum in
    let check = (0 + (256 - sum.result)) % 256 in
    let checked : check ≡ checksum (head ++ d) =
    checksum_is (head ++ d) sum.result check (omega (arith, sum.ensures.sum, c.head_sum.ensures, total_append head d)) (omega arith) (omega (arith, sum.type_inv)) in
    rw (record_parts image.bytes.now image.len (chunk_of r), ← checked)
    (writes_then c.put_head-data.ensures (writes_then sum.ensures.written (writes_then c.put_byte-end.ensures c.put.ensures)))
