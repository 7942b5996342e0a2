use Rattle.std.proofs.Common.{◌≡◌, ◌+◌, ◌*◌, ◌%◌}
use Rattle.output.specs.Writes.{Writes}
use Rattle.hex_records.specs.Text.{bytes_from, total, hex_bytes}
use Rattle.hex_records.proofs.put_data_bytes.Given as goal

abbrev pub invariant-loop-k : goal.invariant-loop-k
invariant-loop-k g l = (l.next ≡ l.at + 2 * l.k)
    × (l.added ≡ (l.sum + total (bytes_from l.image.bytes.now l.image.len l.fn.data_record.from.0 l.k)) % 256)
    × Writes (hex_bytes (bytes_from l.image.bytes.now l.image.len l.fn.data_record.from.0 l.k)) l.initial.out l.at l.out l.next
