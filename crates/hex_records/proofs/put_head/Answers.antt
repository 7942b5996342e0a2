-- `hex_records::put_head` meets its contract: the writers one after another.
-- Assumes nothing.
use mathlib.Core.List.{flat_map}
use Rattle.numbers.specs.Digits.{byte_text}
use Rattle.output.proofs.Writes.{writes_then}
use Rattle.hex_records.specs.Text.{hex_bytes}
use Rattle.hex_records.proofs.put_head.Goals as goal

pub returns : goal.returns
unfolding byte_text flat_map hex_bytes
returns c =
    rw c.address_bytes.ensures at
    (writes_then c.put-mark.ensures
    (writes_then c.put_byte-length.ensures
    (writes_then c.put_byte-first.ensures
    (writes_then c.put_byte-second.ensures c.put_byte.ensures))))
