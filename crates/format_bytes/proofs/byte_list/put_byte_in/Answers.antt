-- `format_bytes::byte_list::put_byte_in` meets its contract: one case for each radix.
-- Assumes nothing.
use Rattle.output.proofs.Writes.{writes_then}
use Rattle.format_bytes.specs.Bytes.{byte_in}
use Rattle.format_bytes.proofs.byte_list.put_byte_in.Goals as goal

pub returns-in-Decimal : goal.returns-in-Decimal
unfolding byte_in
returns-in-Decimal c = rw c.in-Decimal.is c.put_decimal.ensures

pub returns-in-Hex : goal.returns-in-Hex
unfolding byte_in
returns-in-Hex c = rw c.in-Hex.is (writes_then c.put_all-next.ensures c.put_byte.ensures)
