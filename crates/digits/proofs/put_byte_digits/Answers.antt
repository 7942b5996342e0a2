-- `digits::put_byte_digits` meets its contract: one case for each kind of digits.
-- Assumes nothing.
use Rattle.digits.specs.Bytes.{byte_digits}
use Rattle.digits.proofs.put_byte_digits.Goals as goal

pub returns-in-Binary : goal.returns-in-Binary
unfolding byte_digits
returns-in-Binary c = rw c.in-Binary.is c.put_bits.ensures

pub returns-in-Hex : goal.returns-in-Hex
unfolding byte_digits
returns-in-Hex c = rw c.in-Hex.is c.put_byte.ensures
