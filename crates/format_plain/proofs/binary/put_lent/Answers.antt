-- `format_plain::binary::put_lent` meets its contract: bytes are stored as they stand.
-- Assumes nothing.
use Rattle.format_plain.proofs.Whole.{all_bytes}
use Rattle.format_plain.proofs.binary.put_lent.Goals as goal

pub returns : goal.returns
returns c = rw (all_bytes c.args.bytes.now (λ k. (c.type_inv.bytes k).fits)) c.put_all.ensures
