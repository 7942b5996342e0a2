-- `format_logisim::put_file` meets its contract: the first line, and then the chunks.
-- Assumes nothing.
use mathlib.Core.Path.{ap}
use native.Mathlib.Omega.{arith}
use lib.ListN.{length}
use Rattle.output.proofs.Writes.{writes_then, writes_length}
use Rattle.format_logisim.proofs.Lengths.{logisim_parts}
use Rattle.format_logisim.proofs.put_file.Goals as goal

pub put_all-next-requires : goal.put_all-next-requires
put_all-next-requires c =
    let i = c.args.parts.good.image in
    omega (arith, ap length (logisim_parts i.bytes.now i.len c.args.parts.width), c.requires)

pub put_parts-requires : goal.put_parts-requires
put_parts-requires c =
    let i = c.args.parts.good.image in
    omega (arith, ap length (logisim_parts i.bytes.now i.len c.args.parts.width), c.requires, c.put_all-next.ensures.next, writes_length c.put_all-next.ensures)

pub returns : goal.returns
returns c =
    let i = c.args.parts.good.image in
    rw (logisim_parts i.bytes.now i.len c.args.parts.width) (writes_then c.put_all-next.ensures c.put_parts.ensures)
