-- `output::part::put_overlapping` meets its contract: the second store may go over the end of the first.
-- Assumes nothing.
use Prim.Native.Nat.{◌-◌}
use lib.ListN.{length}
use Rattle.std.proofs.lemmas.List.{take_rest}
use Rattle.output.proofs.Parts.{writes_twice}
use Rattle.output.proofs.part.put_overlapping.Goals as goal

pub returns : goal.returns
returns g c =
    let part = c.args.part.now in
    let last = take_rest part (length part - g.row.N) in
    writes_twice part g.row.N c.requires.size.0 c.requires.size.1 c.put_fixed.ensures (rw last at c.put_fixed-2.ensures)
