-- `format_list::ListGroups::count` meets its contract: no more groups than the image has bits.
-- Assumes nothing.
use native.Mathlib.Omega.{arith}
use Rattle.bitvec.proofs.Size.{ceil_most}
use Rattle.format_list.specs.List.{group_bits}
use Rattle.format_list.proofs.Ranges.{group_some}
use Rattle.format_list.proofs.shape.ListGroups.count.Goals as goal

pub returns : goal.returns
returns c =
    let g = c.args.self in
    let same = rw g.options.bits.0 at c.parts.ensures in
    (same, omega (arith, same, g.good.few, ceil_most g.good.image.len (group_bits g.options.given) (group_some g.options.given g.options.width.bits g.options.bits.0 g.options.bits.1 g.options.digits.0)))
