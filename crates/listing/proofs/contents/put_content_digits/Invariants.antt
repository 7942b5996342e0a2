use mathlib.Core.Path.{◌≡◌}
use Prim.Native.Nat.{◌+◌, ◌%◌}
use lib.ListN.{length}
use Rattle.output.specs.Writes.{Writes}
use Rattle.listing.specs.InnerLine.{digits_from}
use Rattle.listing.proofs.contents.put_content_digits.Given as goal

abbrev pub invariant-loop-j : goal.invariant-loop-j
invariant-loop-j l = (l.turn ≡ (l.first + l.j) % l.group)
    × Writes (digits_from l.fn.options l.image l.from.0 l.first l.j) l.initial.out l.at l.out l.next
    × (length l.out ≡ length l.initial.out)
