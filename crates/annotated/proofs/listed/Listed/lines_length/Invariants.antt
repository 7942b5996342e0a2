use mathlib.Core.Path.{◌≡◌}
use Prim.Native.Nat.{◌*◌, ◌≤◌, ◌^◌}
use lib.ListN.{length, get_or}
use Rattle.output.specs.Pieces.{pieces}
use Rattle.annotated.specs.InnerListed.{shown_line}
use Rattle.annotated.proofs.listed.Listed.lines_length.Given as goal

abbrev pub invariant-loop-place : goal.invariant-loop-place
invariant-loop-place l = (l.needed ≡ length (pieces (λ j. shown_line l.self (get_or l.places j 0)) l.place-index)) × (l.needed ≤ l.place-index * 2 ^ 35)
