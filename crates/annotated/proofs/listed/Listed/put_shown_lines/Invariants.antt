use mathlib.Core.Path.{◌≡◌}
use lib.ListN.{length, get_or}
use Rattle.output.specs.Pieces.{pieces}
use Rattle.output.specs.Writes.{Writes}
use Rattle.annotated.specs.InnerListed.{shown_line}
use Rattle.annotated.proofs.listed.Listed.put_shown_lines.Given as goal

abbrev pub invariant-loop-place : goal.invariant-loop-place
invariant-loop-place l = Writes (pieces (λ j. shown_line l.self (get_or l.places j 0)) l.place-index) l.initial.out l.at l.out l.next
    × (length l.out ≡ length l.initial.out)
