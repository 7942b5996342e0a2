use mathlib.Core.Path.{◌≡◌}
use Prim.Native.Nat.{◌+◌, ◌%◌}
use Rattle.output.specs.Writes.{Writes}
use Rattle.digit_groups.specs.InnerGroups.{groups_from}
use Rattle.digit_groups.proofs.put_some.Given as goal

abbrev pub invariant-loop-j : goal.invariant-loop-j
invariant-loop-j g l = Writes (groups_from (g.W.PutGroup.text l.writer) l.fn.groups l.first l.j) l.initial.out l.at l.out l.next
    × (l.turn ≡ (l.first + l.j) % g.W.PutGroup.every l.writer)
