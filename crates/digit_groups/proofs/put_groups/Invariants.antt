use Prim.Native.Nat.{◌≤◌}
use Rattle.output.specs.Writes.{Writes}
use Rattle.digit_groups.specs.InnerGroups.{groups_text}
use Rattle.digit_groups.proofs.put_groups.Given as goal

abbrev pub invariant-loop-k : goal.invariant-loop-k
invariant-loop-k g l = (l.k ≤ l.count) × Writes (groups_text (g.W.PutGroup.text l.writer) l.fn.groups l.k) l.initial.out l.at l.out l.next
