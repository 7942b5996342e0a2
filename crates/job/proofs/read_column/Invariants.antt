use mathlib.Core.Path.{◌≡◌}
use Prim.Native.Nat.{◌+◌, ◌*◌, ◌≤◌}
use lib.ListN.{length}
use lib.Seq.{sets}
use Rattle.output.specs.Lists.{table}
use Rattle.job.specs.Job.{word}
use Rattle.job.proofs.read_column.Given as goal

abbrev pub invariant-loop-k : goal.invariant-loop-k
invariant-loop-k l = (l.k ≤ length l.initial.to) × (l.to ≡ sets l.initial.to 0 (table (λ k. word l.rows (l.at + 8 * k)) l.k)) × (length l.to ≡ length l.initial.to)
