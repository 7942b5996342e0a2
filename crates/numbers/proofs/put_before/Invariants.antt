use mathlib.Core.Path.{◌≡◌}
use mathlib.Core.List.{List, ◌++◌}
use Prim.Native.Nat.{ℕ, ◌+◌, ◌≤◌}
use lib.ListN.{length}
use lib.Seq.{sets}
use Rattle.numbers.specs.Digits.{digit_count, number_text}
use Rattle.numbers.proofs.put_before.Given as goal

abbrev pub invariant-loop-rest : goal.invariant-loop-rest
invariant-loop-rest l = (t : List ℕ)
    × (number_text l.letters l.radix.value l.rest ++ t ≡ number_text l.letters l.radix.value l.value)
    × (l.out ≡ sets l.initial.out l.place t)
    × (l.place + digit_count l.radix.value l.value ≡ l.end + digit_count l.radix.value l.rest)
    × (l.place ≤ l.end)
    × (length l.out ≡ length l.initial.out)

abbrev pub decreases-loop-rest : goal.decreases-loop-rest
decreases-loop-rest l = l.rest
