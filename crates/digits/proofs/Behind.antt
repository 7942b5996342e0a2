-- The digits behind the first of a run.
-- Assumes nothing.
use mathlib.Core.Path.{◌≡◌}
use mathlib.Core.List.{◌++◌}
use Prim.Native.Nat.{ℕ, ◌+◌, ◌-◌, ◌*◌, ◌≤◌}
use native.Mathlib.Omega.{arith}
use Rattle.digits.specs.declared.digit_run.DigitRun.{DigitRun}
use Rattle.digits.specs.Run.{run}
use Rattle.digits.specs.InnerRun.{run_of}
use Rattle.digits.proofs.Run.{run_append}

pub run_behind : (r s : DigitRun) (n : ℕ) → n ≤ r.count → (s.image ≡ r.image) × (s.width ≡ r.width) × (s.from.0 ≡ r.from.0 + n * r.width.bits) × (s.count ≡ r.count - n)
    → run_of r ≡ run r.image.bytes.now r.image.len r.width.bits r.from.0 n ++ run_of s
run_behind r s n h e =
    let all : n + (r.count - n) ≡ r.count = omega arith in
    rw (e.0, e.1, e.2, e.3) (rw all at (run_append r.image.bytes.now r.image.len r.width.bits r.from.0 n (r.count - n)))
