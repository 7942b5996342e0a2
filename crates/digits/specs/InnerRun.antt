-- A run of digits as the code has it. No format is defined by it.
use Rattle.std.specs.Prelude.{List, ℕ}
use Rattle.digits.specs.declared.digit_run.DigitRun.{DigitRun}
use Rattle.digits.specs.Run.{run}

-- Its digits.
abbrev pub run_of : DigitRun → List ℕ
run_of r = run r.image.bytes.now r.image.len r.width.bits r.from.0 r.count
