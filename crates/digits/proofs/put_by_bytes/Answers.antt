-- `digits::put_by_bytes` meets its contract: whole bytes, and then the digits behind them.
-- Assumes nothing.
use Prim.Native.Nat.{◌*◌, ◌/◌}
use native.Mathlib.Nat.{div-mul-le_self}
use Rattle.output.proofs.Writes.{writes_then}
use Rattle.digits.proofs.Behind.{run_behind}
use Rattle.digits.proofs.put_by_bytes.Goals as goal

pub returns : goal.returns
returns c =
    let r = c.args.digits in
    let per = c.per_byte-per.result in
    rw (run_behind r c.behind.result (r.count / per * per) (div-mul-le_self r.count per) c.behind.ensures.rest)
    (writes_then (rw (← c.per_byte-per.ensures) at c.put_bytes-next.ensures) c.put_each.ensures)
