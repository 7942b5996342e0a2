-- `job::read_number` meets its contract: the chunk's bytes, the first lowest, are four bytes of the job.
-- Assumes nothing.
use Rattle.std.proofs.Common.{◌≡◌, ◌+◌, ◌-◌, ◌<◌, ℕ, arith, ◌∙◌, refl, length, take, drop, get_or, slice_index, get_or-take}
use Rattle.job.specs.Job.{word}
use Rattle.job.proofs.Good.{byte_in}
use Rattle.job.proofs.read_number.Goals as goal

pub returns : goal.returns
unfolding word
returns c =
    let job = c.args.job.now in
    let at = c.args.at in
    let rest = length job - at in
    let chunk = rw c.unwrap.ensures at c.first_chunk.ensures.cases in
    let copied : (k j : ℕ) → k < 4 → j ≡ at + k → slice_index c.unwrap.result.now k ≡ get_or job j 0 =
    λ k j h e. rw chunk.same (get_or-take 4 (take rest (drop at job)) k 0 h ∙ byte_in job at rest k j (omega arith) e) in
    omega (arith, c.from_le_bytes.ensures, copied 0 at (omega arith) (omega arith), copied 1 (at + 1) (omega arith) refl, copied 2 (at + 2) (omega arith) refl, copied 3 (at + 3) (omega arith) refl)
