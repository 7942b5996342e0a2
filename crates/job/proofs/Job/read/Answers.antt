-- `job::Job::read` meets its contract: the parts are within the job.
-- Assumes nothing.
use Rattle.std.proofs.Common.{◌≡◌, ◌+◌, ◌-◌, ◌*◌, ◌≤◌, ℕ, arith, ◌∙◌, ap, length, List, slice_range, take, drop}
use Rattle.bitvec.specs.Size.{ceil_div}
use Rattle.job.specs.Job.{bit_length, image_at, span_count, table_at, image_of}
use Rattle.job.proofs.Good.{job_good}
use Rattle.job.proofs.Job.read.Goals as goal

range_is : (job : List ℕ) (from count : ℕ) → slice_range job from (from + count) ≡ take count (drop from job)
range_is job from count = let held : from + count - from ≡ count = omega arith in ap (λ n. take n (drop from job)) held

pub returns : goal.returns
unfolding image_of
returns c =
    let job = c.args.job.now in
    let bytes = c.in_ok-bytes.ensures.lookup.0 in
    let rows = c.in_ok-rows.ensures.lookup.0 in
    let held : c.parts.result ≡ ceil_div (bit_length job) 8 = rw (← c.read_number-len.ensures) c.parts.ensures in
    let image : image_at job + ceil_div (bit_length job) 8 ≤ length job = rw (← held, ← c.read_number-from.ensures) bytes.1 in
    let table : table_at job + 8 * span_count job ≤ length job = rw (← c.read_number-count.ensures, ← c.read_number-table.ensures) rows.1 in (
      job_good job (omega arith) (omega arith) image table,
      c.new.ensures.0 ∙ bytes.2 ∙ rw (held, c.read_number-from.ensures) (range_is job (image_at job) (ceil_div (bit_length job) 8)),
      c.new.ensures.1 ∙ c.read_number-len.ensures,
      rows.2 ∙ rw (c.read_number-count.ensures, c.read_number-table.ensures) (range_is job (table_at job) (8 * span_count job)),
      c.read_number-unit.ensures,
    )
