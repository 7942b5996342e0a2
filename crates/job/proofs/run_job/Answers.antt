-- `job::run_job` meets its contract: what the export answered is printed.
-- Assumes nothing.
use Rattle.std.proofs.Common.{arith}
use Rattle.job.specs.Job.{job_outcome}
use Rattle.job.proofs.Good.{few_rows, job_exports}
use Rattle.job.proofs.Printed.{refused_kept, job_printed}
use Rattle.job.proofs.run_job.Goals as goal

pub returns-in_default-clause-printed : goal.returns-in_default-clause-printed
unfolding job_outcome
returns-in_default-clause-printed c = rw c.in_default.ensures c.put_refused.ensures.printed

pub export-requires : goal.export-requires
export-requires c = rw c.in-Some.ensures.3 (few_rows c.args.job.now c.in-Some.ensures.0)

pub returns-in-Ok-clause-printed : goal.returns-in-Ok-clause-printed
returns-in-Ok-clause-printed c =
    (job_printed c.args.job.now c.in-Ok.length c.args.out.now c.export.new.out c.in-Some.ensures.0 (job_exports c.args.job.now c.in-Some.ensures (omega arith) c.in-Ok.ensures)).0

pub returns-in-Ok-clause-room : goal.returns-in-Ok-clause-room
returns-in-Ok-clause-room c =
    (job_printed c.args.job.now c.in-Ok.length c.args.out.now c.export.new.out c.in-Some.ensures.0 (job_exports c.args.job.now c.in-Some.ensures (omega arith) c.in-Ok.ensures)).1

pub returns-in-Err-clause-printed : goal.returns-in-Err-clause-printed
returns-in-Err-clause-printed c =
    let kept = refused_kept (job_outcome c.args.job.now) c.in-Err.refusal c.args.out.now c.export.new.out (job_exports c.args.job.now c.in-Some.ensures (omega arith) c.in-Err.ensures) in
    rw (kept.0, ← kept.1) (rw c.from.ensures.0 at c.put_refused-in-Err.ensures.printed)
