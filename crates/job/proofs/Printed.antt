-- What is printed of an export: its text, or the number of a refusal that left the buffer as it was.
-- Assumes nothing.
use mathlib.Core.Path.{◌≡◌, sym, ap, ◌∙◌}
use mathlib.Core.Bool.{false}
use mathlib.Core.List.{List}
use Prim.Native.Nat.{ℕ, ◌≤◌, ◌<◌}
use native.Mathlib.Omega.{arith}
use Rattle.std.specs.Prelude.{Ok, Err}
use Rattle.output.specs.Writes.{Writes}
use Rattle.outcome.specs.declared.Refusal.{Refusal}
use Rattle.outcome.specs.declared.Refusal.TheVariants.{ImageSize, OptionRange, SpanRange, EmptyImage, AddressRange, SourceText, SpanFault, NoRoom}
use Rattle.outcome.specs.Outcome.{Outcome, text, refused, Answer, answer, refusal_of, left, Exports}
use Rattle.intelhex.proofs.Conforms.{exported, text_given}
use Rattle.job.specs.Job.{bad_job, job_outcome, printed}

-- A refusal's number is one digit, and not 0.
pub number_small : (r : Refusal) → (0 < (refusal_of r).number) × ((refusal_of r).number < 10)
number_small ImageSize = (omega arith, omega arith)
number_small OptionRange = (omega arith, omega arith)
number_small (SpanRange p) = (omega arith, omega arith)
number_small EmptyImage = (omega arith, omega arith)
number_small AddressRange = (omega arith, omega arith)
number_small SourceText = (omega arith, omega arith)
number_small (SpanFault p) = (omega arith, omega arith)
number_small (NoRoom n) = (omega arith, omega arith)

-- A refusal prints its number and keeps the buffer.
pub refused_kept : (o : Outcome) (r : Refusal) (before after : List ℕ) → Exports o (Err r) before after
    → (printed o ≡ printed (refused (refusal_of r).number 0)) × (after ≡ before)
refused_kept (text t) r before after x = absurd (omega (arith, ap (λ (a : Answer). a.number) x.answered, (number_small r).0))
refused_kept (refused k v) r before after x = (ap (λ (m : ℕ). printed (refused m 0)) (sym (ap (λ (a : Answer). a.number) x.answered)), x.buffer)

-- A text is printed as it was written.
text_printed : (o : Outcome) (t : List ℕ) (n : ℕ) (before after : List ℕ) → o ≡ text t → Exports o (Ok n) before after → Writes (printed o) before 0 after n
text_printed o t n before after e x =
    rw e
    record {
      next = ap (λ (a : Answer). a.value) (x.answered ∙ ap answer e) ∙ omega arith;
      stored = x.buffer ∙ ap (λ (p : Outcome). left p before) e;
    }

-- So is the text of a job, and it has room.
pub job_printed : (job : List ℕ) (n : ℕ) (before after : List ℕ) → bad_job job ≡ false → Exports (job_outcome job) (Ok n) before after
    → Writes (printed (job_outcome job)) before 0 after n × (n ≤ 65536)
unfolding job_outcome
job_printed job n before after e x =
    let y = rw e at x in
    let t = text_given _ _ _ _ _ _ (sym (ap (λ (a : Answer). a.number) y.answered)) in
    (rw e (text_printed _ t.0 n before after t.1 y), omega (arith, (exported _ _ _ _ _ _ t.0 t.1).2, ap (λ (a : Answer). a.value) (y.answered ∙ ap answer t.1)))
