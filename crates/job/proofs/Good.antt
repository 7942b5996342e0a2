-- What a job that can be read is known to hold.
-- Assumes nothing.
use Rattle.std.proofs.Common.{◌≡◌, ℕ, ◌+◌, ◌*◌, ◌/◌, ◌<◌, ◌≤◌, Bool, true, false, List, length, get_or, take, drop, refl, sym, ◌∙◌, arith, le-ltb, get_or-take, get_or-drop}
use mathlib.Core.Bool.{◌||◌, false≢true}
use lib.Dec.{ltb}
use lib.Seq.{length-take-le}
use borrow.Author.Tests.{ltb-false}
use Rattle.std.proofs.lemmas.List.{length-drop}
use Rattle.std.specs.Prelude.{Result}
use Rattle.outcome.specs.declared.Refusal.{Refusal}
use Rattle.outcome.specs.Outcome.{Exports}
use Rattle.bitvec.specs.Size.{ceil_div}
use Rattle.output.proofs.Lists.{table_equal}
use Rattle.intelhex.specs.Hex.{hex_outcome}
use Rattle.job.specs.Job.{word, bit_length, image_at, span_count, table_at, address_unit, image_of, column, bad_job, job_outcome}

-- It has 20 to 65,536 bytes, and its parts end within it.
pub good_job : (job : List ℕ) → bad_job job ≡ false
    → (length job ≤ 65536) × (20 ≤ length job) × (image_at job + ceil_div (bit_length job) 8 ≤ length job) × (table_at job + 8 * span_count job ≤ length job)
unfolding bad_job
good_job job = go (ltb 65536 (length job)) (ltb (length job) 20) (ltb (length job) (image_at job + ceil_div (bit_length job) 8)) (ltb (length job) (table_at job + 8 * span_count job)) refl refl refl refl
  where
    go : (a b c d : Bool) → ltb 65536 (length job) ≡ a → ltb (length job) 20 ≡ b → ltb (length job) (image_at job + ceil_div (bit_length job) 8) ≡ c → ltb (length job) (table_at job + 8 * span_count job) ≡ d
        → (a || (b || (c || d))) ≡ false
        → (length job ≤ 65536) × (20 ≤ length job) × (image_at job + ceil_div (bit_length job) 8 ≤ length job) × (table_at job + 8 * span_count job ≤ length job)
    go true b c d p q r s e = absurd (false≢true (sym e))
    go false true c d p q r s e = absurd (false≢true (sym e))
    go false false true d p q r s e = absurd (false≢true (sym e))
    go false false false true p q r s e = absurd (false≢true (sym e))
    go false false false false p q r s e = (ltb-false _ _ p, ltb-false _ _ q, ltb-false _ _ r, ltb-false _ _ s)

-- And where it has and they do, it can be read.
pub job_good : (job : List ℕ) → length job ≤ 65536 → 20 ≤ length job → image_at job + ceil_div (bit_length job) 8 ≤ length job → table_at job + 8 * span_count job ≤ length job
    → bad_job job ≡ false
unfolding bad_job
job_good job p q r s = simp (le-ltb 65536 (length job) p, le-ltb (length job) 20 q, le-ltb (length job) _ r, le-ltb (length job) _ s) refl

-- A byte and a number of a part are those of the whole.
pub byte_in : (job : List ℕ) (t m a b : ℕ) → a < m → b ≡ t + a → get_or (take m (drop t job)) a 0 ≡ get_or job b 0
byte_in job t m a b h e = rw e (get_or-take m (drop t job) a 0 h ∙ get_or-drop t job a 0)

word_in : (job : List ℕ) (t m a b : ℕ) → a + 4 ≤ m → b ≡ t + a → word (take m (drop t job)) a ≡ word job b
unfolding word
word_in job t m a b h e =
    omega (arith, byte_in job t m a b (omega arith) e, byte_in job t m (a + 1) (b + 1) (omega arith) (omega arith), byte_in job t m (a + 2) (b + 2) (omega arith) (omega arith), byte_in job t m (a + 3) (b + 3) (omega arith) (omega arith))

-- Its rows, of which it has no more than 8,192.
abbrev pub rows_of : List ℕ → List ℕ
rows_of job = take (8 * span_count job) (drop (table_at job) job)

pub rows_length : (job : List ℕ) → bad_job job ≡ false → length (rows_of job) ≡ 8 * span_count job
rows_length job e = length-take-le (8 * span_count job) (drop (table_at job) job) (omega (arith, good_job job e, length-drop (table_at job) job))

pub few_rows : (job : List ℕ) → bad_job job ≡ false → length (rows_of job) ≤ 65536
few_rows job e = omega (arith, good_job job e, rows_length job e)

column_in : (job : List ℕ) (a : ℕ) → a + 4 ≤ 8 → column (rows_of job) a (span_count job) ≡ column job (table_at job + a) (span_count job)
unfolding column
column_in job a h =
    table_equal (λ k. word (rows_of job) (a + 8 * k)) (λ k. word job (table_at job + a + 8 * k)) (span_count job)
    (λ k l. word_in job (table_at job) (8 * span_count job) (a + 8 * k) (table_at job + a + 8 * k) (omega arith) (omega arith))

-- What its parts export is what it does.
pub job_exports : (job : List ℕ) {bytes rows before after : List ℕ} {len unit : ℕ} {r : Result ℕ Refusal}
    → (bad_job job ≡ false) × (bytes ≡ image_of job) × (len ≡ bit_length job) × (rows ≡ rows_of job) × (unit ≡ address_unit job) → length before ≡ 65536
    → Exports (hex_outcome bytes len (column rows 0 (length rows / 8)) (column rows 4 (length rows / 8)) unit (length before)) r before after → Exports (job_outcome job) r before after
unfolding job_outcome
job_exports job e room x =
    let count : length (rows_of job) / 8 ≡ span_count job = omega (arith, rows_length job e.0) in
    let first : table_at job + 0 ≡ table_at job = omega arith in
    rw e.0 (rw (e.1, e.2, e.3, e.4, room, count, column_in job 0 (omega arith), column_in job 4 (omega arith), first) at x)
