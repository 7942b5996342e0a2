-- `job::read_column` meets its contract: after k turns the numbers of k rows are stored.
-- Assumes nothing.
use mathlib.Core.Path.{◌≡◌, refl, sym, ◌∙◌}
use Prim.Native.Nat.{ℕ, ◌+◌, ◌*◌}
use native.Mathlib.Omega.{arith}
use lib.ListN.{length}
use Rattle.output.specs.Lists.{table}
use Rattle.output.proofs.Lists.{table_next, table_length, sets_more, sets_whole}
use Rattle.job.specs.Job.{word, column}
use borrow.Author.Rules.{rules}
use Rattle.job.proofs.read_column.Goals as goal

pub loop-k-init : goal.loop-k-init
unfolding table
loop-k-init c = (search rules, refl, refl)

pub loop-k-preserved : goal.loop-k-preserved
loop-k-preserved c =
    let l = c.loop-k in
    let a = c.args in
    let f : ℕ → ℕ = λ k. word a.rows.now (a.at + 8 * k) in (
      search rules,
      rw (l.invariant.1, c.read_number.ensures, table_next f l.k) (sets_more a.to.now (table f l.k) l.k (f l.k) (sym (table_length f l.k))),
      search rules,
    )

pub returns : goal.returns
unfolding column
returns c =
    let l = c.loop-k in
    let a = c.args in
    let f : ℕ → ℕ = λ k. word a.rows.now (a.at + 8 * k) in
    let done : l.k ≡ length a.to.now = omega arith in
    l.invariant.1 ∙ rw done (sets_whole a.to.now (table f (length a.to.now)) (sym (table_length f (length a.to.now))))
