-- `spans::columns::copy_column` meets its contract: each turn copies the number of one record more.
-- Assumes nothing.
use mathlib.Core.Path.{sym, ap, ◌∙◌}
use native.Mathlib.Nat.{zero-add}
use Rattle.std.proofs.Common.{ℕ, ◌+◌, ◌<◌, ◌≡◌, List, rules, arith, length, get_or, set, map, length-take}
use Rattle.std.proofs.lemmas.List.{get_or-take, get_or-map, length-map}
use Rattle.std.proofs.lemmas.List.Edits.{paste_none, paste_more}
use lib.Seq.{paste}
use Rattle.spans.specs.declared.Span.{Span}
use Rattle.spans.proofs.columns.copy_column.Goals as goal

-- one record more
copied : {A : Type 0} (w : Span → A) (l : List A) (xs : List Span) (i : ℕ) (d : Span) → i < length l → i < length xs
    → set (paste l 0 (map w xs) i) i (w (get_or xs i d)) ≡ paste l 0 (map w xs) (i + 1)
copied w l xs i d p h =
    let front = paste l 0 (map w xs) i in
    ap (λ (k : ℕ). set front k (w (get_or xs i d))) (sym (zero-add i))
    ∙ ap (set front (0 + i)) (sym (get_or-map w xs i d (w d) h))
    ∙ paste_more l 0 (map w xs) i (w d) (omega arith) (omega (arith, length-map xs w))

pub loop-i-init : goal.loop-i-init
loop-i-init g c = (search rules, λ w e. paste_none c.args.column.now 0 (map w c.args.spans.now))

pub loop-i-preserved : goal.loop-i-preserved
loop-i-preserved g c =
    let l = c.loop-i in
    let n = c.min-count.result in
    let xs = c.args.spans.now in
    let most = length-take n xs in
    let below : l.i < n = omega arith in (
      search rules,
      λ w e. rw (l.invariant.1 w e, e _ _ c.number.ensures, get_or-take n xs l.i _ below) (copied w c.args.column.now xs l.i _ (omega arith) (omega arith)),
    )
