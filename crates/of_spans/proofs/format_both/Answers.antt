-- `of_spans::format_both` meets its contract: the columns' exports are those of the records, and so is the rule.
-- Assumes nothing.
use Rattle.spans.proofs.Few.{front}
use Rattle.of_spans.proofs.Few.{both_few}
use Rattle.of_spans.proofs.format_both.Goals as goal

pub returns : goal.returns
returns c =
    let of = c.copy-columns.ensures in
    let both = rw (front _ _ of.count of.offsets, front _ _ of.count of.sizes) at c.format_both.ensures in
    let few = both_few _ _ _ _ c.args.spans.now _ _ _ _ _ _ (both.first, both.second) in
    record { first = few.0; second = few.1; rule = few.2 }
