-- `span_list::fault_at` meets its contract: the first pair of an offset and a size that is bad.
-- Assumes nothing.
use Rattle.std.proofs.Common.{◌≡◌, true, false, rules, tests}
use Rattle.std.proofs.lemmas.Iterator.{YieldsList-from_slice, YieldsList-from_zip, IsFirst-from_position}
use Rattle.span_list.specs.Range.{bad_span}
use Rattle.span_list.proofs.Good.{fault_found}
use Rattle.span_list.proofs.fault_at.Goals as goal

pub returns : goal.returns
returns c =
    let a = c.args.spans in
    fault_found a.offsets.now a.sizes.now a.same_length c.position.result
    (IsFirst-from_position c.position.new.self _ c.position.result (λ p. bad_span p.0 p.1 ≡ true) (λ p. bad_span p.0 p.1 ≡ false) c.position.ensures.ran
    (YieldsList-from_zip (YieldsList-from_slice a.offsets.now (cc)) (YieldsList-from_slice a.sizes.now (cc)))
    (λ x q k. search (rules, tests))
    (λ x q k. search (rules, tests)))
