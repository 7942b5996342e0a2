-- `intelhex::low::low` meets its contract: the plan is too high where a block is.
-- Assumes nothing.
use Rattle.std.proofs.Common.{rules, sym, ◌∙◌}
use borrow.Author.Tests.{tests}
use Rattle.std.proofs.lemmas.Iterator.{YieldsList-from_slice, YieldsList-from_zip}
use Rattle.std.proofs.lemmas.Iterator.Search.{any_from_yields_List}
use Rattle.hex_records.specs.Plan.{block_plan, too_high}
use Rattle.hex_records.proofs.Plan.{paired}
use Rattle.intelhex.proofs.High.{any_high}
use Rattle.intelhex.proofs.low.low.Goals as goal

pub returns-then-high : goal.returns-then-high
returns-then-high c =
    let p = c.args.plan in
    let o = p.blocks.offsets.now in
    let s = p.blocks.sizes.now in
    let seen = any_from_yields_List (λ b. too_high (block_plan p.unit.bits (paired b))) c.any-high.new.self _ c.any-high.result c.any-high.ensures.ran
    (YieldsList-from_zip (YieldsList-from_slice o cc) (YieldsList-from_slice s cc)) (λ x b q k. search (rules, tests)) in
    any_high p.unit.bits o s p.blocks.same_length ∙ sym seen ∙ c.if-high.true

pub invariant_of-result : goal.invariant_of-result
invariant_of-result c =
    let p = c.args.plan in
    let o = p.blocks.offsets.now in
    let s = p.blocks.sizes.now in
    let seen = any_from_yields_List (λ b. too_high (block_plan p.unit.bits (paired b))) c.any-high.new.self _ c.any-high.result c.any-high.ensures.ran
    (YieldsList-from_zip (YieldsList-from_slice o cc) (YieldsList-from_slice s cc)) (λ x b q k. search (rules, tests)) in
    record { low = any_high p.unit.bits o s p.blocks.same_length ∙ sym seen ∙ c.if-high.false }
