-- `intelhex::plan::hex_length` meets its contract: the sum is that of the records of each block.
-- Assumes nothing.
use Rattle.std.proofs.Common.{rules, ◌^◌, sym, ◌∙◌, arith, length-append}
use mathlib.Core.List.{flat_map}
use Rattle.std.proofs.lemmas.Iterator.{YieldsList-from_slice, YieldsList-from_map}
use Rattle.std.proofs.lemmas.Iterator.Consumers.{sum_by_from_yields_List, fits_by_from_yields_list}
use Rattle.output.specs.Ascii.{ascii}
use Rattle.hex_records.specs.Plan.{hex_plan, blocks_at}
use Rattle.hex_records.specs.Text.{record_text, hex_text}
use Rattle.intelhex.proofs.Lengths.{measure, sums_small, plan_length}
use Rattle.intelhex.proofs.plan.hex_length.Goals as goal

pub sum-records-requires-clause-fits : goal.sum-records-requires-clause-fits
sum-records-requires-clause-fits c =
    let sizes = c.args.sizes.now in
    fits_by_from_yields_list measure sizes c.map.result (2 ^ 64)
    (YieldsList-from_map _ measure (YieldsList-from_slice sizes cc) c.map.ensures.closure (λ x r q k. search rules))
    (omega (arith, c.requires, sums_small sizes (λ k. (c.type_inv.sizes k).fits)))

pub overflow_add-result : goal.overflow_add-result
overflow_add-result c =
    let sizes = c.args.sizes.now in
    let total = sum_by_from_yields_List measure sizes c.map.result c.sum-records.result c.sum-records.ensures.ran
    (YieldsList-from_map _ measure (YieldsList-from_slice sizes cc) c.map.ensures.closure (λ x r q k. search rules)) in
    record { fits = omega (arith, c.requires, total, sums_small sizes (λ k. (c.type_inv.sizes k).fits)) }

pub returns : goal.returns
unfolding hex_text
returns c = λ bytes len unit offsets e.
    let sizes = c.args.sizes.now in
    let total = sum_by_from_yields_List measure sizes c.map.result c.sum-records.result c.sum-records.ensures.ran
    (YieldsList-from_map _ measure (YieldsList-from_slice sizes cc) c.map.ensures.closure (λ x r q k. search rules)) in
    length-append (flat_map (record_text bytes len) (hex_plan unit (blocks_at offsets sizes))) (ascii ":00000001FF")
    ∙ omega (arith, total, plan_length bytes len unit offsets sizes (sym e))
