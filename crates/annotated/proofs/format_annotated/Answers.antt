-- `annotated::format_annotated` meets its contract: the refusals in their order, and then the listing.
-- Assumes nothing.
use Rattle.std.proofs.Common.{◌≡◌, false, length, refl, rules}
use Rattle.std.specs.Prelude.{Err}
use Rattle.bitvec.specs.Size.{bad_size}
use Rattle.outcome.specs.declared.Refusal.TheVariants.{SpanRange}
use Rattle.listing.specs.Listing.{lent, bad_annotated}
use Rattle.annotated.specs.Annotated.{listed_outcome, annotated_outcome}
use Rattle.annotated.proofs.Lengths.{columns_refused, list_refused, list_good}
use Rattle.annotated.proofs.format_annotated.Goals as goal

pub returns-in_err-spans : goal.returns-in_err-spans
unfolding annotated_outcome
returns-in_err-spans c =
    let a = c.args in
    let image : c.in_ok-image.image.image ≡ a.image = rw c.in_ok-image.ensures.ok_part at c.good.ensures in
    let size : bad_size a.image.bytes.now a.image.len ≡ false = rw (← image) c.in_ok-image.image.good in
    let given = rw c.in_ok-options.ensures.ok_part at c.new.ensures in
    let options : bad_annotated a.options ≡ false = rw (← given) c.in_ok-options.options.in_range in
    let columns = rw c.in_err-spans.ensures.ok_part at c.new-2.ensures in
    let same : c.from_residual-in_err-spans.result ≡ Err (SpanRange 4096) = search rules in
    simp (size, options)
    (rw (columns_refused (listed_outcome a.image.bytes.now a.image.len a.options (lent a.spans) a.sources.firmware.now a.sources.protocol.now (length a.out.now)) (lent a.spans) columns, same)
    record { answered = refl; buffer = refl })

pub returns-in_err-list : goal.returns-in_err-list
unfolding annotated_outcome
returns-in_err-list c =
    let a = c.args in
    let image : c.in_ok-image.image.image ≡ a.image = rw c.in_ok-image.ensures.ok_part at c.good.ensures in
    let size : bad_size a.image.bytes.now a.image.len ≡ false = rw (← image) c.in_ok-image.image.good in
    let given = rw c.in_ok-options.ensures.ok_part at c.new.ensures in
    let options : bad_annotated a.options ≡ false = rw (← given) c.in_ok-options.options.in_range in
    let columns : c.in_ok-spans.spans.columns ≡ a.spans = rw c.in_ok-spans.ensures.ok_part at c.new-2.ensures in
    let r = c.in_err-list.field-0.0 in
    let same : c.from_residual-in_err-list.result ≡ Err r = search rules in
    let good = listed_outcome a.image.bytes.now a.image.len a.options (lent a.spans) a.sources.firmware.now a.sources.protocol.now (length a.out.now) in
    simp (size, options)
    (rw (rw columns at (list_refused good c.in_ok-spans.spans r c.in_err-list.ensures), same)
    record { answered = refl; buffer = refl })

pub format_listed-requires : goal.format_listed-requires
format_listed-requires c = rw (← c.in_ok-list.ensures.0) c.in_ok-list.list.few

pub returns : goal.returns
unfolding annotated_outcome
returns c =
    let a = c.args in
    let image : c.in_ok-image.image.image ≡ a.image = rw c.in_ok-image.ensures.ok_part at c.good.ensures in
    let size : bad_size a.image.bytes.now a.image.len ≡ false = rw (← image) c.in_ok-image.image.good in
    let given = rw c.in_ok-options.ensures.ok_part at c.new.ensures in
    let options : bad_annotated a.options ≡ false = rw (← given) c.in_ok-options.options.in_range in
    let columns : c.in_ok-spans.spans.columns ≡ a.spans = rw c.in_ok-spans.ensures.ok_part at c.new-2.ensures in
    let l = c.in_ok-list.list in
    let of = c.in_ok-list.ensures in
    let good = listed_outcome a.image.bytes.now a.image.len a.options (lent a.spans) a.sources.firmware.now a.sources.protocol.now (length a.out.now) in
    let passed = list_good good c.in_ok-spans.spans (rw (of.0, of.1) at l.short) (rw (of.0, of.1) at l.good) in
    simp (size, options)
    (rw (rw columns at passed)
    (rw (image, given, columns) at c.format_listed.ensures))
