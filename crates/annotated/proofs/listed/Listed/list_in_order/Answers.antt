-- `annotated::listed::Listed::list_in_order` meets its contract: the heading and the lines are measured, and then written.
-- Assumes nothing.
use mathlib.Core.Path.{◌≡◌, ap, ◌∙◌}
use mathlib.Core.List.{◌++◌}
use Prim.Native.Nat.{◌+◌, ◌≤◌}
use native.Mathlib.Omega.{arith}
use lib.ListN.{length, length-append}
use Rattle.output.proofs.Writes.{writes_then}
use Rattle.outcome.proofs.Outcome.{exports_text, exports_no_room}
use Rattle.listing.specs.Listing.{heading, annotated_text}
use Rattle.annotated.specs.declared.listed.Listed.{Listed}
use Rattle.annotated.specs.InnerListed.{shown_lines, shown_text}
use Rattle.annotated.proofs.listed.Listed.list_in_order.Goals as goal

-- the text is the heading and the lines
made : (s : Listed) → shown_text s ≡ heading s.layout.options.given s.layout.widths ++ shown_lines s
unfolding annotated_text
made s = rw s.wide

made_length : (s : Listed) → length (shown_text s) ≡ length (heading s.layout.options.given s.layout.widths) + length (shown_lines s)
made_length s = ap length (made s) ∙ length-append (heading s.layout.options.given s.layout.widths) (shown_lines s)

pub overflow_add-needed : goal.overflow_add-needed
overflow_add-needed c = record { fits = omega (arith, c.lines_length-lines.ensures.1, c.heading_length.ensures.1) }

pub returns-then-out-needed : goal.returns-then-out-needed
returns-then-out-needed c =
    let a = c.args.self in
    exports_no_room (shown_text a) _ (omega (arith, made_length a, c.lines_length-lines.ensures.0, c.heading_length.ensures.0)) c.if-out-needed.true

pub put_heading-next-requires : goal.put_heading-next-requires
put_heading-next-requires c = omega (arith, c.if-out-needed.false, c.heading_length.ensures.0)

pub returns : goal.returns
returns c =
    let a = c.args.self in
    let enough : length (shown_text a) ≤ length c.args.out.now = omega (arith, made_length a, c.lines_length-lines.ensures.0, c.heading_length.ensures.0) in
    exports_text {t = shown_text a} enough (rw (made a) (writes_then c.put_heading-next.ensures c.put_shown_lines.ensures))
