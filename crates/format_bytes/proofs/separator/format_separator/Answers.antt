-- `format_bytes::separator::format_separator` meets its contract: what it measures is the length of the list with newlines.
-- Assumes nothing.
use mathlib.Core.Path.{refl}
use native.Mathlib.Omega.{arith}
use Rattle.std.proofs.lemmas.Grind.{common_steps}
use Rattle.outcome.proofs.Outcome.{exports_text, exports_no_room}
use Rattle.output.specs.Ascii.{ascii}
use Rattle.format_bytes.specs.Separator.{separator_text, separator_outcome}
use Rattle.format_bytes.proofs.separator.format_separator.Goals as goal

pub returns-then-out-needed : goal.returns-then-out-needed
unfolding separator_outcome separator_text
returns-then-out-needed c =
    let measured = c.list_length-needed.ensures.length c.args.separator.now (λ k. ascii "\n") refl (λ k h. refl) in
    grind (arith, common_steps, exports_no_room)

pub returns : goal.returns
unfolding separator_outcome separator_text
returns c =
    let measured = c.list_length-needed.ensures.length c.args.separator.now (λ k. ascii "\n") refl (λ k h. refl) in
    grind (arith, common_steps, exports_text)
