-- `blocks::get_blocks` meets its contract: spans that are refused give no blocks.
-- Assumes nothing.
use Rattle.std.proofs.Common.{◌≡◌, rules}
use Rattle.std.specs.Prelude.{Err}
use Rattle.blocks.proofs.Finding.{finds_refused}
use Rattle.blocks.proofs.get_blocks.Goals as goal

pub returns-in_err-spans : goal.returns-in_err-spans
returns-in_err-spans c =
    let a = c.args in
    let r = c.in_err-spans.field-0.0 in
    let same : c.from_residual.result ≡ Err r = search rules in
    rw same (finds_refused a.offsets.now a.sizes.now a.block_offsets.now a.block_sizes.now r c.in_err-spans.ensures)
