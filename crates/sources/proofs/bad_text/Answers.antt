-- `sources::bad_text` meets its contract: the library's test finds the first byte of 128 or more.
-- Assumes nothing.
use borrow.Author.Tests.{le-ltb}
use Rattle.sources.specs.Sources.{bad_text}
use Rattle.sources.proofs.Files.{ascii_tested}
use Rattle.sources.proofs.bad_text.Goals as goal

pub returns : goal.returns
unfolding bad_text
returns c = simp (le-ltb _ _ c.if-text-gt1048576.false, ascii_tested c.args.text.now c.is_ascii.result c.is_ascii.ensures.cases)
