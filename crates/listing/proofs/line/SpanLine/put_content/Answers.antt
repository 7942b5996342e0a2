-- `listing::line::SpanLine::put_content` meets its contract: the contents, and then the fill.
-- Assumes nothing.
use Rattle.output.proofs.Writes.{writes_then}
use Rattle.listing.proofs.line.SpanLine.put_content.Goals as goal

pub returns : goal.returns
returns c =
    let a = c.args.self in
    let whole = c.contents_length.ensures.0 a.image.bytes.now a.image.len c.unwrap_or-from.result in
    rw (← c.unwrap_or-from.ensures) (writes_then c.put_contents-next.ensures (rw (c.saturating_sub-fill.ensures, ← whole) at c.put_fill.ensures))
