-- `put_group` of `format_list::ListOptions` meets its contract: the string, and then the digits.
-- Assumes nothing.
use Rattle.output.proofs.Writes.{writes_then}
use Rattle.format_list.proofs.ListOptionsPutGroup.put_group.Goals as goal

pub returns : goal.returns
returns c = writes_then (rw c.string_before.ensures at c.put_text-next.ensures) c.put_part.ensures
