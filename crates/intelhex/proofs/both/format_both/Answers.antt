-- `intelhex::both::format_both` meets its contract: the rule about the two outcomes, carried to the answers and the buffers.
-- Assumes nothing.
use Rattle.intelhex.proofs.Calls.{calls_rule}
use Rattle.intelhex.proofs.both.format_both.Goals as goal

pub returns-clause-rule : goal.returns-clause-rule
returns-clause-rule c =
    let a = c.args in
    let one = c.format_intelhex-one in
    let two = c.format_intelhex-two in
    calls_rule a.first.bytes.now a.first.len a.second.bytes.now a.second.len a.offsets.now a.sizes.now a.unit one.result two.result
    a.out.now one.new.out a.out2.now two.new.out one.ensures two.ensures
