-- `format_logisim::file_length` meets its contract: the first line, the whole chunks, and the last one where it is shorter.
-- Assumes nothing.
use Prim.Native.Nat.{◌-◌, ◌%◌}
use native.Mathlib.Nat.{mod-lt}
use native.Mathlib.Omega.{arith}
use Rattle.format_logisim.proofs.Lengths.{chunk_most, whole_few, text_whole, text_short}
use Rattle.format_logisim.proofs.file_length.Goals as goal

pub overflow_add-whole : goal.overflow_add-whole
overflow_add-whole c =
    let p = c.args.parts in
    omega (arith, c.whole_length-whole.ensures, whole_few p.good.image.len p.width p.in_range.1 p.good.few)

pub returns-then-rest-eq0 : goal.returns-then-rest-eq0
returns-then-rest-eq0 c =
    let p = c.args.parts in
    omega (arith, c.whole_length-whole.ensures, text_whole p.good.image.bytes.now p.good.image.len p.width p.in_range.0 c.if-rest-eq0.true)

pub overflow_add-result : goal.overflow_add-result
overflow_add-result c =
    let p = c.args.parts in
    let i = p.good.image in
    let rest = i.len % p.width in
    omega
    (arith, c.whole_length-whole.ensures, whole_few i.len p.width p.in_range.1 p.good.few, c.chunk_length.ensures i.bytes.now i.len, chunk_most i.bytes.now i.len (i.len - rest) rest, mod-lt i.len p.in_range.0, p.in_range.1)

pub returns : goal.returns
returns c =
    let p = c.args.parts in
    let i = p.good.image in
    omega
    (arith, c.whole_length-whole.ensures, c.chunk_length.ensures i.bytes.now i.len, text_short i.bytes.now i.len p.width p.in_range.0 c.if-rest-eq0.false)
