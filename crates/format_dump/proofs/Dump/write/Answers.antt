-- `format_dump::Dump::write` meets its contract: after k turns k lines are written.
-- Assumes nothing.
use mathlib.Core.Path.{◌≡◌, refl}
use native.Mathlib.Omega.{arith}
use borrow.Author.Rules.{rules}
use Rattle.output.proofs.Pieces.{pieces_none, pieces_next}
use Rattle.output.proofs.Writes.{writes_nothing, writes_then}
use Rattle.digits.specs.Bytes.{digit_bits}
use Rattle.format_dump.proofs.Lengths.{text_lines, line_fits}
use Rattle.format_dump.proofs.Dump.write.Goals as goal

pub loop-k-init : goal.loop-k-init
loop-k-init c = (rw pieces_none (writes_nothing _ _), refl)

pub overflow_mul-line : goal.overflow_mul-line
overflow_mul-line c =
    let d = c.args.self in
    let fits = line_fits d.good.image.bytes.now d.good.image.len (digit_bits d.kind) d.count d.lines d.address c.loop-k.k d.counted d.filled d.few.0 d.few.1 d.good.few c.loop-k-test.true in
    omega (arith, fits.0)

pub invariant_of-line-clause-low : goal.invariant_of-line-clause-low
invariant_of-line-clause-low c =
    let d = c.args.self in
    let fits = line_fits d.good.image.bytes.now d.good.image.len (digit_bits d.kind) d.count d.lines d.address c.loop-k.k d.counted d.filled d.few.0 d.few.1 d.good.few c.loop-k-test.true in
    fits.0

pub put_line-next-requires : goal.put_line-next-requires
put_line-next-requires c =
    let d = c.args.self in
    let fits = line_fits d.good.image.bytes.now d.good.image.len (digit_bits d.kind) d.count d.lines d.address c.loop-k.k d.counted d.filled d.few.0 d.few.1 d.good.few c.loop-k-test.true in
    record { fits = fits.1; room = omega (arith, fits.2, c.loop-k.invariant.0.next, c.loop-k.invariant.1, c.requires) }

pub loop-k-preserved : goal.loop-k-preserved
loop-k-preserved c = (rw pieces_next (writes_then c.loop-k.invariant.0 c.put_line-next.ensures), search rules)

pub returns : goal.returns
returns c =
    let d = c.args.self in
    let done : c.loop-k.k ≡ d.lines = omega arith in
    rw (text_lines d.good.image.bytes.now d.good.image.len (digit_bits d.kind) d.count d.lines d.address d.counted d.filled) (rw done at c.loop-k.invariant.0)
