-- `format_bytes::c_array::CArray::write` meets its contract: one writer after another.
-- Assumes nothing.
use native.Mathlib.Omega.{arith}
use Rattle.output.proofs.Writes.{writes_then, writes_length}
use Rattle.format_bytes.specs.InnerRadix.{radix_number}
use Rattle.format_bytes.specs.CArray.{c_array_text}
use Rattle.format_bytes.proofs.Lengths.{c_array_parts}
use Rattle.format_bytes.proofs.c_array.CArray.write.Goals as goal

pub put_all-requires : goal.put_all-requires
put_all-requires c =
    let a = c.args.self in
    let parts = rw (← a.last) at (c_array_parts (radix_number a.radix) a.good.image.bytes.now a.good.image.len) in
    omega (
      arith,
      parts,
      c.requires,
      c.put_all-next.ensures.next,
      c.put_comment-next.ensures.next,
      c.put_list-next.ensures.next,
      writes_length c.put_all-next.ensures,
      writes_length c.put_comment-next.ensures,
      writes_length c.put_list-next.ensures,
    )

pub returns : goal.returns
unfolding c_array_text
returns c =
    rw (← c.args.self.last)
    (writes_then c.put_all-next.ensures
    (writes_then c.put_comment-next.ensures
    (writes_then c.put_list-next.ensures
    c.put_all.ensures)))
