-- `format_bytes::c_array::CArray::length` meets its contract: the list, the first comment, and the words around them.
-- Assumes nothing.
use mathlib.Core.Path.{refl, ◌∙◌}
use mathlib.Core.List.{◌++◌}
use native.Mathlib.Omega.{arith}
use lib.ListN.{length-append}
use Rattle.output.specs.Ascii.{ascii}
use Rattle.format_bytes.specs.InnerRadix.{radix_number}
use Rattle.format_bytes.specs.CArray.{address_comment, address_width}
use Rattle.format_bytes.proofs.Lengths.{c_array_parts, address_length}
use Rattle.format_bytes.proofs.c_array.CArray.length.Goals as goal

pub returns : goal.returns
returns c =
    let a = c.args.self in
    let len = a.good.image.len in
    let comment = address_length len 0 (omega arith) in
    let list = c.list_length-list.ensures.length (ascii ", ") (λ k. ascii "\n" ++ address_comment (address_width len) k) refl (λ k h.
    length-append (ascii "\n") (address_comment (address_width len) k) ∙ omega (arith, a.last, address_length len k (omega arith))) in
    omega (arith, a.last, c_array_parts (radix_number a.radix) a.good.image.bytes.now len)
