-- The length of a list, which is computed before it is written.
-- Assumes nothing.
use mathlib.Core.Path.{◌≡◌, sym}
use Prim.Native.Nat.{ℕ, ◌+◌, ◌*◌}
use native.Mathlib.Omega.{arith}
use lib.ListN.{length, length-append}
use Rattle.bitvec.specs.Size.{ceil_div}
use Rattle.output.specs.Pieces.{pieces, leading, joined}
use Rattle.output.proofs.Pieces.{pieces_length}
use Rattle.output.proofs.Joined.{joined_length}
use Rattle.digits.specs.Bytes.{base_bits}
use Rattle.digits.proofs.Run.{run_length}
use Rattle.format_list.specs.declared.shape.ListGroups.{ListGroups}
use Rattle.format_list.specs.List.{group_bits, group_text, list_text}
use Rattle.format_list.specs.InnerGroups.{between_of, list_of}
use Rattle.format_list.proofs.Strings.{list_group}

-- How many groups hold the image.
abbrev pub count_of : ListGroups → ℕ
count_of g = ceil_div g.good.image.len (group_bits g.options.given)

-- A group has its digits.
group_length : (g : ListGroups) (k : ℕ) → length (list_group g k) ≡ g.options.given.digits_per_group
unfolding group_text
group_length g k = let o = g.options.given in
    run_length g.good.image.bytes.now g.good.image.len (base_bits o.base) (k * group_bits o) o.digits_per_group

-- A list: the strings before and after, and the groups with those between them.
pub list_whole : (g : ListGroups)
    → length (list_of g) ≡ length g.options.strings.before.now + (length (joined (between_of g.options) (list_group g) (count_of g)) + length g.options.strings.after.now)
unfolding list_text
list_whole g = simp length-append

-- The groups have one length.
list_parts : (g : ListGroups)
    → length (list_of g)
    ≡ length g.options.strings.before.now
    + (length (pieces (leading (between_of g.options)) (count_of g)) + count_of g * g.options.given.digits_per_group)
    + length g.options.strings.after.now
list_parts g =
    let n = count_of g in
    let groups = pieces_length (list_group g) g.options.given.digits_per_group n (λ k h. group_length g k) in
    omega (arith, list_whole g, joined_length (between_of g.options) (list_group g) n)

-- The same, as it is measured.
pub measured : (g : ListGroups) (gaps count : ℕ) → gaps ≡ length (pieces (leading (between_of g.options)) count) → count ≡ count_of g
    → length g.options.strings.before.now + (gaps + count * g.options.given.digits_per_group) + length g.options.strings.after.now ≡ length (list_of g)
measured g gaps count e f = rw (e, f) (sym (list_parts g))
