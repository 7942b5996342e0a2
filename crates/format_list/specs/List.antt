-- The digits of an image in groups with strings between them (document 01, module 4; the Rust's `format_list`).
use Rattle.std.specs.Prelude.{Bool, cond, not, ◌||◌, ◌&&◌, List, ◌++◌, ℕ, ◌*◌, ◌%◌, eqb, ltb, length}
use Rattle.bitvec.specs.Size.{bad_size, ceil_div}
use Rattle.output.specs.Pieces.{joined}
use Rattle.outcome.specs.Outcome.{Outcome, refused, outside, too_long, in_room}
use Rattle.digits.specs.Bytes.{base_bits}
use Rattle.digits.specs.Run.{run}
use Rattle.format_list.specs.declared.FormatListOptions.{FormatListOptions}

-- The bits of a group.
abbrev pub group_bits : FormatListOptions → ℕ
group_bits o = o.digits_per_group * base_bits o.base

-- Group k: its digits, the last group filled with zero digits.
unfoldable pub group_text : FormatListOptions → List ℕ → ℕ → ℕ → List ℕ
group_text o bytes len k = run bytes len (base_bits o.base) (k * group_bits o) o.digits_per_group

-- What stands before group k: the second string, if it is not empty, where groups_per_group2 divides k, and else the first.
unfoldable pub between_groups : FormatListOptions → List ℕ → List ℕ → ℕ → List ℕ
between_groups o between between2 k = cond (not (eqb (length between2) 0) && eqb (k % o.groups_per_group2) 0) between2 between

-- The groups with the strings between them, in as many groups as hold the image, between the strings before and after.
unfoldable pub list_text : FormatListOptions → List ℕ → List ℕ → List ℕ → List ℕ → List ℕ → ℕ → List ℕ
list_text o before after between between2 bytes len =
    before ++ (joined (between_groups o between between2) (group_text o bytes len) (ceil_div len (group_bits o)) ++ after)

-- The cause of refusal 2: a base or a number outside its range, a second string with no place, or a string that is too long.
unfoldable pub bad_list : FormatListOptions → List ℕ → List ℕ → List ℕ → List ℕ → Bool
bad_list o before after between between2 =
    eqb (base_bits o.base) 0
    || (outside 1 64 o.digits_per_group
    || (ltb 65535 o.groups_per_group2
    || ((not (eqb (length between2) 0) && eqb o.groups_per_group2 0)
    || (too_long before || (too_long after || (too_long between || too_long between2))))))

unfoldable pub list_outcome : List ℕ → ℕ → FormatListOptions → List ℕ → List ℕ → List ℕ → List ℕ → ℕ → Outcome
list_outcome bytes len o before after between between2 room =
    cond (bad_size bytes len) (refused 1 0)
    (cond (bad_list o before after between between2) (refused 2 0)
    (in_room room (list_text o before after between between2 bytes len)))
