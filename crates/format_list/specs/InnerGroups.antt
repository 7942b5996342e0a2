-- The groups of a list as the code has them. No format is defined by it.
use Rattle.std.specs.Prelude.{Bool, cond, List, ℕ, eqb, length}
use Rattle.format_list.specs.declared.FormatListOptions.{FormatListOptions}
use Rattle.format_list.specs.declared.ListStrings.{ListStrings}
use Rattle.format_list.specs.declared.shape.ListOptions.{ListOptions}
use Rattle.format_list.specs.declared.shape.ListGroups.{ListGroups}
use Rattle.format_list.specs.List.{between_groups, list_text, bad_list}

-- Whether options and strings are outside their ranges.
abbrev pub bad_given : FormatListOptions → ListStrings → Bool
bad_given o s = bad_list o s.before.now s.after.now s.between.now s.between2.now

-- How many groups there are from one second string to the next, 1 where there is none; and what stands before group k.
abbrev pub every_of : ListOptions → ℕ
every_of o = cond (eqb (length o.strings.between2.now) 0) 1 o.given.groups_per_group2

abbrev pub between_of : ListOptions → ℕ → List ℕ
between_of o = between_groups o.given o.strings.between.now o.strings.between2.now

-- The list.
abbrev pub list_of : ListGroups → List ℕ
list_of g = let s = g.options.strings in
    list_text g.options.given s.before.now s.after.now s.between.now s.between2.now g.good.image.bytes.now g.good.image.len
