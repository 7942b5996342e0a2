-- `format_list::ListOptions::gaps_length` meets its contract: two lengths, whose places are known.
-- Assumes nothing.
use mathlib.Core.Path.{sym, ◌∙◌}
use Prim.Native.Nat.{◌^◌}
use native.Mathlib.Omega.{arith}
use lib.ListN.{length}
use borrow.Author.Rules.{rules}
use Rattle.output.proofs.Joined.{between_length, between_small}
use Rattle.format_list.specs.InnerGroups.{every_of, between_of}
use Rattle.format_list.proofs.Strings.{second_of, either_long, every_some, second_short}
use Rattle.format_list.proofs.shape.ListOptions.gaps_length.Goals as goal

pub returns : goal.returns
returns c =
    let o = c.args.self in
    let n = c.args.count in
    let one = length o.strings.between.now in
    let two = length (second_of o) in
    let small = between_small (every_of o) two one n (2 ^ 32) 256 (search rules) (second_short o) o.inner.0 in
    let same = rw (c.every.ensures.0, c.second.ensures) at c.between_length.ensures in
    (same ∙ sym (between_length (between_of o) (every_of o) two one n (every_some o) (λ k h. either_long o k)), omega (arith, same, small))
