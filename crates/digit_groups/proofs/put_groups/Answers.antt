-- `digit_groups::put_groups` meets its contract: after each turn the groups before group k are written.
-- Assumes nothing.
use mathlib.Core.Path.{◌≡◌, ap}
use mathlib.Core.List.{List}
use Prim.Native.Nat.{ℕ, ◌+◌, ◌≤◌}
use native.Mathlib.Omega.{arith}
use lib.ListN.{length, length-append}
use borrow.Author.Rules.{rules}
use Rattle.output.proofs.Pieces.{pieces_none, pieces_append, pieces_most}
use Rattle.output.proofs.Writes.{writes_nothing, writes_then}
use Rattle.digit_groups.specs.InnerGroups.{group_of, groups_from, groups_text}
use Rattle.digit_groups.proofs.put_groups.Goals as goal

pub loop-k-init : goal.loop-k-init
loop-k-init g c = (search rules, rw pieces_none (writes_nothing _ _))

pub put_some-next-requires-clause-room : goal.put_some-next-requires-clause-room
put_some-next-requires-clause-room g c =
    let a = c.args in
    let l = c.loop-k in
    let n = c.min.result in
    let within : l.k + n ≤ a.count = omega (arith, c.min.ensures, c.loop-k-test.true) in
    let text = g.W.PutGroup.text a.writer.now in
    let group : ℕ → List ℕ = λ k. text k (group_of a.groups k) in
    omega (
      arith,
      l.invariant.1.next,
      l.auto.out,
      ap length (pieces_append group l.k n),
      length-append (groups_text text a.groups l.k) (groups_from text a.groups l.k n),
      pieces_most group (l.k + n) a.count within,
      c.requires.room,
    )

pub loop-k-preserved : goal.loop-k-preserved
loop-k-preserved g c =
    let most : c.min.result ≡ c.at_once-most.result = omega (arith, c.min.ensures) in
    (omega (arith, c.min.ensures), rw (← most, pieces_append) (writes_then c.loop-k.invariant.1 c.put_some-next.ensures))

pub returns : goal.returns
returns g c =
    let done : c.loop-k.k ≡ c.args.count = omega (arith, c.loop-k.invariant.0, c.loop-k-test.false) in
    rw done at c.loop-k.invariant.1

pub returns-2 : goal.returns-2
returns-2 g c =
    let last : c.args.count ≡ c.loop-k.k + c.min.result = omega (arith, c.min.ensures, c.loop-k-test.true) in
    rw (last, pieces_append) (writes_then c.loop-k.invariant.1 c.put_some-next.ensures)
