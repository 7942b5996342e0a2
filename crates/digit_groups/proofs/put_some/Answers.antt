-- `digit_groups::put_some` meets its contract: after j turns j groups are written, and the turn is that of the next.
-- Assumes nothing.
use mathlib.Core.Path.{◌≡◌, refl, ap}
use Prim.Native.Nat.{ℕ, ◌+◌, ◌-◌, ◌*◌, ◌%◌}
use native.Mathlib.Omega.{arith}
use native.Mathlib.Nat.{add-zero, mod-add-mod}
use Rattle.output.proofs.Pieces.{pieces_none, pieces_next, pieces_room}
use Rattle.output.proofs.Writes.{writes_nothing, writes_then}
use Rattle.digit_groups.specs.InnerGroups.{group_of}
use Rattle.digit_groups.proofs.Made.{group_made}
use Rattle.digit_groups.proofs.put_some.Goals as goal

pub loop-j-init : goal.loop-j-init
loop-j-init g c = (rw pieces_none (writes_nothing _ _), rw (add-zero c.args.first, c.every-every.ensures.0) refl)

pub put_group-next-requires : goal.put_group-next-requires
put_group-next-requires g c =
    let a = c.args in
    let l = c.loop-j in
    let s = a.groups.size in
    let size : l.j * s + s - l.j * s ≡ s = omega arith in
    let group = group_made a.groups a.first a.count l.j c.loop-j-test.true (omega (arith, c.requires.small.0)) (rw c.plus-from.ensures at c.put_run.ensures) in
    let room = pieces_room (λ j. g.W.PutGroup.text a.writer.now (a.first + j) (group_of a.groups (a.first + j))) l.j a.count c.loop-j-test.true in (
      omega (arith, c.loop-j-test.true, c.requires.small.1),
      l.invariant.1,
      rw (size, group) (omega (arith, room, l.invariant.0.next, l.auto.out, c.requires.room)),
    )

pub loop-j-preserved : goal.loop-j-preserved
loop-j-preserved g c =
    let a = c.args in
    let l = c.loop-j in
    let s = a.groups.size in
    let m = g.W.PutGroup.every a.writer.now in
    let size : l.j * s + s - l.j * s ≡ s = omega arith in
    let group = group_made a.groups a.first a.count l.j c.loop-j-test.true (omega (arith, c.requires.small.0)) (rw c.plus-from.ensures at c.put_run.ensures) in (
      rw pieces_next (writes_then l.invariant.0 (rw (size, group) at c.put_group-next.ensures)),
      rw (c.next_turn-turn.ensures, l.invariant.1, c.every-every.ensures.0, mod-add-mod (a.first + l.j) m 1) (ap (λ (x : ℕ). x % m) (omega arith)),
    )
