-- `format_bytes::byte_list::put_list` meets its contract: after k turns k bytes are written.
-- Assumes nothing.
use mathlib.Core.Path.{◌≡◌, refl}
use mathlib.Core.List.{List, ◌++◌}
use Prim.Native.Nat.{ℕ, ◌+◌, ◌≤◌, ◌<◌}
use native.Mathlib.Omega.{arith}
use lib.ListN.{length}
use Rattle.bitvec.specs.Bits.{byte_at}
use Rattle.bitvec.specs.Size.{ceil_div}
use Rattle.output.specs.Pieces.{leading, joined, every}
use Rattle.output.proofs.Joined.{joined_none, joined_next, joined_room}
use Rattle.output.proofs.Writes.{writes_nothing, writes_then, writes_length}
use Rattle.format_bytes.specs.Bytes.{byte_in, byte_list}
use Rattle.format_bytes.specs.InnerRadix.{radix_number}
use Rattle.format_bytes.proofs.byte_list.put_list.Goals as goal

-- A byte has room, with what stands before it, where the list has.
room : (radix : ℕ) (s : List ℕ) (start : ℕ → List ℕ) (bytes : List ℕ) (len k : ℕ) → k < ceil_div len 8
    → (let between : ℕ → List ℕ = λ j. s ++ every 16 j (start j) in
    let item : ℕ → List ℕ = λ j. byte_in radix (byte_at bytes len j) in
    length (joined between item k) + (length (leading between k) + length (item k)) ≤ length (byte_list radix s start bytes len))
unfolding byte_list
room radix s start bytes len k h =
    joined_room (λ j. s ++ every 16 j (start j)) (λ j. byte_in radix (byte_at bytes len j)) k (ceil_div len 8) h

pub loop-k-init : goal.loop-k-init
loop-k-init g c = (omega arith, rw joined_none (writes_nothing _ _), refl)

pub put_before_byte-next-requires : goal.put_before_byte-next-requires
put_before_byte-next-requires g c =
    let a = c.args in
    let l = c.loop-k in
    omega (arith, room (radix_number a.list.radix) a.list.separator.now (g.S.LineStart.line_start a.start) a.list.good.image.bytes.now a.list.good.image.len l.k (omega arith), c.requires, l.invariant.1.next, l.invariant.2)

pub put_byte_in-next-requires : goal.put_byte_in-next-requires
put_byte_in-next-requires g c =
    let a = c.args in
    let l = c.loop-k in
    rw c.read_byte-byte.ensures
    (omega (arith, room (radix_number a.list.radix) a.list.separator.now (g.S.LineStart.line_start a.start) a.list.good.image.bytes.now a.list.good.image.len l.k (omega arith), c.requires, l.invariant.1.next, l.invariant.2, c.put_before_byte-next.ensures.next, writes_length c.put_before_byte-next.ensures))

pub loop-k-preserved : goal.loop-k-preserved
loop-k-preserved g c =
    let l = c.loop-k in (
      omega arith,
      rw joined_next (writes_then l.invariant.1 (writes_then c.put_before_byte-next.ensures (rw c.read_byte-byte.ensures at c.put_byte_in-next.ensures))),
      omega (arith, l.invariant.2, writes_length c.put_before_byte-next.ensures, writes_length c.put_byte_in-next.ensures),
    )

pub returns : goal.returns
unfolding byte_list
returns g c =
    let done : c.loop-k.k ≡ ceil_div c.args.list.good.image.len 8 = omega arith in
    rw (← done) c.loop-k.invariant.1
