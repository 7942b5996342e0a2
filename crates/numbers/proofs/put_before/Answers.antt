-- `numbers::put_before` meets its contract: at each turn the digits of what is left and those that are stored, t, make the whole number.
-- Assumes nothing.
use mathlib.Core.Path.{◌≡◌, refl, sym, ◌∙◌}
use mathlib.Core.List.{[], ◌∷◌, append-nil, append_assoc}
use Prim.Native.Nat.{◌/◌, ◌%◌}
use native.Mathlib.Omega.{arith}
use lib.ListN.{length-set}
use borrow.Author.Rules.{rules}
use Rattle.output.proofs.Writes.{sets_before}
use Rattle.numbers.specs.Digits.{digit_char, number_text}
use Rattle.numbers.proofs.Digits.{count_last, count_more, count_some, number_last, number_more, number_length}
use Rattle.numbers.proofs.put_before.Goals as goal

pub loop-rest-init : goal.loop-rest-init
loop-rest-init c = ([], append-nil _, refl, refl, search rules, refl)

pub overflow_sub-place : goal.overflow_sub-place
overflow_sub-place c =
    omega (arith, count_some c.args.radix.value c.loop-rest.rest c.args.radix.in_range.0)

pub bounds-out-place : goal.bounds-out-place
bounds-out-place c =
    omega (arith, count_some c.args.radix.value c.loop-rest.rest c.args.radix.in_range.0)

pub loop-rest-preserved : goal.loop-rest-preserved
loop-rest-preserved c =
    let a = c.args in
    let r = a.radix.value in
    let two = c.args.radix.in_range.0 in
    let t = c.loop-rest.invariant.0 in
    let d = digit_char a.letters (c.loop-rest.rest % r) in
    let more = number_more a.letters r c.loop-rest.rest two c.loop-rest-test.true in
    let fewer = count_more r c.loop-rest.rest two c.loop-rest-test.true in (
      d ∷ t,
      sym (append_assoc (number_text a.letters r (c.loop-rest.rest / r)) (d ∷ []) t) ∙ rw (← more) c.loop-rest.invariant.1,
      rw (c.digit_char.ensures, c.loop-rest.invariant.2) (sets_before t a.out.now _ _ d (omega arith)),
      omega arith,
      omega arith,
      simp length-set (search rules),
    )

pub overflow_sub-place-2 : goal.overflow_sub-place-2
overflow_sub-place-2 c =
    omega (arith, count_last c.args.radix.value c.loop-rest.rest c.loop-rest-test.false)

pub bounds-out-place-2 : goal.bounds-out-place-2
bounds-out-place-2 c =
    omega (arith, count_last c.args.radix.value c.loop-rest.rest c.loop-rest-test.false)

pub returns : goal.returns
returns c =
    let a = c.args in
    let r = a.radix.value in
    let t = c.loop-rest.invariant.0 in
    let last = c.loop-rest-test.false in
    let one = count_last r c.loop-rest.rest last in
    let whole : digit_char a.letters c.loop-rest.rest ∷ t ≡ number_text a.letters r a.value =
    rw (number_last a.letters r c.loop-rest.rest last) at c.loop-rest.invariant.1 in
    record {
      next = rw number_length (omega arith);
      stored =
          rw (← whole, c.digit_char-2.ensures, c.loop-rest.invariant.2)
          (sets_before t a.out.now _ _ _ (omega arith));
    }
