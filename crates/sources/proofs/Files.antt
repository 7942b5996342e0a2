-- Laws of a source text: its length, and whether it is ASCII.
-- Assumes nothing.
use Rattle.std.proofs.Common.{◌≡◌, ℕ, ◌≤◌, Bool, true, false, List, length, get_or, refl, arith}
use mathlib.Core.Bool.{not}
use mathlib.Mathlib.Data.Bool.Basic.{or-eq-false-eq-eq-false-and-eq-false}
use lib.Dec.{ltb}
use borrow.Author.Tests.{le-ltb, ltb-true, ltb-false}
use Rattle.std.specs.Bool.{MatchBool}
use Rattle.std.specs.Str.{IsAscii, IsNotAscii}
use Rattle.std.proofs.lemmas.List.{get_or_past}
use Rattle.output.specs.Lists.{first}
use Rattle.output.proofs.Lists.{first_all, first_most, first_none}
use Rattle.sources.specs.Sources.{bad_text}

-- A text that is not bad has at most 1,048,576 bytes.
pub short_text : (t : List ℕ) → bad_text t ≡ false → length t ≤ 1048576
unfolding bad_text
short_text t e = ltb-false _ _ ((or-eq-false-eq-eq-false-and-eq-false (ltb 1048576 (length t)) _).0 e).0

-- What the library's test of a text says of the first byte of 128 or more.
pub ascii_tested : (t : List ℕ) (b : Bool) → MatchBool b (IsAscii t) (IsNotAscii t)
    → ltb (first (λ k. ltb 127 (get_or t k 0)) (length t)) (length t) ≡ not b
ascii_tested t true h = let none = first_all (λ k. ltb 127 (get_or t k 0)) (length t) (λ k l. le-ltb 127 (get_or t k 0) (omega (arith, h k))) in le-ltb _ _ (omega (arith, none))
ascii_tested t false h = go (ltb (first fault (length t)) (length t)) (ltb h.0 (length t)) refl refl
  where
    fault : ℕ → Bool
    fault k = ltb 127 (get_or t k 0)

    go : (a b : Bool) → ltb (first fault (length t)) (length t) ≡ a → ltb h.0 (length t) ≡ b → ltb (first fault (length t)) (length t) ≡ true
    go true b p q = p
    go false false p q = absurd (omega (arith, h.1, get_or_past t h.0 0 (ltb-false _ _ q)))
    go false true p q =
        let none : first fault (length t) ≡ length t = omega (arith, ltb-false _ _ p, first_most fault (length t)) in
        absurd (omega (arith, h.1, ltb-false 127 (get_or t h.0 0) (first_none fault (length t) none h.0 (ltb-true _ _ q))))
