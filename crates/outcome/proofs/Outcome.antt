-- Laws of an exporter's answers: an option in its range, and the last two answers, the text where there is room and refusal 8 where not.
-- Assumes nothing.
use mathlib.Core.Path.{◌≡◌, refl, ap}
use mathlib.Core.Bool.{false}
use mathlib.Core.List.{List}
use mathlib.Mathlib.Data.Bool.Basic.{or-eq-false-eq-eq-false-and-eq-false}
use Prim.Native.Nat.{ℕ, ◌≤◌, ◌<◌}
use native.Mathlib.Omega.{arith}
use lib.Dec.{ltb}
use lib.ListN.{length}
use borrow.Author.Tests.{lt-ltb, le-ltb, ltb-false}
use Rattle.output.specs.Writes.{Writes}
use Rattle.std.specs.Prelude.{Ok, Err}
use Rattle.outcome.specs.declared.Refusal.TheVariants.{NoRoom}
use Rattle.outcome.specs.Outcome.{text, refused, answer_of, outside, too_long, in_room, Exports}

-- An option that is not outside its range is in it.
pub inside : (low high option : ℕ) → outside low high option ≡ false → (low ≤ option) × (option ≤ high)
unfolding outside
inside low high option e =
    let f = (or-eq-false-eq-eq-false-and-eq-false (ltb option low) (ltb high option)).0 e in
    (ltb-false _ _ f.0, ltb-false _ _ f.1)

-- A string that is not too long.
pub short : (s : List ℕ) → too_long s ≡ false → length s ≤ 256
unfolding too_long
short s e = ltb-false _ _ e

-- A text that the room holds.
pub room_enough : (room : ℕ) (t : List ℕ) → length t ≤ room → in_room room t ≡ text t
room_enough room t h = simp (le-ltb room (length t) h)

-- A text that is longer than the room.
pub room_short : (room : ℕ) (t : List ℕ) → room < length t → in_room room t ≡ refused 8 (length t)
room_short room t h = simp (lt-ltb room (length t) h)

-- A text written from the front, with its length.
pub exports_text : {t before after : List ℕ} {r : ℕ} → length t ≤ length before → Writes t before 0 after r → Exports (in_room (length before) t) (Ok r) before after
exports_text {t} {before} {after} {r} h w =
    rw (room_enough (length before) t h)
    record { answered = ap (λ (n : ℕ). answer_of (Ok n)) (omega (arith, w.next)); buffer = w.stored }

-- A text that is too long, with the length needed.
pub exports_no_room : (t before : List ℕ) {n : ℕ} → n ≡ length t → length before < n → Exports (in_room (length before) t) (Err (NoRoom n)) before before
exports_no_room t before {n} e h =
    rw (room_short (length before) t (omega arith))
    record { answered = ap (λ (m : ℕ). answer_of (Err (NoRoom m))) e; buffer = refl }
