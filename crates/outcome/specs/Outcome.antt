-- What an export gives: a text, or a refusal with its number and the value returned with it (document 01, "When an export is refused").
use Rattle.std.specs.Prelude.{◌≡◌, Bool, cond, ◌||◌, List, Result, Ok, Err, ℕ, ltb, length}
use Rattle.std.proofs.lemmas.List.Edits.{sets}
use Rattle.outcome.specs.declared.Refusal.{Refusal}
use Rattle.outcome.specs.declared.Refusal.TheVariants.{ImageSize, OptionRange, SpanRange, EmptyImage, AddressRange, SourceText, SpanFault, NoRoom}

-- A text, or a refusal: its number, and the value returned with it.
pub data Outcome : Type 0 where
  text : List ℕ → Outcome
  refused : ℕ → ℕ → Outcome

-- The paper's number, 0 for a text, and the value that comes with it.
pub record Answer : Type 0 where
  pub number : ℕ
  pub value : ℕ

-- The answer that an outcome asks for: a text is answered with its length.
abbrev pub answer : Outcome → Answer
answer (text t) = record { number = 0; value = length t }
answer (refused n v) = record { number = n; value = v }

-- The paper's number and value for each refusal.
abbrev pub refusal_of : Refusal → Answer
refusal_of ImageSize = record { number = 1; value = 0 }
refusal_of OptionRange = record { number = 2; value = 0 }
refusal_of (SpanRange place) = record { number = 3; value = place }
refusal_of EmptyImage = record { number = 4; value = 0 }
refusal_of AddressRange = record { number = 5; value = 0 }
refusal_of SourceText = record { number = 6; value = 0 }
refusal_of (SpanFault place) = record { number = 7; value = place }
refusal_of (NoRoom needed) = record { number = 8; value = needed }

-- The same for each answer: that of a text is 0 and its length.
abbrev pub answer_of : Result ℕ Refusal → Answer
answer_of (Ok n) = record { number = 0; value = n }
answer_of (Err r) = refusal_of r

-- The buffer behind the call: a text fills its front and the bytes behind it stay; a refusal leaves it as it was.
abbrev pub left : Outcome → List ℕ → List ℕ
left (text t) out = sets out 0 t
left (refused n v) out = out

-- The cause of refusal 2: an option outside its range.
unfoldable pub outside : ℕ → ℕ → ℕ → Bool
outside low high option = ltb option low || ltb high option

-- So is a string of more than 256 bytes.
unfoldable pub too_long : List ℕ → Bool
too_long s = ltb 256 (length s)

-- Refusal 8, the last: the text, where the room has a place for each of its bytes.
abbrev pub in_room : ℕ → List ℕ → Outcome
in_room room t = cond (ltb room (length t)) (refused 8 (length t)) (text t)

-- What every exporter promises: its answer, and every byte of the buffer.
pub record Exports (o : Outcome) (r : Result ℕ Refusal) (before after : List ℕ) : Type 0 where
  pub answered : answer_of r ≡ answer o
  pub buffer : after ≡ left o before

-- What a function gives that fills the fronts of two slices: the numbers of both, or a refusal with its number and value.
pub data Finding : Type 0 where
  found : List ℕ → List ℕ → Finding
  unfound : ℕ → ℕ → Finding

-- The answer that a finding asks for: how many were found.
abbrev pub finding_answer : Finding → Answer
finding_answer (found firsts seconds) = record { number = 0; value = length firsts }
finding_answer (unfound n v) = record { number = n; value = v }

-- One of the slices behind the call: its front holds its numbers and the rest stays; a refusal leaves it as it was.
abbrev pub front : (List ℕ → List ℕ → List ℕ) → Finding → List ℕ → List ℕ
front numbers (found firsts seconds) before = sets before 0 (numbers firsts seconds)
front numbers (unfound n v) before = before

-- What such a function promises: its answer, and every number of both slices.
pub record Finds (f : Finding) (r : Result ℕ Refusal) (firsts₀ firsts₁ seconds₀ seconds₁ : List ℕ) : Type 0 where
  pub answered : answer_of r ≡ finding_answer f
  pub firsts : firsts₁ ≡ front (λ firsts seconds. firsts) f firsts₀
  pub seconds : seconds₁ ≡ front (λ firsts seconds. seconds) f seconds₀
