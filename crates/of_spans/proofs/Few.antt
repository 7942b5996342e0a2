-- What the core finds in the columns of the first 4,097 records is what it finds in those of all.
-- Assumes nothing.
use mathlib.Core.Path.{◌≡◌, refl, ap, subst}
use mathlib.Core.Bool.{false, cond, ◌||◌}
use mathlib.Core.List.{List, map}
use Prim.Native.Nat.{ℕ}
use lib.Dec.{ltb}
use lib.ListN.{length, take}
use borrow.Author.Tests.{eq-eqb}
use Rattle.std.proofs.lemmas.List.{length-map}
use Rattle.bitvec.specs.Size.{bad_size}
use Rattle.outcome.specs.Outcome.{refused, outside, Exports, found, unfound}
use Rattle.blocks.specs.Blocks.{blocks_of, blocks_found}
use Rattle.hex_records.specs.Plan.{hex_plan}
use Rattle.intelhex.specs.declared.both.Both.{Both}
use Rattle.intelhex.specs.Hex.{plan_outcome, hex_outcome}
use Rattle.intelhex.specs.TwoImages.{Agree, SameAnswers}
use Rattle.intelhex.proofs.Calls.{calls_rule}
use Rattle.listing.specs.declared.FormatAnnotatedOptions.{FormatAnnotatedOptions}
use Rattle.listing.specs.Listing.{bad_annotated, unequal}
use Rattle.annotated.specs.Annotated.{listed_outcome, annotated_outcome}
use Rattle.spans.specs.declared.Span.{Span}
use Rattle.spans.specs.Spans.{offsets_of, sizes_of}
use Rattle.spans.proofs.Few.{checked_few}
use Rattle.of_spans.specs.Records.{record_spans}

pub blocks_few : (xs : List Span) (room room₂ : ℕ)
    → blocks_found (offsets_of (take 4097 xs)) (sizes_of (take 4097 xs)) room room₂ ≡ blocks_found (offsets_of xs) (sizes_of xs) room room₂
unfolding blocks_found
blocks_few xs room room₂ =
    checked_few unfound
    (λ ys.
    let blocks = blocks_of (offsets_of ys) (sizes_of ys) in
    cond (ltb room (length blocks) || ltb room₂ (length blocks)) (unfound 8 (length blocks)) (found (map (λ b. b.offset) blocks) (map (λ b. b.size) blocks)))
    xs

pub hex_few : (bytes : List ℕ) (len : ℕ) (xs : List Span) (unit room : ℕ)
    → hex_outcome bytes len (offsets_of (take 4097 xs)) (sizes_of (take 4097 xs)) unit room ≡ hex_outcome bytes len (offsets_of xs) (sizes_of xs) unit room
unfolding hex_outcome
hex_few bytes len xs unit room =
    ap (λ o. cond (bad_size bytes len) (refused 1 0) (cond (outside 1 64 unit) (refused 2 0) o))
    (checked_few refused (λ ys. plan_outcome bytes len (hex_plan unit (blocks_of (offsets_of ys) (sizes_of ys))) room) xs)

-- The two-image rule over records, from the core's.
pub both_few : (b₁ : List ℕ) (n₁ : ℕ) (b₂ : List ℕ) (n₂ : ℕ) (xs : List Span) (unit : ℕ) (r : Both) (out₁ after₁ out₂ after₂ : List ℕ)
    → (Exports (hex_outcome b₁ n₁ (offsets_of (take 4097 xs)) (sizes_of (take 4097 xs)) unit (length out₁)) r.first out₁ after₁)
    × (Exports (hex_outcome b₂ n₂ (offsets_of (take 4097 xs)) (sizes_of (take 4097 xs)) unit (length out₂)) r.second out₂ after₂)
    → (Exports (hex_outcome b₁ n₁ (offsets_of xs) (sizes_of xs) unit (length out₁)) r.first out₁ after₁)
    × (Exports (hex_outcome b₂ n₂ (offsets_of xs) (sizes_of xs) unit (length out₂)) r.second out₂ after₂)
    × (bad_size b₁ n₁ ≡ false → bad_size b₂ n₂ ≡ false → length out₁ ≡ length out₂
    → SameAnswers r.first r.second after₁ after₂ (Agree (blocks_of (offsets_of xs) (sizes_of xs)) b₁ n₁ b₂ n₂))
both_few b₁ n₁ b₂ n₂ xs unit r out₁ after₁ out₂ after₂ e =
    let x₁ = subst (λ o. Exports o r.first out₁ after₁) (hex_few b₁ n₁ xs unit (length out₁)) e.0 in
    let x₂ = subst (λ o. Exports o r.second out₂ after₂) (hex_few b₂ n₂ xs unit (length out₂)) e.1 in
    (x₁, x₂, calls_rule b₁ n₁ b₂ n₂ (offsets_of xs) (sizes_of xs) unit r.first r.second out₁ after₁ out₂ after₂ x₁ x₂)

-- The columns of records are of one length.
equal : (xs : List Span) → unequal (record_spans xs) ≡ false
unfolding unequal
equal xs = simp (length-map, eq-eqb (length xs) (length xs) refl)

pub listing_few : (bytes : List ℕ) (len : ℕ) (o : FormatAnnotatedOptions) (xs : List Span) (firmware protocol : List ℕ) (room : ℕ)
    → annotated_outcome bytes len o (record_spans (take 4097 xs)) firmware protocol room ≡ annotated_outcome bytes len o (record_spans xs) firmware protocol room
unfolding annotated_outcome
listing_few bytes len o xs firmware protocol room =
    rw (equal (take 4097 xs), equal xs)
    (ap (λ a. cond (bad_size bytes len) (refused 1 0) (cond (bad_annotated o) (refused 2 0) a))
    (checked_few refused (λ ys. listed_outcome bytes len o (record_spans ys) firmware protocol room) xs))
