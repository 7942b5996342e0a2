-- The two-image rule: over any plan of records, for the Intel HEX export, and for two calls of it.
-- Assumes nothing.
use mathlib.Core.Path.{◌≡◌, refl, sym, ap, ◌∙◌}
use mathlib.Core.Bool.{Bool, true, false, cond}
use mathlib.Core.Logic.{◌↔◌}
use mathlib.Core.List.{List}
use Prim.Native.Nat.{ℕ, ◌≤◌}
use native.Mathlib.Omega.{arith}
use lib.Dec.{ltb}
use lib.ListN.{length, take}
use Rattle.bitvec.specs.Size.{bad_size}
use Rattle.output.proofs.Order.{by_order}
use Rattle.std.specs.Prelude.{Result}
use Rattle.outcome.specs.declared.Refusal.{Refusal}
use Rattle.outcome.specs.Outcome.{Outcome, Answer, text, refused, answer, answer_of, left, outside, in_room, Exports}
use Rattle.outcome.proofs.Outcome.{room_enough, room_short}
use Rattle.output.specs.Lists.{Each}
use Rattle.output.proofs.Lists.{each_both, each_map, sets_front}
use Rattle.span_list.specs.Range.{long_list, fault_at}
use Rattle.blocks.specs.Blocks.{blocks_of}
use Rattle.hex_records.specs.Plan.{Chunk, hex_plan, too_high}
use Rattle.hex_records.specs.Text.{hex_text}
use Rattle.hex_records.proofs.Decoded.{Same as SameBytes, same_data, equal_text, hex_lengths}
use Rattle.hex_records.proofs.Plan.{Low, low_each, plan_counts}
use Rattle.intelhex.specs.Hex.{plan_outcome, hex_outcome}
use Rattle.intelhex.specs.TwoImages.{Agree, Same, SameAnswered, refused_alike, texts, refused_both, texts_both}
use Rattle.intelhex.proofs.Cover.{plan_covers}

-- The rule over a plan, of records of at most 255 bytes as Intel allows: whatever A says in terms of the plan's bytes, the texts say.
pub plan_rule : (b₁ b₂ : List ℕ) (n₁ n₂ : ℕ) (plan : List Chunk) (room : ℕ) (A : Type 0) → Each (λ c. c.count ≤ 255) plan
    → Each (SameBytes b₁ b₂ n₁ n₂) plan ↔ A → Same (plan_outcome b₁ n₁ plan room) (plan_outcome b₂ n₂ plan room) A
unfolding plan_outcome
plan_rule b₁ b₂ n₁ n₂ plan room A counts covers = go (too_high plan) refl
  where
    t₁ : List ℕ
    t₁ = hex_text b₁ n₁ plan

    t₂ : List ℕ
    t₂ = hex_text b₂ n₂ plan

    fits : too_high plan ≡ false → Same (in_room room t₁) (in_room room t₂) A
    fits e =
        by_order room (length t₁)
        (λ h. refused_alike 8 (length t₁) (λ z. omega arith) (room_short room t₁ h)
        (room_short room t₂ (omega (arith, hex_lengths b₁ b₂ n₁ n₂ plan)) ∙ ap (refused 8) (sym (hex_lengths b₁ b₂ n₁ n₂ plan))))
        (λ h. texts t₁ t₂ (room_enough room t₁ h) (room_enough room t₂ (omega (arith, hex_lengths b₁ b₂ n₁ n₂ plan))) (hex_lengths b₁ b₂ n₁ n₂ plan)
        (λ s. covers.0 (same_data b₁ b₂ n₁ n₂ plan (each_both Low (λ c. c.count ≤ 255) (λ c. (c.address ≤ 65535) × (c.count ≤ 255)) plan (λ c x y. (x, y)) (low_each plan e) counts) s), λ a. equal_text b₁ b₂ n₁ n₂ plan (covers.1 a)))

    go : (t : Bool) → too_high plan ≡ t → Same (cond t (refused 5 0) (in_room room t₁)) (cond t (refused 5 0) (in_room room t₂)) A
    go true e = refused_alike 5 0 (λ z. omega arith) refl refl
    go false e = fits e

-- Two images that pass the size check, exported with the same spans, unit and room length, are refused alike, or give texts of one length
-- that are equal exactly when the images agree on every bit of every block.
pub two_images : (b₁ : List ℕ) (n₁ : ℕ) (b₂ : List ℕ) (n₂ : ℕ) (offsets sizes : List ℕ) (unit room : ℕ) → bad_size b₁ n₁ ≡ false → bad_size b₂ n₂ ≡ false
    → Same (hex_outcome b₁ n₁ offsets sizes unit room) (hex_outcome b₂ n₂ offsets sizes unit room) (Agree (blocks_of offsets sizes) b₁ n₁ b₂ n₂)
unfolding hex_outcome
two_images b₁ n₁ b₂ n₂ offsets sizes unit room e₁ e₂ =
    rw (e₁, e₂) (go (outside 1 64 unit) (long_list offsets sizes) (ltb (fault_at offsets sizes) (length offsets)))
  where
    plan : List Chunk
    plan = hex_plan unit (blocks_of offsets sizes)

    A : Type 0
    A = Agree (blocks_of offsets sizes) b₁ n₁ b₂ n₂

    rest : Same (plan_outcome b₁ n₁ plan room) (plan_outcome b₂ n₂ plan room) A
    rest = plan_rule b₁ b₂ n₁ n₂ plan room A (each_map (λ c. c.count ≤ 32) (λ c. c.count ≤ 255) plan (λ c h. omega arith) (plan_counts unit (blocks_of offsets sizes))) (plan_covers b₁ b₂ n₁ n₂ unit (blocks_of offsets sizes))

    ladder : Bool → Bool → Bool → Outcome → Outcome
    ladder a b c o = cond a (refused 2 0) (cond b (refused 3 4096) (cond c (refused 3 (fault_at offsets sizes)) o))

    go : (a b c : Bool) → Same (ladder a b c (plan_outcome b₁ n₁ plan room)) (ladder a b c (plan_outcome b₂ n₂ plan room)) A
    go true b c = refused_alike 2 0 (λ z. omega arith) refl refl
    go false true c = refused_alike 3 4096 (λ z. omega arith) refl refl
    go false false true = refused_alike 3 (fault_at offsets sizes) (λ z. omega arith) refl refl
    go false false false = rest

-- A text that was exported is the front of the buffer.
front_text : (o : Outcome) (t before after : List ℕ) (a : Answer) → o ≡ text t → length t ≤ length before → a ≡ answer o → after ≡ left o before
    → (a ≡ record { number = 0; value = length t }) × (take (length t) after ≡ t)
front_text o t before after a e h x y =
    (x ∙ ap answer e, ap (take (length t)) (y ∙ ap (λ (p : Outcome). left p before) e) ∙ sets_front before t (length t) h refl)

-- Two calls whose outcomes are the same so far answer so.
pub same_answered : (o₁ o₂ : Outcome) (a₁ a₂ : Answer) (before₁ after₁ before₂ after₂ : List ℕ) (A : Type 0)
    → ((t : List ℕ) → o₁ ≡ text t → length t ≤ length before₁) → ((t : List ℕ) → o₂ ≡ text t → length t ≤ length before₂)
    → a₁ ≡ answer o₁ → after₁ ≡ left o₁ before₁ → a₂ ≡ answer o₂ → after₂ ≡ left o₂ before₂ → Same o₁ o₂ A → SameAnswered a₁ a₂ after₁ after₂ A
same_answered o₁ o₂ a₁ a₂ before₁ after₁ before₂ after₂ A f₁ f₂ x₁ y₁ x₂ y₂ (refused_alike n v z e₁ e₂) =
    refused_both n v z (x₁ ∙ ap answer e₁) (x₂ ∙ ap answer e₂)
same_answered o₁ o₂ a₁ a₂ before₁ after₁ before₂ after₂ A f₁ f₂ x₁ y₁ x₂ y₂ (texts t₁ t₂ e₁ e₂ l s) =
    let p = front_text o₁ t₁ before₁ after₁ a₁ e₁ (f₁ t₁ e₁) x₁ y₁ in
    let q = front_text o₂ t₂ before₂ after₂ a₂ e₂ (f₂ t₂ e₂) x₂ y₂ in
    let q₂ : take (length t₁) after₂ ≡ t₂ = rw l q.1 in
    texts_both (length t₁) p.0 (q.0 ∙ ap (λ (n : ℕ). record { number = 0; value = n }) (sym l))
    (λ e. s.0 (sym p.1 ∙ e ∙ q₂), λ a. p.1 ∙ s.1 a ∙ sym q₂)
