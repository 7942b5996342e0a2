-- A text that is exported: it is that of the plan, it has room, and it is an Intel HEX file that holds the records of the blocks.
-- Assumes nothing.
use mathlib.Core.Path.{◌≡◌, refl, sym, ap, ◌∙◌}
use mathlib.Core.Bool.{Bool, true, false, cond, false≢true}
use mathlib.Core.List.{List, [], ◌∷◌, ◌++◌, map}
use mathlib.Core.Option.{some}
use Prim.Native.Nat.{ℕ, ◌≤◌}
use native.Mathlib.Omega.{arith}
use lib.Dec.{ltb}
use lib.ListN.{length}
use Rattle.bitvec.specs.Size.{bad_size}
use Rattle.output.proofs.Order.{by_order}
use Rattle.outcome.specs.Outcome.{Outcome, text, refused, answer, outside, in_room}
use Rattle.outcome.proofs.Outcome.{room_enough, room_short}
use Rattle.output.proofs.Lists.{each_both}
use Rattle.span_list.specs.Range.{long_list, fault_at}
use Rattle.blocks.specs.Blocks.{blocks_of}
use Rattle.hex_records.specs.Plan.{Chunk, hex_plan, too_high}
use Rattle.hex_records.specs.Text.{hex_text}
use Rattle.hex_records.specs.Intel.{records, data_record, end_record}
use Rattle.hex_records.proofs.Decoded.{decodes}
use Rattle.hex_records.proofs.Plan.{Low, low_each, plan_counts}
use Rattle.intelhex.specs.Hex.{plan_outcome, hex_outcome}

-- A text is no refusal, and is that of its outcome.
abbrev is_text : Outcome → Bool
is_text (text t) = true
is_text (refused n v) = false

abbrev text_in : Outcome → List ℕ
text_in (text t) = t
text_in (refused n v) = []

-- A text that is given has room, and is the one that was to be given.
given_room : (room : ℕ) (t u : List ℕ) → in_room room t ≡ text u → (u ≡ t) × (length u ≤ room)
given_room room t u e =
    by_order room (length t)
    (λ h. absurd (false≢true (ap is_text (sym (room_short room t h) ∙ e))))
    (λ h. let same : t ≡ u = ap text_in (sym (room_enough room t h) ∙ e) in (sym same, rw (← same) h))

module _ (bytes : List ℕ) (len : ℕ) (offsets sizes : List ℕ) (unit room : ℕ) where
  abbrev plan : List Chunk
  plan = hex_plan unit (blocks_of offsets sizes)

  pub exported : (t : List ℕ) → hex_outcome bytes len offsets sizes unit room ≡ text t
      → (too_high (hex_plan unit (blocks_of offsets sizes)) ≡ false) × (t ≡ hex_text bytes len (hex_plan unit (blocks_of offsets sizes))) × (length t ≤ room)
  unfolding hex_outcome plan_outcome
  exported t =
      go (bad_size bytes len) (outside 1 64 unit) (long_list offsets sizes) (ltb (fault_at offsets sizes) (length offsets)) (too_high plan) refl
    where
      go : (a b c d h : Bool) → too_high plan ≡ h
          → cond a (refused 1 0) (cond b (refused 2 0) (cond c (refused 3 4096) (cond d (refused 3 (fault_at offsets sizes)) (cond h (refused 5 0) (in_room room (hex_text bytes len plan)))))) ≡ text t
          → (too_high plan ≡ false) × (t ≡ hex_text bytes len plan) × (length t ≤ room)
      go true b c d h p e = absurd (false≢true (ap is_text e))
      go false true c d h p e = absurd (false≢true (ap is_text e))
      go false false true d h p e = absurd (false≢true (ap is_text e))
      go false false false true h p e = absurd (false≢true (ap is_text e))
      go false false false false true p e = absurd (false≢true (ap is_text e))
      go false false false false false p e = let g = given_room room (hex_text bytes len plan) t e in (p, g.0, g.1)

  -- Read by Intel's specification, the text holds exactly the records of the blocks, each with its address and its bytes of the image, and
  -- the end record last.
  pub conforms : (t : List ℕ) → hex_outcome bytes len offsets sizes unit room ≡ text t
      → records t ≡ some (map (data_record bytes len) (hex_plan unit (blocks_of offsets sizes)) ++ (end_record ∷ []))
  conforms t e =
      let x = exported t e in
      let good = each_both Low (λ c. c.count ≤ 32) (λ c. (c.address ≤ 65535) × (c.count ≤ 255)) plan (λ c x y. (x, omega arith)) (low_each plan x.0) (plan_counts unit (blocks_of offsets sizes)) in
      ap records x.1 ∙ decodes bytes len plan good

  -- An answer of number 0 comes with a text.
  pub text_given : (answer (hex_outcome bytes len offsets sizes unit room)).number ≡ 0 → (t : List ℕ) × (hex_outcome bytes len offsets sizes unit room ≡ text t)
  unfolding hex_outcome plan_outcome
  text_given =
      go (bad_size bytes len) (outside 1 64 unit) (long_list offsets sizes) (ltb (fault_at offsets sizes) (length offsets)) (too_high plan) (ltb room (length u))
    where
      u : List ℕ
      u = hex_text bytes len plan

      ladder : Bool → Bool → Bool → Bool → Bool → Bool → Outcome
      ladder a b c d h k = cond a (refused 1 0) (cond b (refused 2 0) (cond c (refused 3 4096) (cond d (refused 3 (fault_at offsets sizes)) (cond h (refused 5 0) (cond k (refused 8 (length u)) (text u))))))

      go : (a b c d h k : Bool) → (answer (ladder a b c d h k)).number ≡ 0 → (t : List ℕ) × (ladder a b c d h k ≡ text t)
      go true b c d h k e = absurd (omega arith)
      go false true c d h k e = absurd (omega arith)
      go false false true d h k e = absurd (omega arith)
      go false false false true h k e = absurd (omega arith)
      go false false false false true k e = absurd (omega arith)
      go false false false false false true e = absurd (omega arith)
      go false false false false false false e = (u, refl)
